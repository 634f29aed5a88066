-- What the words of places say: each tells a line that holds its place's statement, and what is seen there.
use Rattle.std.specs.Prelude.{false, List, ◌++◌, ◌≡◌, ℕ, ◌≤◌, ltb, length, drop}
use Rattle.std.proofs.Common.{sym, ap, subst, ◌∙◌, arith, length-take, ltb-false}
use Rattle.spec_base.specs.Basic.{numbers}
use Rattle.law_base.specs.BoolLaws.{or_false}
use Rattle.spec_text.specs.declared.Line.{Line}
use Rattle.spec_text.specs.declared.Workload.{Workload}
use Rattle.spec_text.specs.Value.{Given, lines_of}
use Rattle.law_text.specs.ValueLaws.{given_read, given_fits}
use Rattle.spec_graph.specs.Unfolding.{nodes_of}
use Rattle.spec_report.specs.State.{statements_in, is_too_many}
use Rattle.unfold_laws.specs.Along.{OwnHere}
use Rattle.unfold_laws.specs.Codes.{marks_of}
use Rattle.unfold_laws.specs.Places.{place_words}
use Rattle.unfold_laws.specs.PiecesLaws.{all_pieces, flat_length}
use Rattle.unfold_laws.specs.PlacesLaws.{OwnWord, own_tables, flat_own, words_for}
use Rattle.unfold_laws.specs.Seen.{mark_of, WordsFor}
use Rattle.value_tables.proofs.CellLaws.{number_at}
use Rattle.unfold.specs.OwnLaws.{own_along}

-- words that stand for all places of the nodes stand from an area's start on, and past them it is as it was
pub record PlacesStand (lines : List Line) (before area : List ℕ) : Type 0 where
  pub words : List ℕ
  pub many : length words ≡ statements_in (nodes_of lines)
  pub fits : WordsFor lines (nodes_of lines) words
  pub stands : area ≡ words ++ drop (length words) before

pub few_nodes : (lines : List Line) → is_too_many lines ≡ false → (length (nodes_of lines) ≤ 64) × (statements_in (nodes_of lines) ≤ 512)
unfolding is_too_many
few_nodes lines h =
    let both = or_false (ltb 64 (length (nodes_of lines))) (ltb 512 (statements_in (nodes_of lines))) h in
    (ltb-false 64 (length (nodes_of lines)) both.0, ltb-false 512 (statements_in (nodes_of lines)) both.1)

pub places_stand : (w : Workload) → Given w → is_too_many (lines_of w) ≡ false → (before area : List ℕ)
    → area ≡ place_words (lines_of w) (nodes_of (lines_of w)) ++ drop (length (place_words (lines_of w) (nodes_of (lines_of w)))) before
    → PlacesStand (lines_of w) before area
unfolding lines_of
places_stand w g few before area e =
    let lines = lines_of w in
    let short : length lines ≤ 2048 = omega (arith, length-take w.count w.lines, given_fits g) in
    let fit = own_tables lines (numbers (length lines)) short (λ i h. sym (number_at (length lines) i h)) in
    let pieces = all_pieces (OwnHere lines) (OwnWord lines) mark_of lines (numbers (length lines)) (marks_of lines) fit
    (own_along g.text lines (given_read g)) (omega (arith, (few_nodes lines few).0)) in
    let same = flat_own lines (nodes_of lines) _ pieces in
    record {
      words = place_words lines (nodes_of lines);
      many = ap length (sym same) ∙ flat_length (OwnWord lines) mark_of (nodes_of lines) _ pieces;
      fits = subst (WordsFor lines (nodes_of lines)) same (words_for lines (nodes_of lines) _ pieces);
      stands = e;
    }
