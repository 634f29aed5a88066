-- The paths through the filling of a table for a workload value.
use mathlib.Core.Bool.{Bool, true, false, cond}
use mathlib.Core.List.{List, [], ◌∷◌, ◌++◌}
use mathlib.Core.Option.{some}
use Rattle.std.specs.Prelude.{Result, Ok, Err}
use mathlib.Core.Path.{◌≡◌, refl, sym, ap, subst, ◌∙◌}
use Prim.Native.Nat.{ℕ, zero, suc, ◌+◌, ◌*◌, ◌≤◌}
use native.Mathlib.Omega.{arith}
use lib.ListN.{length, get_elem?, take, drop, replicate, length-take, length-append}
use borrow.Author.Tests.{le-ltb}
use Rattle.law_base.specs.ListLaws.{some_injective, get_elem?_member}
use Rattle.spec_text.specs.declared.Line.{Line}
use Rattle.spec_text.specs.declared.Workload.{Workload}
use Rattle.spec_text.specs.Value.{Given, lines_of, value_of}
use Rattle.law_text.specs.ValueLaws.{given_read, given_value, lines_of_value}
use Rattle.spec_graph.specs.Unfolding.{Node, nodes_of}
use Rattle.spec_report.specs.State.{StateRefusal, statements_in, is_too_many, short_for_unfoldings}
use Rattle.spec_report.specs.State.StateRefusal.{not_given, taken}
use Rattle.place_row.specs.RowTable.{rows_of, table_of}
use Rattle.unfold.specs.declared.Unfolded.{Unfolded}
use Rattle.unfold.specs.declared.Unfolding.{Unfolding}
use Rattle.unfold.specs.UnfoldTold.{no_unfolding, unfoldings_in, nodes_told}
use Rattle.unfold.specs.UnfoldToldLaws.{length_told}
use Rattle.unfold.specs.UnfoldSteps.{table_told, over_many, is_too_short, pieces_over, Tabled}
use Rattle.unfold.specs.PieceTable.{unfoldings_from, table}
use Rattle.unfold.specs.PieceTableLaws.{length_unfoldings}
use Rattle.unfold_laws.specs.Pieces.{Piece, flat}
use Rattle.unfold.specs.UnfoldSettled.{PlacesSettled}
use Rattle.unfold.specs.UnfoldLines.{LinePlacesSettled}
use Rattle.unfold.specs.UnfoldInto.{Into}
use Rattle.unfold.specs.UnfoldInto.Into.{into_none, into_cells}
use Rattle.unfold.specs.IntoLaws.{cells_first, cells_whole, all_inside}
use Rattle.unfold.specs.Stand.{PlacesStand, places_stand}
use Rattle.spec_report.specs.Refusals.{places_few, taken_given, other_area}
use Rattle.place_programs.specs.declared.Begun.{Begun}
use Rattle.place_programs.specs.LinePrograms.{begun_in}
use Rattle.word_rows.specs.Put.{put_at}
use Rattle.refusal.specs.declared.Fault.{Fault}
use Rattle.refusal.specs.declared.Fault.TheVariants.{Area, NotGiven, Unfoldings}
use Rattle.refusal.specs.Numbers.{number_of}
use Rattle.refusal.specs.Refusing.{refusal_in}
use Rattle.place_table.specs.declared.Rows.{Rows}
use Rattle.value_tables.specs.Lines.{line_table}
use Rattle.place_table.specs.RowWords.{unfolding_at, total_of, all_rows, rows_told, FilledBy}
use Rattle.place_table.specs.Rows.{rows_said, RowsSettled}
use Rattle.place_table.specs.Rows.RowsSettled.{refused, filled}
use Rattle.place_table.specs.LineRows.{LinesFilled}
use Rattle.place_table.proofs.PutRowLaws.{all_length}
use Rattle.place_table.proofs.NodeLaws.{Told, table_filled, places_told}
use Rattle.place_table.proofs.ProgramLaws.{programs_counted, node_begins}

-- ---- filling by the parts

-- the lines' part of the cells
pub lines_part : (w : Workload) (words : List ℕ) → length words ≡ 12928 → w.count ≤ 1616 → w.count * 8 ≡ length (take (w.count * 8) words)
lines_part w words many fits = omega (arith, length-take (w.count * 8) words)

pub filled_by : {lines : List ℕ} {unfoldings : List Unfolding} {places before : List ℕ} {b : Begun} → b ≡ begun_in lines → {total : ℕ}
    → total ≡ total_of unfoldings (length unfoldings)
    → {after : List ℕ} → after ≡ put_at before 0 (all_rows lines b.firsts unfoldings places (length unfoldings))
    → FilledBy lines unfoldings places before (Ok (record { programs = b.programs; nodes = length unfoldings; places = total })) after
unfolding rows_told
filled_by h t s = record { tells = rw (h, t) refl; stands = s ∙ rw h refl }

-- ---- places for all words

-- a total from the first unfolding on
total_first : (x : Unfolding) (xs : List Unfolding) (j : ℕ) → total_of (x ∷ xs) (suc j) ≡ x.length + total_of xs j
unfolding total_of
total_first x xs zero = omega arith
total_first x xs (suc j) = let more = total_first x xs j in omega arith

-- the places of what is told of pieces are all their words
total_pieces : (s : ℕ) (ps : List Piece) → total_of (unfoldings_from s ps) (length ps) ≡ length (flat ps)
unfolding flat total_of unfoldings_from
total_pieces s [] = refl
total_pieces s (p ∷ ps) =
    total_first (record { program = p.program; start = s; length = length p.words }) (unfoldings_from (s + length p.words) ps) (length ps)
    ∙ ap (λ (k : ℕ). length p.words + k) (total_pieces (s + length p.words) ps)
    ∙ sym (length-append p.words (flat ps))

-- the unfoldings that are told
abbrev told_in : Unfolded → List Unfolding
told_in u = take u.count u.unfoldings

-- what found room in 512 words is no more
places_told_few : {codes numbers marks before after : List ℕ} {u : Unfolded} → Tabled codes numbers marks before (Ok u) after
    → length before ≡ 512 → length after ≡ 512 → total_of (told_in u) (length (told_in u)) ≤ 512
unfolding table_told table
places_told_few {codes} {numbers} {marks} {before} {after} {u} t size long =
    go (over_many codes) (is_too_short codes (length before)) t.tells t.stands
  where
    pieces : List Piece
    pieces = pieces_over codes numbers marks

    go : (a b : Bool) → Ok u ≡ cond a (Err Unfoldings) (cond b (Err Area) (Ok (table_told (table pieces))))
        → after ≡ cond a before (cond b before (flat pieces ++ drop (length (flat pieces)) before))
        → total_of (told_in u) (length (told_in u)) ≤ 512
    go true b e s = let never : ⊥ = cc in absurd never
    go false true e s = let never : ⊥ = cc in absurd never
    go false false e s =
        let same : u ≡ table_told (table pieces) = cc in
        let many = length_unfoldings 0 pieces in
        let told : told_in u ≡ unfoldings_from 0 pieces = ap told_in same ∙ cells_first (unfoldings_from 0 pieces) (length pieces) many in
        let total = ap (λ (l : List Unfolding). total_of l (length l)) told
        ∙ ap (total_of (unfoldings_from 0 pieces)) many ∙ total_pieces 0 pieces in
        let whole = ap length s ∙ length-append (flat pieces) (drop (length (flat pieces)) before) in
        omega arith

-- ---- what is told of nodes

node_told : (s : ℕ) (nodes : List Node) (j : ℕ) {n : Node} → get_elem? nodes j ≡ some n
    → ((unfolding_at (unfoldings_in s nodes) j).program ≡ n.program)
    × ((unfolding_at (unfoldings_in s nodes) j).length ≡ length n.places)
unfolding unfoldings_in
node_told s [] j e = let z : ◌≡◌ {A = ℕ} 0 1 = cc in absurd (omega arith)
node_told s (x ∷ nodes) zero e =
    (ap (λ (n : Node). n.program) (some_injective e), ap (λ (n : Node). length n.places) (some_injective e))
node_told s (x ∷ nodes) (suc j) e = node_told (s + length x.places) nodes j e

-- ---- refusals

-- 512 words are never too few
roomy : (w : Workload) (room : ℕ) → room ≡ 512 → is_too_many (lines_of w) ≡ false → short_for_unfoldings (lines_of w) room ≡ false
unfolding short_for_unfoldings
roomy w room e t = let most = places_few w t in le-ltb room (statements_in (nodes_of (lines_of w))) (omega arith)

module _ (w : Workload) (zeros : List ℕ) (size : length zeros ≡ 512) {told : Result Unfolded Fault} (area : List ℕ)
    (settled : PlacesSettled w zeros told area) (before : List ℕ) where
  -- S21, S22
  pub refused_rows : {fault : Fault} → told ≡ Err fault → RowsSettled w before (Err fault) before
  unfolding rows_said
  refused_rows {fault} e =
      let number = ap refusal_in e in
      let refusal = other_area (roomy w (length zeros) size) false number settled.refusal in
      refused (number_of fault) (subst (StateRefusal w false) number refusal) refl refl

  module _ (u : Unfolded) (told_is : told ≡ Ok u) where
    abbrev lines : List Line
    lines = lines_of w

    abbrev nodes : List Node
    nodes = nodes_of (lines_of w)

    both : Given w × (is_too_many (lines_of w) ≡ false)
    both = taken_given settled.refusal (ap refusal_in told_is)

    is_told : u ≡ nodes_told nodes
    is_told = (settled.unfolded u told_is).0

    stand : PlacesStand lines zeros area
    stand = places_stand w both.0 both.1 zeros area (settled.unfolded u told_is).1

    is_in : told_in u ≡ unfoldings_in 0 nodes
    unfolding nodes_told
    is_in = ap told_in is_told ∙ cells_first (unfoldings_in 0 nodes) (length nodes) (length_told 0 nodes)

    all_told : (j : ℕ) (n : Node) → get_elem? nodes j ≡ some n
        → Told lines nodes (begun_in (line_table lines)).firsts (told_in u) j n
    all_told j n e =
        let begins = node_begins both.0.text lines (given_read both.0) n (get_elem?_member nodes j e) in
        let cell = node_told 0 nodes j e in
        record {
          program = ap (λ (l : List Unfolding). (unfolding_at l j).program) is_in ∙ cell.0;
          places = ap (λ (l : List Unfolding). (unfolding_at l j).length) is_in ∙ cell.1;
          begins = begins;
        }

    count_told : length (told_in u) ≡ length nodes
    count_told = ap length is_in ∙ length_told 0 nodes

    pub total_told : total_of (told_in u) (length (told_in u)) ≡ statements_in nodes
    total_told =
        ap (total_of (told_in u)) count_told
        ∙ places_told both.0.text lines (given_read both.0) nodes stand.words (drop (length stand.words) zeros)
        (begun_in (line_table lines)).firsts (told_in u) stand.fits all_told

    abbrev firsts : List ℕ
    firsts = (begun_in (line_table lines)).firsts

    abbrev rows : List ℕ
    rows = all_rows (line_table lines) firsts (told_in u) area (length (told_in u))

    rows_same : rows ≡ table_of (rows_of nodes)
    rows_same =
        let rest = drop (length stand.words) zeros in
        ap (λ (a : List ℕ). all_rows (line_table lines) firsts (told_in u) a (length (told_in u))) stand.stands
        ∙ ap (all_rows (line_table lines) firsts (told_in u) (stand.words ++ rest)) count_told
        ∙ table_filled both.0.text lines (given_read both.0) nodes stand.words rest firsts (told_in u)
        stand.fits all_told

    -- the table is filled
    pub filled_table : (r : Result Rows Fault) (after : List ℕ)
        → FilledBy (line_table lines) (told_in u) area before r after → RowsSettled w before r after
    unfolding rows_said rows_told put_at
    filled_table r after f =
        let total = total_told in
        let size = all_length (line_table lines) firsts (told_in u) area (length (told_in u)) in
        let long : 0 + length rows ≡ 8 * statements_in nodes = omega arith in
        filled (taken both.0 both.1 refl)
        (ap rows_said f.tells ∙ rw (programs_counted lines, total, count_told) refl)
        (f.stands
        ∙ ap (λ (k : ℕ). rows ++ drop k before) long
        ∙ ap (λ (l : List ℕ). l ++ drop (8 * statements_in nodes) before) rows_same)

-- ---- over a table of lines

module _ {lines places₀ table₀ : List ℕ} {told : Result Unfolded Fault} {places : List ℕ} (unfolded : LinePlacesSettled lines places₀ told places)
    (size : length places₀ ≡ 512) (long : length places ≡ 512) where
  -- a refusal
  lines_refused : {fault : Fault} → told ≡ Err fault → LinesFilled lines places₀ table₀ (Err fault) places table₀
  lines_refused {fault} e =
      record {
        told = told;
        tabled = unfolded.tabled;
        lent = long ∙ sym size;
        refuses = λ f is. let same : fault ≡ f = cc in (ap Err same, refl);
        fills = λ u is. let never : ⊥ = cc in absurd never;
        settled = λ ls t g. refused_rows (value_of ls) places₀ size places (unfolded.settled ls t g) table₀ e;
      }

  -- rows
  lines_filled : {u : Unfolded} → told ≡ Ok u → {r : Result Rows Fault} {table' : List ℕ}
      → FilledBy lines (told_in u) places table₀ r table' → LinesFilled lines places₀ table₀ r places table'
  lines_filled {u} e {r} {table'} f =
      record {
        told = told;
        tabled = unfolded.tabled;
        lent = long ∙ sym size;
        refuses = λ fault is. let never : ⊥ = cc in absurd never;
        fills = λ v is. let same : u ≡ v = cc in
            subst (λ (x : Unfolded). FilledBy lines (told_in x) places table₀ r table') same f;
        settled =
            λ ls t g. filled_table (value_of ls) places₀ size places (unfolded.settled ls t g) table₀ u e r table'
            (subst (λ (l : List ℕ). FilledBy l (told_in u) places table₀ r table')
            (t ∙ ap line_table (sym (lines_of_value ls))) f);
      }

-- the same where what is told of the unfoldings stands in cells that held zeros
abbrev pub Unfolds : List ℕ → List ℕ → Result ℕ Fault → List Unfolding → List ℕ → Type 0
Unfolds lines places₀ r unfoldings places = Into (λ u. LinePlacesSettled lines places₀ u places) (replicate 64 no_unfolding) r unfoldings

module _ (lines places₀ : List ℕ) (unfoldings : List Unfolding) (places : List ℕ) (size : length places₀ ≡ 512) (long : length places ≡ 512) where
  pub told_refused : {fault : Fault} {table₀ : List ℕ} → Unfolds lines places₀ (Err fault) unfoldings places
      → LinesFilled lines places₀ table₀ (Err fault) places table₀
  told_refused {fault} (into_none f settles is kept) = let same : Err f ≡ Err fault = cc in lines_refused settles size long same
  told_refused (into_cells u settles is held) = let never : ⊥ = cc in absurd never

  -- the cells have room for as many as are told
  pub told_inside : {n : ℕ} → Unfolds lines places₀ (Ok n) unfoldings places → n ≤ length unfoldings
  told_inside (into_none f settles is kept) = let never : ⊥ = cc in absurd never
  told_inside {n} (into_cells u settles is held) =
      let same = cells_whole held settles.tabled in
      let many : n ≡ u.count = cc in
      rw (same, many) (all_inside settles.tabled)

  pub told_few : {n : ℕ} → Unfolds lines places₀ (Ok n) unfoldings places → total_of (take n unfoldings) (length (take n unfoldings)) ≤ 512
  told_few (into_none f settles is kept) = let never : ⊥ = cc in absurd never
  told_few {n} (into_cells u settles is held) =
      let same = cells_whole held settles.tabled in
      let many : n ≡ u.count = cc in
      rw (same, many) (places_told_few settles.tabled size long)

  pub told_filled : {n : ℕ} {table₀ : List ℕ} → Unfolds lines places₀ (Ok n) unfoldings places → {rows : Result Rows Fault}
      {table' : List ℕ} → FilledBy lines (take n unfoldings) places table₀ rows table' → LinesFilled lines places₀ table₀ rows places table'
  told_filled (into_none f settles is kept) fills = let never : ⊥ = cc in absurd never
  told_filled {n} (into_cells u settles is held) fills =
      let same = cells_whole held settles.tabled in
      let many : n ≡ u.count = cc in
      lines_filled settles size long refl (rw (same, many) at fills)

-- ---- of a value

-- S21
pub rows_not_given : {w : Workload} {before : List ℕ} → (Given w → ⊥) → RowsSettled w before (Err NotGiven) before
unfolding rows_said
rows_not_given never = refused 21 (not_given never) refl refl

-- a given value's lines stand in its table of lines
pub rows_given : {w : Workload} → Given w → {lines places₀ table₀ : List ℕ} {r : Result Rows Fault} {places table : List ℕ}
    → lines ≡ line_table (lines_of w)
    → LinesFilled lines places₀ table₀ r places table → RowsSettled w table₀ r table
rows_given {w} g {table₀ = table₀} {r} {table = table} e f =
    let same = given_value g in
    subst (λ (v : Workload). RowsSettled v table₀ r table) (sym same) (f.settled (lines_of w) e (subst Given same g))
