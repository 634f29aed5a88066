-- The row made of a place's word is the row of the place.
use mathlib.Core.List.{List, [], ◌∷◌, Memᴰ}
use mathlib.Core.Option.{some}
use mathlib.Core.Path.{◌≡◌, refl, sym, ap, ◌∙◌}
use Prim.Native.Nat.{ℕ, zero, suc, ◌+◌, ◌*◌, ◌-◌, ◌/◌, ◌≤◌, ◌<◌}
use native.Mathlib.Omega.{arith}
use lib.ListN.{length, get_or, get_elem?, take, drop, drop_of_length-le}
use lib.Seq.{drop-cons}
use borrow.Author.Tests.{eq-eqb, ne_eqb}
use Rattle.law_base.specs.ListLaws.{get_elem?_lt, some_injective}
use Rattle.spec_text.specs.declared.Line.{Line}
use Rattle.spec_graph.specs.Program.{Statement, Link, statement_of, links_of}
use Rattle.spec_graph.specs.Unfolding.{Occurrence, Node}
use Rattle.spec_graph.specs.Edge.{R, W, T, Place, at}
use Rattle.node_laws.specs.LineCases.{LineCase, line_case, link_program, links_here, links_end, links_later}
use Rattle.node_laws.specs.LineCases.LineCase.{is_program_lem, is_link_lem, is_other}
use Rattle.place_row.specs.RowTable.{kind_number, row_of, words_of}
use Rattle.unfold_laws.specs.Seen.{StandsFor, seen_at}
use Rattle.place_laws.specs.Ids.{FromLine, statement_line}
use Rattle.place_laws.specs.Guarded.{IdsSmall, Marked}
use Rattle.place_laws.specs.Keys.{with_link, keys_of, near_keys, far_keys}
use Rattle.unfold_laws.specs.WordCode.{line_in}
use Rattle.value_tables.specs.Lines.{pr_number, li_number, line_number, line_words, line_table}
use Rattle.value_tables.specs.LineLaws.{line_table_length, cell_at, number_at, number_names, sets_told}
use Rattle.place_links.specs.declared.Links.{Links}
use Rattle.place_keys.specs.LineKeys.{link_of, link_at, key_at, keys_from, place_keys}
use Rattle.place_table.specs.RowWords.{row_words}

-- ---- the keys from the lines

module _ (lines : List Line) (child seen : ℕ) where
  abbrev table : List ℕ
  table = line_table lines

  -- the keys that a line adds, and where they stop
  step : (n i : ℕ) (l : Line) (rest : List Line) (word : ℕ) → get_or table (i * 8) 0 ≡ line_number l.kind
      → link_at table i ≡ link_of l.id l.rel l.to
      → ((word : ℕ) → keys_from n table (i + 1) child seen word ≡ keys_of child seen (links_of rest) word)
      → keys_from (suc n) table i child seen word ≡ keys_of child seen (links_of (l ∷ rest)) word
  unfolding keys_from key_at keys_of
  step n i l rest word first link again = go (line_case l.kind)
    where
      code : ℕ
      code = get_or table (i * 8) 0

      go : LineCase l.kind → keys_from (suc n) table i child seen word ≡ keys_of child seen (links_of (l ∷ rest)) word
      go (is_program_lem e) =
          rw (eq-eqb code pr_number (first ∙ ap line_number e)) (sym (ap (λ (k : List Link). keys_of child seen k word) (links_end l rest e)))
      go (is_link_lem e) =
          let names = number_names l.kind in
          rw (ne_eqb code pr_number (λ x. link_program e (names.0 (sym first ∙ x))), eq-eqb code li_number (first ∙ ap line_number e), link)
          (again (with_link child seen (link_of l.id l.rel l.to) word)
          ∙ sym (ap (λ (k : List Link). keys_of child seen k word) (links_here l rest e)))
      go (is_other p q) =
          let names = number_names l.kind in
          rw (ne_eqb code pr_number (λ x. p (names.0 (sym first ∙ x))), ne_eqb code li_number (λ x. q (names.1 (sym first ∙ x))))
          (again word ∙ sym (ap (λ (k : List Link). keys_of child seen k word) (links_later l rest p q)))

  link_cells : (i : ℕ) (e : Line) → i < length lines → link_at table i ≡ link_of (get_or lines i e).id (get_or lines i e).rel (get_or lines i e).to
  unfolding link_at line_words
  link_cells i e h =
      rw (cell_at lines i 1 e h (omega arith), cell_at lines i 2 e h (omega arith), cell_at lines i 3 e h (omega arith)) refl

  -- E3: the keys gathered from the table are those gathered from the links
  pub keys_lines : (n i : ℕ) → n + i ≡ length lines → (word : ℕ)
      → keys_from n table i child seen word ≡ keys_of child seen (links_of (drop i lines)) word
  unfolding keys_from links_of keys_of
  keys_lines zero i h word = rw (drop_of_length-le lines {i = i} (omega arith)) refl
  keys_lines (suc n) i h word = go (λ w. keys_lines n (i + 1) (omega arith) w) lines refl
    where
      go : ((w : ℕ) → keys_from n table (i + 1) child seen w ≡ keys_of child seen (links_of (drop (i + 1) lines)) w)
          → (ls : List Line) → ls ≡ lines → keys_from (suc n) table i child seen word ≡ keys_of child seen (links_of (drop i lines)) word
      go again [] e = let z = ap length e in absurd (omega arith)
      go again (d ∷ ls) e =
          let inside : i < length lines = omega arith in
          let m : suc i ≡ i + 1 = omega arith in
          step n i (get_or lines i d) (drop (suc i) lines) word (number_at lines i d inside) (link_cells i d inside)
          (λ w. again w ∙ ap (λ (k : ℕ). keys_of child seen (links_of (drop k lines)) w) (sym m))
          ∙ ap (λ (t : List Line). keys_of child seen (links_of t) word) (sym (drop-cons lines i d inside))

-- what stands at a place is the default where the list has none
pub element_default : {A : Type 0} (l : List A) (i : ℕ) {x : A} → get_elem? l i ≡ some x → (d : A) → get_or l i d ≡ x
element_default [] i e d = let z : ◌≡◌ {A = ℕ} 0 1 = cc in absurd (omega arith)
element_default (y ∷ l) zero e d = some_injective e
element_default (y ∷ l) (suc i) e d = element_default l i e d

-- ---- the row of a place

-- where the links of a node's program begin, and which of its statements are marked
pub record NodeBegins (lines : List Line) (n : Node) (links : Links) : Type 0 where
  pub inside : links.first ≤ length lines
  pub same : n.links ≡ links_of (drop links.first lines)
  pub marked : Marked n links.marks

module _ (lines : List Line) (links : Links) (s : Place) (word : ℕ) where
  abbrev before : List Occurrence
  before = take s.place s.node.places

  record Cells (x : Statement) (i : ℕ) : Type 0 where
    number : get_or (line_table lines) (i * 8) 0 ≡ kind_number x.kind
    id : get_or (line_table lines) (i * 8 + 1) 0 ≡ x.id
    relation : get_or (line_table lines) (i * 8 + 2) 0 ≡ x.relation
    reads : get_or (line_table lines) (i * 8 + 4) 0 ≡ R x
    writes : get_or (line_table lines) (i * 8 + 5) 0 ≡ W x
    tests : get_or (line_table lines) (i * 8 + 6) 0 ≡ T x

  -- the words of a statement's line
  cells : (x : Statement) (i : ℕ) → FromLine lines i x → Cells x i
  unfolding line_words statement_of R W T
  cells x i f =
      let inside = get_elem?_lt lines i f.at in
      let here = element_default lines i f.at f.line in
      rw f.same (record {
        number = number_at lines i f.line inside ∙ rw (here, f.kind) refl;
        id = cell_at lines i 1 f.line inside (omega arith) ∙ rw here refl;
        relation = cell_at lines i 2 f.line inside (omega arith) ∙ rw here refl;
        reads = cell_at lines i 4 f.line inside (omega arith) ∙ rw (here, f.kind) ((sets_told f.sort).reads f.line.reads);
        writes = cell_at lines i 5 f.line inside (omega arith) ∙ rw (here, f.kind) ((sets_told f.sort).writes f.line.writes);
        tests = cell_at lines i 6 f.line inside (omega arith) ∙ rw (here, f.kind) ((sets_told f.sort).tests f.line.tests);
      })

  -- E0, E3: the row made of the word that stands for a place
  pub row_of_place : StandsFor lines before s.occurrence word → IdsSmall before → Memᴰ s.occurrence s.node.places
      → NodeBegins lines s.node links → row_words (line_table lines) links s.number s.place word ≡ words_of (row_of s)
  unfolding row_words words_of row_of place_keys
  row_of_place w small here begins =
      let first = links.first in
      let c = cells (at s) (line_in word) (statement_line lines (line_in word) (at s) w.line) in
      let fuel : length (line_table lines) / 8 - first + first ≡ length lines = omega (arith, line_table_length lines, begins.inside) in
      let near = keys_lines lines (at s).id (seen_at before s.occurrence) (length (line_table lines) / 8 - first) first fuel 0 in
      let far = keys_lines lines (at s).id links.marks (length (line_table lines) / 8 - first) first fuel 0 in
      rw (
        c.number,
        c.id,
        c.relation,
        c.reads,
        c.writes,
        c.tests,
        w.seen,
        near,
        far,
        ← begins.same,
        near_keys s small,
        far_keys s links.marks here begins.marked,
      ) refl
