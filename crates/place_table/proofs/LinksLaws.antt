-- Where the links of a program begin in the table of lines, and that its marks are those of its statements that shield.
use mathlib.Core.Bool.{Bool, true, false, cond, ◌&&◌, ◌||◌}
use mathlib.Core.List.{List, [], ◌∷◌}
use mathlib.Core.Logic.{inl, inr}
use mathlib.Core.Path.{◌≡◌, refl, sym, ap, ◌∙◌}
use Prim.Native.Nat.{ℕ, zero, suc, ◌+◌, ◌*◌, ◌-◌, ◌/◌, ◌^◌, ◌≤◌, ◌<◌}
use native.Mathlib.Omega.{arith}
use lib.Bits.{bit_or}
use lib.Dec.{eqb, ltb}
use lib.ListN.{length, get_or, drop, drop_of_length-le}
use lib.Seq.{drop-cons}
use borrow.Author.Tests.{eq-eqb, ne_eqb, ltb-false}
use Rattle.spec_base.specs.Basic.{any, has}
use Rattle.law_base.specs.SetLaws.{has_empty, has_bit_or, has_bit}
use Rattle.spec_text.specs.declared.Line.{Line}
use Rattle.spec_text.specs.declared.LineKind.{LineKind}
use Rattle.spec_text.specs.declared.LineKind.TheVariants.{Rl, Fk, Pr, St, Lo, Br, El, En, Li}
use Rattle.spec_text.specs.Reading.{is_statement_of}
use Rattle.spec_graph.specs.Program.{links_of}
use Rattle.spec_graph.specs.Edge.{shields}
use Rattle.node_laws.specs.Bodies.{body_of, body_of_end, body_of_later}
use Rattle.node_laws.specs.LineCases.{LineCase, line_case, link_program, links_later}
use Rattle.node_laws.specs.LineCases.LineCase.{is_program_lem, is_link_lem, is_other}
use Rattle.unfold_laws.specs.Codes.{mark_in, bit_in}
use Rattle.value_tables.specs.Lines.{pr_number, li_number, line_number, line_words, line_table}
use Rattle.value_tables.specs.LineLaws.{line_table_length, cell_at, number_at, number_names, mark_told}
use Rattle.place_laws.specs.Keys.{eqb_comm}
use Rattle.place_links.specs.declared.Links.{Links}
use Rattle.place_links.specs.LineLinks.{links_from, links_in}

-- ---- the marks of lines

-- beside those of a word
abbrev pub marked : ℕ → List Line → ℕ
marked marks [] = marks
marked marks (l ∷ lines) = marked (bit_or marks (mark_in l.kind l.id)) lines

-- a line's mark has its id where it is a statement's that shields
mark_has : (kind : LineKind) (id k : ℕ) → k < 32 → has (mark_in kind id) k ≡ is_statement_of shields kind && eqb id k
unfolding mark_in bit_in is_statement_of
mark_has (St s) id k h = go (shields s) (ltb id 32) refl
  where
    go : (b small : Bool) → ltb id 32 ≡ small → has (cond (b && small) (2 ^ id) 0) k ≡ b && eqb id k
    go true true e = has_bit id k ∙ eqb_comm k id
    go true false e = let past = ltb-false id 32 e in has_empty k ∙ sym (ne_eqb id k (λ z. omega arith))
    go false small e = has_empty k
mark_has Rl id k h = has_empty k
mark_has Fk id k h = has_empty k
mark_has Pr id k h = has_empty k
mark_has Lo id k h = has_empty k
mark_has Br id k h = has_empty k
mark_has El id k h = has_empty k
mark_has En id k h = has_empty k
mark_has Li id k h = has_empty k

-- the marks of lines have the ids of their statements that shield
pub marks_has : (marks : ℕ) (lines : List Line) (k : ℕ) → k < 32
    → has (marked marks lines) k ≡ has marks k || any (λ x. is_statement_of shields x.kind && eqb x.id k) lines
marks_has marks [] k h = end (has marks k)
  where
    end : (b : Bool) → b ≡ b || false
    end true = refl
    end false = refl
marks_has marks (l ∷ lines) k h =
    marks_has (bit_or marks (mark_in l.kind l.id)) lines k h
    ∙ ap (λ (b : Bool). b || any (λ x. is_statement_of shields x.kind && eqb x.id k) lines)
    (has_bit_or marks (mark_in l.kind l.id) k ∙ ap (λ (b : Bool). has marks k || b) (mark_has l.kind l.id k h))
    ∙ regroup (has marks k) _ _
  where
    regroup : (a b c : Bool) → (a || b) || c ≡ a || (b || c)
    regroup true b c = refl
    regroup false b c = refl

-- ---- where links begin

-- from line i on: the links are those of the lines from there, and the marks those of the lines up to the first `li` or `pr`
pub record LinksAt (lines : List Line) (i marks : ℕ) (r : Links) : Type 0 where
  pub inside : r.first ≤ length lines
  pub links : links_of (drop r.first lines) ≡ links_of (drop i lines)
  pub marks_are : r.marks ≡ marked marks (body_of (drop i lines))

module _ (lines : List Line) where
  abbrev table : List ℕ
  table = line_table lines

  -- what a line gives: a `pr` or `li` ends the search, any other adds its mark and has no link
  step : (n i : ℕ) (l : Line) (rest : List Line) (marks : ℕ) → i ≤ length lines → drop i lines ≡ l ∷ rest → drop (i + 1) lines ≡ rest
      → get_or table (i * 8) 0 ≡ line_number l.kind → get_or table (i * 8 + 7) 0 ≡ mark_in l.kind l.id
      → ((marks : ℕ) → LinksAt lines (i + 1) marks (links_from n table (i + 1) marks)) → LinksAt lines i marks (links_from (suc n) table i marks)
  unfolding links_from
  step n i l rest marks inside here next number mark again = go (line_case l.kind)
    where
      code : ℕ
      code = get_or table (i * 8) 0

      -- the search ends here, where the body does
      ends : body_of (l ∷ rest) ≡ [] → LinksAt lines i marks (record { first = i; marks = marks })
      ends none =
          record { inside = inside; links = refl; marks_are = sym (ap (λ (x : List Line). marked marks (body_of x)) here ∙ ap (marked marks) none) }

      go : LineCase l.kind → LinksAt lines i marks (links_from (suc n) table i marks)
      go (is_program_lem e) = rw (eq-eqb code pr_number (number ∙ ap line_number e)) (ends (body_of_end l rest (inl e)))
      go (is_link_lem e) =
          let names = number_names l.kind in
          rw (ne_eqb code pr_number (λ x. link_program e (names.0 (sym number ∙ x))), eq-eqb code li_number (number ∙ ap line_number e))
          (ends (body_of_end l rest (inr e)))
      go (is_other p q) =
          let word = bit_or marks (mark_in l.kind l.id) in
          let r = again word in
          let names = number_names l.kind in
          rw (ne_eqb code pr_number (λ x. p (names.0 (sym number ∙ x))), ne_eqb code li_number (λ x. q (names.1 (sym number ∙ x))), mark)
          (record {
            inside = r.inside;
            links = r.links ∙ ap links_of next ∙ sym (ap links_of here ∙ links_later l rest p q);
            marks_are =
                r.marks_are ∙ ap (λ (x : List Line). marked word (body_of x)) next
                ∙ sym (ap (λ (x : List Line). marked marks (body_of x)) here ∙ ap (marked marks) (body_of_later l rest p q));
          })

  mark_at : (i : ℕ) (d : Line) → i < length lines → get_or table (i * 8 + 7) 0 ≡ mark_in (get_or lines i d).kind (get_or lines i d).id
  unfolding line_words
  mark_at i d inside = cell_at lines i 7 d inside (omega arith) ∙ mark_told (get_or lines i d).kind (get_or lines i d).id

  -- the links that the table gives from line i on
  links_lines : (n i : ℕ) → n + i ≡ length lines → (marks : ℕ) → LinksAt lines i marks (links_from n table i marks)
  unfolding links_from body_of
  links_lines zero i h marks =
      record { inside = omega arith; links = refl; marks_are = rw (drop_of_length-le lines {i = i} (omega arith)) refl }
  links_lines (suc n) i h marks = go lines refl (λ w. links_lines n (i + 1) (omega arith) w)
    where
      go : (ls : List Line) → ls ≡ lines → ((w : ℕ) → LinksAt lines (i + 1) w (links_from n table (i + 1) w))
          → LinksAt lines i marks (links_from (suc n) table i marks)
      go [] e again = let z = ap length e in absurd (omega arith)
      go (d ∷ ls) e again =
          let inside : i < length lines = omega arith in
          let m : i + 1 ≡ suc i = omega arith in
          step n i (get_or lines i d) (drop (suc i) lines) marks (omega arith) (drop-cons lines i d inside) (ap (λ (k : ℕ). drop k lines) m)
          (number_at lines i d inside) (mark_at i d inside) again

  -- those of a program whose lines begin there
  pub links_begin : (i : ℕ) → i ≤ length lines → LinksAt lines i 0 (links_in table i)
  unfolding links_in
  links_begin i h = links_lines (length table / 8 - i) i (omega (arith, line_table_length lines)) 0
