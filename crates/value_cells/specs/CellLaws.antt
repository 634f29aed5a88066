-- The test of a cell without a line tells the unused line, cell by cell.
use Rattle.std.specs.Prelude.{true, false, List, [], ◌∷◌, ◌≡◌, refl, ℕ, zero, suc, ◌+◌, ◌≤◌, ◌<◌, eqb, length, get_or, drop, replicate}
use Rattle.std.proofs.Common.{ap, add-one, arith, drop_of_length-le, drop-cons, eqb-true}
use Rattle.spec_base.specs.Basic.{all}
use Rattle.law_base.specs.BoolLaws.{and_true, and_of, true_false}
use Rattle.spec_text.specs.declared.Line.{Line}
use Rattle.spec_text.specs.declared.LineKind.{LineKind}
use Rattle.spec_text.specs.declared.LineKind.TheVariants.{Rl, Fk, Pr, St, Lo, Br, El, En, Li}
use Rattle.spec_text.specs.Text.{unused_line}
use Rattle.line_kinds.specs.Kinds.{line_facts, closes_block}
use Rattle.line_kinds.specs.KindLaws.{told}
use Rattle.value_cells.specs.Cells.{is_empty}

end_kind : (k : LineKind) → eqb (line_facts k) closes_block ≡ true → k ≡ En
end_kind Rl e = absurd (true_false e refl)
end_kind Fk e = absurd (true_false e refl)
end_kind Pr e = absurd (true_false e refl)
end_kind (St s) e =
    let same : line_facts (St s) ≡ closes_block = eqb-true (line_facts (St s)) closes_block e in
    let small = (told s).small in
    absurd (omega arith)
end_kind Lo e = absurd (true_false e refl)
end_kind Br e = absurd (true_false e refl)
end_kind El e = absurd (true_false e refl)
end_kind En e = refl
end_kind Li e = absurd (true_false e refl)

all_zero : (k : LineKind) (a b c d e f : ℕ) → k ≡ En → a ≡ 0 → b ≡ 0 → c ≡ 0 → d ≡ 0 → e ≡ 0 → f ≡ 0
    → record { kind = k; id = a; rel = b; to = c; reads = d; writes = e; tests = f } ≡ unused_line
unfolding unused_line
all_zero k a b c d e f h ha hb hc hd he hf = rw (h, ha, hb, hc, hd, he, hf)

-- the test tells the unused line
pub empty_line : (l : Line) → is_empty l ≡ true → l ≡ unused_line
unfolding is_empty
empty_line l t =
    let f = and_true _ (eqb l.tests 0) t in
    let e = and_true _ (eqb l.writes 0) f.0 in
    let d = and_true _ (eqb l.reads 0) e.0 in
    let c = and_true _ (eqb l.to 0) d.0 in
    let b = and_true _ (eqb l.rel 0) c.0 in
    let a = and_true (eqb (line_facts l.kind) closes_block) (eqb l.id 0) b.0 in
    all_zero l.kind l.id l.rel l.to l.reads l.writes l.tests (end_kind l.kind a.0)
    (eqb-true l.id 0 a.1) (eqb-true l.rel 0 b.1) (eqb-true l.to 0 c.1) (eqb-true l.reads 0 d.1)
    (eqb-true l.writes 0 e.1) (eqb-true l.tests 0 f.1)

pub line_empty : is_empty unused_line ≡ true
unfolding is_empty unused_line
line_empty = refl

pub cells_empty : (lines : List Line) → all is_empty lines ≡ true → lines ≡ replicate (length lines) unused_line
cells_empty [] e = refl
cells_empty (l ∷ lines) e =
    let both = and_true (is_empty l) (all is_empty lines) e in
    rw (← (cells_empty lines both.1)) (ap (λ (m : Line). m ∷ lines) (empty_line l both.0))

pub empty_cells : (n : ℕ) → all is_empty (replicate n unused_line) ≡ true
empty_cells zero = refl
empty_cells (suc n) = and_of line_empty (empty_cells n)

-- the unused cells of a workload: none is tested from the last on, one fewer from each place on
pub cells_past : (lines : List Line) (i : ℕ) → length lines ≤ i → all is_empty (drop i lines) ≡ true
cells_past lines i h = rw (drop_of_length-le lines h)

pub cells_next : (lines : List Line) (i : ℕ) (d : Line) → i < length lines → is_empty (get_or lines i d) ≡ true
    → all is_empty (drop i lines) ≡ all is_empty (drop (i + 1) lines)
cells_next lines i d h e = rw (drop-cons lines i d h, e, add-one i)

pub cells_other : (lines : List Line) (i : ℕ) (d : Line) → i < length lines → is_empty (get_or lines i d) ≡ false
    → all is_empty (drop i lines) ≡ false
cells_other lines i d h e = rw (drop-cons lines i d h, e)
