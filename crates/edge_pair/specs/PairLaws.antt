-- The words of two rows tell the edges between them as the rules do: a meeting of a union is a meeting of a part, and what is left is a table of
-- tests over two kinds, computed.
use Rattle.std.specs.Prelude.{Bool, true, false, cond, not, ◌&&◌, ◌||◌, ◌≡◌, refl, ℕ, eqb}
use Rattle.std.proofs.Common.{⊎_elim, sym, ap, ap₂, ◌∙◌, eqb-true, eq-eqb, ne_eqb}
use Rattle.std.specs.Int.Bits.{bit_and, bit_or}
use Rattle.std.proofs.lemmas.Bool.{eqb-false}
use Rattle.spec_base.specs.Basic.{has, meets}
use Rattle.law_base.specs.BoolLaws.{same_test, and_true, or_true, or_left, or_right, or_false, not_true, not_false}
use Rattle.law_base.specs.BoolLaws.{not_of_true, not_of_false}
use Rattle.law_base.specs.SetLaws.{has_bit_or, has_nonzero, nonzero_has, meets_has, has_meets, meets_comm}
use Rattle.spec_text.specs.declared.StatementKind.{StatementKind}
use Rattle.spec_graph.specs.Edge.{selects}
use Rattle.spec_graph.specs.Edge.Letter.{A, B, C, D, E}
use Rattle.law_kinds.specs.Chances.{chance_of, told}
use Rattle.law_kinds.specs.EveryKind.{every_pair}
use Rattle.place_row.specs.declared.Row.{Row}
use Rattle.place_row.specs.KeyWord.{far_in}
use Rattle.place_row.specs.RowTable.{row_shared, row_holds, row_forward, row_back}
use Rattle.edge_pair.specs.PairWords.{kind_bit, sure_of, among, updates, readers, testers, writers, existence, deleters, key_select}
use Rattle.edge_pair.specs.PairWords.{selecters, left_of, entered_of, forward_words, back_words, never_back}

-- ---- unions

abbrev filled : ℕ → Bool
filled x = not (eqb x 0)

filled_has : (x : ℕ) → filled x ≡ true → (k : ℕ) × (has x k ≡ true)
filled_has x h = nonzero_has x (eqb-false x 0 (not_true (eqb x 0) h))

has_filled : (x k : ℕ) → has x k ≡ true → filled x ≡ true
has_filled x k h = not_of_false (ne_eqb x 0 (has_nonzero x k h))

-- a union is not empty where a part is not
filled_or : (x y : ℕ) → filled (bit_or x y) ≡ filled x || filled y
filled_or x y = same_test _ _ to of
  where
    to : filled (bit_or x y) ≡ true → filled x || filled y ≡ true
    to h =
        let t = filled_has (bit_or x y) h in
        ⊎_elim (λ e. or_left (filled y) (has_filled x t.0 e)) (λ e. or_right (filled x) (has_filled y t.0 e))
        (or_true (has x t.0) (has y t.0) (sym (has_bit_or x y t.0) ∙ t.1))

    of : filled x || filled y ≡ true → filled (bit_or x y) ≡ true
    of h =
        ⊎_elim
        (λ e. let t = filled_has x e in has_filled (bit_or x y) t.0 (has_bit_or x y t.0 ∙ or_left (has y t.0) t.1))
        (λ e. let t = filled_has y e in has_filled (bit_or x y) t.0 (has_bit_or x y t.0 ∙ or_right (has x t.0) t.1))
        (or_true (filled x) (filled y) h)

-- a union meets what a part meets
meets_or : (x y z : ℕ) → meets (bit_or x y) z ≡ meets x z || meets y z
meets_or x y z = same_test _ _ to of
  where
    to : meets (bit_or x y) z ≡ true → meets x z || meets y z ≡ true
    to h =
        let t = meets_has (bit_or x y) z h in
        ⊎_elim (λ e. or_left (meets y z) (has_meets x z t.0 e t.2)) (λ e. or_right (meets x z) (has_meets y z t.0 e t.2))
        (or_true (has x t.0) (has y t.0) (sym (has_bit_or x y t.0) ∙ t.1))

    of : meets x z || meets y z ≡ true → meets (bit_or x y) z ≡ true
    of h =
        ⊎_elim
        (λ e.
        let t = meets_has x z e in
        has_meets (bit_or x y) z t.0 (has_bit_or x y t.0 ∙ or_left (has y t.0) t.1) t.2)
        (λ e.
        let t = meets_has y z e in
        has_meets (bit_or x y) z t.0 (has_bit_or x y t.0 ∙ or_right (has x t.0) t.1) t.2)
        (or_true (meets x z) (meets y z) h)

-- words that a row gives by its kind meet where both are given
given_meets : (a b : Bool) (x y : ℕ) → meets (cond a x 0) (cond b y 0) ≡ a && b && meets x y
given_meets true true x y = refl
given_meets true false x y = meets_comm x 0
given_meets false b x y = refl

given_left : (a : Bool) (x y : ℕ) → meets (cond a x 0) y ≡ a && meets x y
given_left true x y = refl
given_left false x y = refl

-- ---- tests of kinds

abbrev is_among : ℕ → StatementKind → Bool
is_among kinds k = meets kinds (kind_bit k)

abbrev agree : Bool → Bool → Bool
agree a b = cond a b (not b)

agreed : (a b : Bool) → agree a b ≡ true → a ≡ b
agreed true true h = refl
agreed true false h = sym h
agreed false true h = h
agreed false false h = refl

abbrev either_way : (Bool → Bool) → Bool
either_way f = f true && f false

both_ways : (f : Bool → Bool) → either_way f ≡ true → (b : Bool) → f b ≡ true
both_ways f h true = (and_true (f true) (f false) h).0
both_ways f h false = (and_true (f true) (f false) h).1

-- the forward edge by kinds and meetings, as the words ask
abbrev asked : StatementKind → StatementKind → Bool → Bool → Bool → Bool → Bool → Bool
asked k l a b c d e =
    (is_among (sure_of k) l
    || ((is_among updates k && is_among writers l && a || is_among readers k && is_among writers l && d)
    || is_among testers k && is_among writers l && e))
    || (is_among updates k && is_among readers l && b || is_among updates k && is_among testers l && c)

-- and as the rules do
abbrev ruled : StatementKind → StatementKind → Bool → Bool → Bool → Bool → Bool → Bool
ruled k l a b c d e =
    told (chance_of A k l) a || told (chance_of B k l) b || told (chance_of C k l) c || told (chance_of D k l) d || told (chance_of E k l) e

forward_kinds : (k l : StatementKind) (a b c d e : Bool) → asked k l a b c d e ≡ ruled k l a b c d e
unfolding chance_of
forward_kinds k l a b c d e =
    agreed _ _
    (both_ways (λ e. agree (asked k l a b c d e) (ruled k l a b c d e))
    (both_ways (λ d. either_way (λ e. agree (asked k l a b c d e) (ruled k l a b c d e)))
    (both_ways (λ c. either_way (λ d. either_way (λ e. agree (asked k l a b c d e) (ruled k l a b c d e))))
    (both_ways (λ b. either_way (λ c. either_way (λ d. either_way (λ e. agree (asked k l a b c d e) (ruled k l a b c d e)))))
    (both_ways (λ a. either_way (λ b. either_way (λ c. either_way (λ d. either_way (λ e. agree (asked k l a b c d e) (ruled k l a b c d e))))))
    (every_pair (λ k l. either_way (λ a. either_way (λ b. either_way (λ c. either_way (λ d. either_way
    (λ e. agree (asked k l a b c d e) (ruled k l a b c d e))))))) refl k l) a) b) c) d) e)

-- the same of back edges; s: some key shields the pair
abbrev asked_back : StatementKind → StatementKind → Bool → Bool → Bool → Bool
asked_back k l d e s =
    (is_among testers k && is_among existence l || is_among testers k && is_among writers l && e)
    || not s && (is_among key_select k && is_among deleters l || is_among selecters k && is_among writers l && d)

abbrev ruled_back : StatementKind → StatementKind → Bool → Bool → Bool → Bool
ruled_back k l d e s = told (chance_of E k l) e || selects k && told (chance_of D k l) d && not s

back_kinds : (k l : StatementKind) (d e s : Bool) → asked_back k l d e s ≡ ruled_back k l d e s
unfolding chance_of
back_kinds k l d e s =
    agreed _ _
    (both_ways (λ s. agree (asked_back k l d e s) (ruled_back k l d e s))
    (both_ways (λ e. either_way (λ s. agree (asked_back k l d e s) (ruled_back k l d e s)))
    (both_ways (λ d. either_way (λ e. either_way (λ s. agree (asked_back k l d e s) (ruled_back k l d e s))))
    (every_pair (λ k l. either_way (λ d. either_way (λ e. either_way (λ s. agree (asked_back k l d e s) (ruled_back k l d e s))))) refl k l)
    d) e) s)

-- ---- the words of two rows

-- E1: they tell the forward edge
pub forward_words_lem : (p q : Row) → p.relation ≡ q.relation → forward_words (left_of p) (entered_of q) ≡ row_forward p q
unfolding forward_words left_of entered_of row_forward row_holds row_shared
forward_words_lem p q one =
    rw (eq-eqb p.relation q.relation one)
    (filled_or (bit_or (bit_and (sure_of k) (kind_bit l)) (bit_and x w)) (bit_and u (bit_or r t))
    ∙ ap₂ ◌||◌
    (filled_or (bit_and (sure_of k) (kind_bit l)) (bit_and x w)
    ∙ ap (λ (b : Bool). is_among (sure_of k) l || b)
    (meets_or (bit_or (among updates k p.writes) (among readers k p.reads)) (among testers k p.tests) w
    ∙ ap₂ ◌||◌
    (meets_or (among updates k p.writes) (among readers k p.reads) w
    ∙ ap₂ ◌||◌ (given_meets (is_among updates k) (is_among writers l) p.writes q.writes)
    (given_meets (is_among readers k) (is_among writers l) p.reads q.writes))
    (given_meets (is_among testers k) (is_among writers l) p.tests q.writes)))
    (meets_comm u (bit_or r t) ∙ meets_or r t u
    ∙ ap₂ ◌||◌ (meets_comm r u ∙ given_meets (is_among updates k) (is_among readers l) p.writes q.reads)
    (meets_comm t u ∙ given_meets (is_among updates k) (is_among testers l) p.writes q.tests))
    ∙ forward_kinds k l (meets p.writes q.writes) (meets p.writes q.reads) (meets p.writes q.tests)
    (meets p.reads q.writes) (meets p.tests q.writes))
  where
    k : StatementKind
    k = p.kind

    l : StatementKind
    l = q.kind

    w : ℕ
    w = among writers l q.writes

    r : ℕ
    r = among readers l q.reads

    t : ℕ
    t = among testers l q.tests

    x : ℕ
    x = bit_or (bit_or (among updates k p.writes) (among readers k p.reads)) (among testers k p.tests)

    u : ℕ
    u = among updates k p.writes

-- a word that is given where two do not meet
apart_filled : (s : Bool) (x : ℕ) → filled (cond s 0 x) ≡ not s && filled x
apart_filled true x = refl
apart_filled false x = refl

-- E2: and the back edge
pub back_words_lem : (p q : Row) → p.relation ≡ q.relation → back_words (left_of p) (entered_of q) ≡ row_back p q
unfolding back_words left_of entered_of row_back row_holds row_shared
back_words_lem p q one =
    rw (eq-eqb p.relation q.relation one)
    (filled_or (bit_or (bit_and (among testers k existence) (kind_bit l)) (bit_and (among testers k p.tests) w)) (cond shield 0 bare)
    ∙ ap₂ ◌||◌
    (filled_or (bit_and (among testers k existence) (kind_bit l)) (bit_and (among testers k p.tests) w)
    ∙ ap₂ ◌||◌ (given_left (is_among testers k) existence (kind_bit l))
    (given_meets (is_among testers k) (is_among writers l) p.tests q.writes))
    (apart_filled shield bare
    ∙ ap (λ (b : Bool). not shield && b)
    (filled_or (bit_and (among key_select k deleters) (kind_bit l)) (bit_and (among selecters k p.reads) w)
    ∙ ap₂ ◌||◌ (given_left (is_among key_select k) deleters (kind_bit l))
    (given_meets (is_among selecters k) (is_among writers l) p.reads q.writes)))
    ∙ back_kinds k l (meets p.reads q.writes) (meets p.tests q.writes) shield)
  where
    k : StatementKind
    k = p.kind

    l : StatementKind
    l = q.kind

    w : ℕ
    w = among writers l q.writes

    bare : ℕ
    bare = bit_or (bit_and (among key_select k deleters) (kind_bit l)) (bit_and (among selecters k p.reads) w)

    shield : Bool
    shield = meets p.keys (far_in q.keys)

-- ---- rows that no back edge leaves

none_filled : (x y : ℕ) → eqb (bit_or x y) 0 ≡ true → (eqb x 0 ≡ true) × (eqb y 0 ≡ true)
none_filled x y h =
    let t = or_false (filled x) (filled y) (sym (filled_or x y) ∙ not_of_true h) in
    (not_false (eqb x 0) t.0, not_false (eqb y 0) t.1)

pub never_words : (p q : Row) → p.relation ≡ q.relation → never_back (left_of p) ≡ true → row_back p q ≡ false
unfolding never_back back_words
never_words p q one h =
    let l = left_of p in
    let three = none_filled (bit_or (bit_or l.phantom l.phantoms) l.select) l.selected h in
    let two = none_filled (bit_or l.phantom l.phantoms) l.select three.0 in
    let both = none_filled l.phantom l.phantoms two.0 in
    sym (back_words_lem p q one)
    ∙ rw (eqb-true l.phantom 0 both.0, eqb-true l.phantoms 0 both.1, eqb-true l.select 0 two.1, eqb-true l.selected 0 three.1)
    (empty (meets l.keys (entered_of q).far))
  where
    empty : (s : Bool) → not (eqb (bit_or (bit_or 0 0) (cond s 0 (bit_or 0 0))) 0) ≡ false
    empty true = refl
    empty false = refl
