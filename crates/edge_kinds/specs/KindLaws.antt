-- The table of facts is the believed tables of the graph, and a kind is read back from its number.
use Rattle.std.specs.Prelude.{Bool, true, false, not, ◌≡◌, refl, ℕ, ◌<◌, ◌%◌, eqb}
use Rattle.std.proofs.Common.{sym, ap, ◌∙◌, mod-eq_of_lt, arith, eq-eqb, ne_eqb}
use Rattle.spec_base.specs.Basic.{meets}
use Rattle.spec_text.specs.declared.StatementKind.{StatementKind}
use Rattle.spec_text.specs.declared.StatementKind.TheVariants.{Is, Ks, Ps, Ku, Pu, Kd, Pd, Kl}
use Rattle.spec_graph.specs.Edge as E
use Rattle.law_kinds.specs.EveryKind.{kinds_agree}
use Rattle.edge_kinds.specs.Kinds.{select_bit, shield_bit, loose_bit, kind_facts}
use Rattle.edge_kinds.specs.Kinds.{kind_count, kind_number, kind_named, kind_of}

-- ---- kinds and numbers

-- the number of a kind is below their count
pub number_small : (k : StatementKind) → kind_number k < kind_count
number_small Is = omega arith
number_small Ks = omega arith
number_small Ps = omega arith
number_small Ku = omega arith
number_small Pu = omega arith
number_small Kd = omega arith
number_small Pd = omega arith
number_small Kl = omega arith

-- it names the kind
kind_named_number : (k : StatementKind) → kind_named (kind_number k) ≡ k
unfolding kind_named
kind_named_number Is = refl
kind_named_number Ks = refl
kind_named_number Ps = refl
kind_named_number Ku = refl
kind_named_number Pu = refl
kind_named_number Kd = refl
kind_named_number Pd = refl
kind_named_number Kl = refl

-- and so does every number with this remainder
pub number_named : (k : StatementKind) (x : ℕ) → x % kind_count ≡ kind_number k → k ≡ kind_of x
unfolding kind_of
number_named k x e = sym (ap kind_named e ∙ kind_named_number k)

-- the number of a kind tells the kind
pub kind_of_number : (k : StatementKind) → kind_of (kind_number k) ≡ k
kind_of_number k = sym (number_named k (kind_number k) (mod-eq_of_lt (number_small k)))

-- ---- what is told of every kind is computed once, over all of them

-- the facts of a kind have this bit where the test passes
abbrev Bit : ℕ → (StatementKind → Bool) → StatementKind → Type 0
Bit bit test k = meets (kind_facts k) bit ≡ test k

-- what the facts of a kind say: each bit is the table that the graph's definitions ask
pub record Told (k : StatementKind) : Type 0 where
  pub selects : Bit select_bit E.selects k
  pub shields : Bit shield_bit E.shields k
  pub loosens : Bit loose_bit E.loosens k

pub told : (k : StatementKind) → Told k
told k = record {
  selects = kinds_agree (λ k. meets (kind_facts k) select_bit) E.selects refl k;
  shields = kinds_agree (λ k. meets (kind_facts k) shield_bit) E.shields refl k;
  loosens = kinds_agree (λ k. meets (kind_facts k) loose_bit) E.loosens refl k;
}

-- ---- code that has asked for a bit by `kind_has` knows what the bit tells

pub answer : {bit tells asked is : Bool} → bit ≡ tells → asked ≡ bit → asked ≡ is → tells ≡ is
answer e f g = sym e ∙ sym f ∙ g

-- and so does code that has tested one by `facts & BIT == 0`

pub bit_clear : {x : ℕ} {tells : Bool} → x ≡ 0 → not (eqb x 0) ≡ tells → tells ≡ false
bit_clear {x} h e = sym e ∙ ap not (eq-eqb x 0 h)

pub bit_set : {x : ℕ} {tells : Bool} → (x ≡ 0 → ⊥) → not (eqb x 0) ≡ tells → tells ≡ true
bit_set {x} h e = sym e ∙ ap not (ne_eqb x 0 h)
