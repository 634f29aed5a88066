-- What code asks of two kinds, and of the classes of their sets, gives the chance of each letter between them.
use Rattle.std.specs.Prelude.{Bool, not, ◌||◌, ◌≡◌, ℕ, eqb}
use Rattle.std.proofs.Math.Bool.{cond}
use Rattle.std.proofs.Common.{sym, ap, ap₂, ◌∙◌}
use Rattle.std.proofs.Math.Path.{subst}
use Rattle.std.proofs.lemmas.Nat.{and_comm}
use Rattle.spec_text.specs.declared.StatementKind.{StatementKind}
use Rattle.spec_graph.specs.Program.{statement_of}
use Rattle.spec_graph.specs.Edge.{R, W, T, has_tests, inserts, deletes, holds, shared}
use Rattle.spec_graph.specs.Edge.Letter.{A, B, C, D, E}
use Rattle.spec_kinds.specs.declared.Chance.{Chance}
use Rattle.spec_kinds.specs.declared.Chance.TheVariants.{Impossible, Certain, Hanging}
use Rattle.spec_kinds.specs.Meaning.{Pair, meets_in, Means}
use Rattle.law_kinds.specs.declared.SetClass.{SetClass}
use Rattle.law_kinds.specs.SetMeaning.{SetMeans, set_one}
use Rattle.law_kinds.proofs.SetsMeant.{reads_mean, writes_mean, tests_mean}
use Rattle.law_kinds.specs.Chances.{meeting, chance_of}
use Rattle.law_kinds.proofs.ChancesMeant.{chance_means}

-- two sets of these classes meet by chance as those of the rules do
met_by : {a b c d : SetClass} {m : Chance} → a ≡ c → b ≡ d → m ≡ meeting a b → m ≡ meeting c d
met_by e f h = h ∙ ap₂ meeting e f

module _ (k l : StatementKind) {a b : SetClass} {m : Chance} (met : m ≡ meeting a b) where
  pub a_told : {d i : Bool} {r : Chance} → d ≡ deletes k → i ≡ inserts l → SetMeans W k a → SetMeans W l b
      → r ≡ cond (d || i) Impossible m → Means A k l r
  unfolding chance_of
  a_told {d} {i} e f s t h =
      let so = met_by (set_one s (writes_mean k)) (set_one t (writes_mean l)) met in
      let right : cond (d || i) Impossible m ≡ chance_of A k l = rw (e, f, so) in
      subst (Means A k l) (sym (h ∙ right)) (chance_means A k l)

  pub b_told : {d : Bool} {r : Chance} → d ≡ deletes k → SetMeans W k a → SetMeans R l b → r ≡ cond d Impossible m → Means B k l r
  unfolding chance_of
  b_told {d} e s t h =
      let so = met_by (set_one s (writes_mean k)) (set_one t (reads_mean l)) met in
      let right : cond d Impossible m ≡ chance_of B k l = rw (e, so) in
      subst (Means B k l) (sym (h ∙ right)) (chance_means B k l)

  pub c_told : {n i d : Bool} {c r : Chance} → SetMeans W k a → SetMeans T l b → n ≡ has_tests l → i ≡ inserts k → d ≡ deletes k
      → c ≡ cond (i || d) Certain m → r ≡ cond n c Impossible → Means C k l r
  unfolding chance_of
  c_told {n} {c = c} s t e f g enough h =
      let so = met_by (set_one s (writes_mean k)) (set_one t (tests_mean l)) met in
      let right : cond n c Impossible ≡ chance_of C k l = rw (e, enough, f, g, so) in
      subst (Means C k l) (sym (h ∙ right)) (chance_means C k l)

  pub d_told : {i : Bool} {r : Chance} → i ≡ inserts l → SetMeans R k a → SetMeans W l b → r ≡ cond i Impossible m → Means D k l r
  unfolding chance_of
  d_told {i} e s t h =
      let so = met_by (set_one s (reads_mean k)) (set_one t (writes_mean l)) met in
      let right : cond i Impossible m ≡ chance_of D k l = rw (e, so) in
      subst (Means D k l) (sym (h ∙ right)) (chance_means D k l)

-- ---- E is C the other way round

turn : {k l : StatementKind} → Pair k l → Pair l k
turn x = record {
  full = x.full;
  attributes = x.attributes;
  word = x.word;
  left = x.right;
  right = x.left;
  allowed_left = x.allowed_right;
  allowed_right = x.allowed_left;
}

-- its two sets are the same two
turned_meets : {k l : StatementKind} (x : Pair k l) → meets_in C (turn x) ≡ meets_in E x
unfolding turn shared
turned_meets {k} {l} x = ap (λ (n : ℕ). not (eqb n 0)) (and_comm (W (statement_of l x.right)) (T (statement_of k x.left)))

pub e_told : (k l : StatementKind) (c : Chance) → Means C l k c → Means E k l c
unfolding holds turn
e_told k l Impossible m = λ x. m (turn x)
e_told k l Certain m = λ x. m (turn x)
e_told k l Hanging m = (λ x. m.0 (turn x) ∙ turned_meets x, (turn m.1.0, m.1.1, m.1.2), (turn m.2.0, m.2.1, m.2.2))
