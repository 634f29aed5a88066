-- What a chance says of a letter is so: the rule over all sets that the rules allow, and sets on two attributes where it hangs on them.
use Rattle.std.specs.Prelude.{Bool, true, false, cond, not, ◌&&◌, ◌||◌, ◌≡◌, refl, ℕ}
use Rattle.std.proofs.Common.{sym, ◌∙◌, arith}
use Rattle.std.proofs.Math.Path.{ap}
use Rattle.spec_base.specs.Basic.{all, meets, within}
use Rattle.spec_text.specs.declared.Line.{Line}
use Rattle.spec_text.specs.declared.StatementKind.{StatementKind}
use Rattle.spec_text.specs.Reading.{kind_sets, sets_allowed}
use Rattle.spec_graph.specs.Program.{Statement, statement_of}
use Rattle.spec_graph.specs.Edge.{R, W, T, has_writes, has_tests, inserts, deletes, Letter, holds, shared}
use Rattle.spec_graph.specs.Edge.Letter.{A, B, C, D, E}
use Rattle.spec_kinds.specs.declared.Chance.{Chance}
use Rattle.spec_kinds.specs.declared.Chance.TheVariants.{Impossible, Certain, Hanging}
use Rattle.spec_kinds.specs.Meaning.{Pair, holds_in, sets_meet, meets_in, Means}
use Rattle.spec_kinds.specs.Table.{kinds}
use Rattle.law_base.specs.BoolLaws.{true_false, and_true, and_right, not_true, implied}
use Rattle.law_base.specs.SetLaws.{nonzero_has, within_has, has_meets, meets_comm, meets_self, meets_empty}
use Rattle.law_kinds.specs.declared.SetClass.{SetClass}
use Rattle.law_kinds.specs.declared.SetClass.TheVariants.{Lacking, Any, Filled, Whole}
use Rattle.law_kinds.specs.EveryKind.{every_kind, everywhere, every_entry}
use Rattle.law_kinds.specs.KindSets.{KindSets, sets_of, Fits, Allowed, allowed_over}
use Rattle.law_kinds.specs.SetMeaning.{line_of_sets}
use Rattle.law_kinds.specs.Chances.{meeting, chance_of, told}

-- ---- two sets of classes

-- a set that is not empty meets each set that it lies within
meets_around : (x y : ℕ) → within x y ≡ true → (x ≡ 0 → ⊥) → meets x y ≡ true
meets_around x y h some = let t = nonzero_has x some in has_meets x y t.0 t.1 (within_has x y t.0 h t.1)

-- two sets meet as their classes let them
meeting_told : (a b : SetClass) (full x y : ℕ) → (full ≡ 0 → ⊥) → Fits a full x → Fits b full y → meets x y ≡ told (meeting a b) (meets x y)
meeting_told Lacking b full x y some f g = rw f refl
meeting_told Any Lacking full x y some f g = rw g (meets_comm x 0)
meeting_told Filled Lacking full x y some f g = rw g (meets_comm x 0)
meeting_told Whole Lacking full x y some f g = rw g (meets_comm x 0)
meeting_told Any Any full x y some f g = refl
meeting_told Any Filled full x y some f g = refl
meeting_told Any Whole full x y some f g = refl
meeting_told Filled Any full x y some f g = refl
meeting_told Filled Filled full x y some f g = refl
meeting_told Whole Any full x y some f g = refl
meeting_told Filled Whole full x y some f g = rw g (meets_around x full f.0 f.1)
meeting_told Whole Filled full x y some f g = rw f (meets_comm full y ∙ meets_around y full g.0 g.1)
meeting_told Whole Whole full x y some f g = rw (f, g) (meets_self full some)

-- ---- how the letters ask the kinds

-- a set that the kind lacks meets nothing, so whether the kind has it need not be asked
lacking_left : (b rest : Bool) (x y : ℕ) → b && rest && meets (cond b x 0) y ≡ rest && meets (cond b x 0) y
lacking_left true rest x y = refl
lacking_left false rest x y = sym (and_right rest (meets_empty y))

lacking_right : (b rest : Bool) (x y : ℕ) → b && rest && meets x (cond b y 0) ≡ rest && meets x (cond b y 0)
lacking_right true rest x y = refl
lacking_right false rest x y = sym (and_right rest (meets_comm x 0))

lacking_both : (a b c d : Bool) (x y : ℕ)
    → a && b && c && d && meets (cond a x 0) (cond b y 0) ≡ c && d && meets (cond a x 0) (cond b y 0)
lacking_both true true c d x y = refl
lacking_both true false c d x y = sym (and_right (c && d) (meets_comm x 0))
lacking_both false b c d x y = sym (and_right (c && d) (meets_empty (cond b y 0)))

-- a kind that rules the letter out, one that it needs, one that is enough
unless_told : (b : Bool) (c : Chance) (m : Bool) {x : Bool} → x ≡ told c m → not b && x ≡ told (cond b Impossible c) m
unless_told true c m so = refl
unless_told false c m so = so

where_told : (b : Bool) (c : Chance) (m : Bool) {x : Bool} → x ≡ told c m → b && x ≡ told (cond b c Impossible) m
where_told true c m so = so
where_told false c m so = refl

or_told : (b : Bool) (c : Chance) (m : Bool) {x : Bool} → x ≡ told c m → b || x ≡ told (cond b Certain c) m
or_told true c m so = refl
or_told false c m so = so

neither : (a b : Bool) → not a && not b ≡ not (a || b)
neither true b = refl
neither false b = refl

-- EA to EE: between allowed statements over one relation a letter holds as its chance says
module _ {full : ℕ} (p q : Statement) (f : Allowed full p) (g : Allowed full q) where
  abbrev of_p : KindSets
  of_p = sets_of p.kind

  abbrev of_q : KindSets
  of_q = sets_of q.kind

  told_by : (a b : SetClass) (x y : ℕ) → Fits a full x → Fits b full y → meets x y ≡ told (meeting a b) (meets x y)
  told_by a b x y = meeting_told a b full x y f.attributes

  pub chance_told : (letter : Letter) → holds letter p q ≡ told (chance_of letter p.kind q.kind) (sets_meet letter p q)
  unfolding holds shared chance_of W
  chance_told A =
      lacking_both (has_writes p.kind) (has_writes q.kind) (not (deletes p.kind)) (not (inserts q.kind)) p.writes q.writes
      ∙ ap (λ (b : Bool). b && meets (W p) (W q)) (neither (deletes p.kind) (inserts q.kind))
      ∙ unless_told (deletes p.kind || inserts q.kind) _ _ (told_by of_p.writes of_q.writes (W p) (W q) f.writes g.writes)
  chance_told B =
      lacking_left (has_writes p.kind) (not (deletes p.kind)) p.writes (R q)
      ∙ unless_told (deletes p.kind) _ _ (told_by of_p.writes of_q.reads (W p) (R q) f.writes g.reads)
  chance_told C =
      where_told (has_tests q.kind) _ _
      (or_told (inserts p.kind || deletes p.kind) _ _ (told_by of_p.writes of_q.tests (W p) (T q) f.writes g.tests))
  chance_told D =
      lacking_right (has_writes q.kind) (not (inserts q.kind)) (R p) q.writes
      ∙ unless_told (inserts q.kind) _ _ (told_by of_p.reads of_q.writes (R p) (W q) f.reads g.writes)
  chance_told E =
      ap (λ (m : Bool). has_tests p.kind && (inserts q.kind || deletes q.kind || m)) (meets_comm (W q) (T p))
      ∙ where_told (has_tests p.kind) _ _
      (or_told (inserts q.kind || deletes q.kind) _ _ (told_by of_p.tests of_q.writes (T p) (W q) f.tests g.writes))

-- ---- sets on two attributes

-- a line of a kind, its sets chosen by their classes
abbrev pub sample : (SetClass → ℕ) → StatementKind → Line
sample choose k = line_of_sets 0 k (choose (sets_of k).reads) (choose (sets_of k).writes) (choose (sets_of k).tests)

-- attribute 0 in every set
abbrev pub shares : SetClass → ℕ
shares Lacking = 0
shares Any = 1
shares Filled = 1
shares Whole = 3

-- no more than must be in a set: attribute 0, or attribute 1
abbrev pub least : ℕ → SetClass → ℕ
least one Lacking = 0
least one Any = 0
least one Filled = one
least one Whole = 3

-- T9 of a line over the two attributes
abbrev passes : (SetClass → ℕ) → StatementKind → Bool
passes choose k = sets_allowed 3 k (sample choose k)

-- the lines whose sets are chosen so, where T9 allows them for each kind
unfoldable pub pair_by : (f g : SetClass → ℕ) → all (passes f) kinds ≡ true → all (passes g) kinds ≡ true → (k l : StatementKind) → Pair k l
pair_by f g hf hg k l = record {
  full = 3;
  attributes = λ e. omega arith;
  word = omega arith;
  left = sample f k;
  right = sample g l;
  allowed_left = every_kind (passes f) hf k;
  allowed_right = every_kind (passes g) hg l;
}

unfoldable pub meeting_pair : (k l : StatementKind) → Pair k l
unfolding kind_sets
meeting_pair = pair_by shares shares refl refl

unfoldable pub apart_pair : (k l : StatementKind) → Pair k l
unfolding kind_sets
apart_pair = pair_by (least 1) (least 2) refl refl
