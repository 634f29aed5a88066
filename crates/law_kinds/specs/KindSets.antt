-- The sets of each kind of statement: which it has, which of them may be empty and which are the whole relation (T5, T9, Req 03).
use Rattle.std.specs.Prelude.{Bool, true, false, not, ◌||◌, ◌≡◌, refl, ℕ, ◌<◌, ◌^◌, eqb}
use Rattle.std.specs.Int.Bits.{bit_and, and_self, and_zero_l}
use Rattle.std.proofs.Common.{eq-eqb, eqb-true}
use Rattle.std.proofs.lemmas.Bool.{eqb-false, not-true}
use Rattle.spec_base.specs.Basic.{within}
use Rattle.spec_text.specs.declared.Line.{Line}
use Rattle.spec_text.specs.declared.StatementKind.{StatementKind}
use Rattle.spec_text.specs.declared.StatementKind.TheVariants.{Is, Ks, Ps, Ku, Pu, Kd, Pd, Kl}
use Rattle.spec_text.specs.Reading.{kind_sets, sets_allowed}
use Rattle.spec_graph.specs.Program.{Statement, statement_of}
use Rattle.spec_graph.specs.Edge.{R, W, T, inserts, deletes}
use Rattle.law_base.specs.BoolLaws.{true_false}
use Rattle.law_text.specs.ReadingLaws.{SetsLawful, sets_lawful}
use Rattle.law_kinds.specs.declared.SetClass.{SetClass}
use Rattle.law_kinds.specs.declared.SetClass.TheVariants.{Lacking, Any, Filled, Whole}
use Rattle.law_kinds.specs.EveryKind.{kind_implies}

-- the sets of a kind
pub record KindSets : Type 0 where
  pub reads : SetClass
  pub writes : SetClass
  pub tests : SetClass

abbrev sets : SetClass → SetClass → SetClass → KindSets
sets r w t = record { reads = r; writes = w; tests = t }

-- T5, T9, Req 03: the reads, writes and tests of each kind
abbrev pub sets_of : StatementKind → KindSets
sets_of Is = sets Lacking Whole Lacking
sets_of Ks = sets Filled Lacking Lacking
sets_of Ps = sets Any Lacking Any
sets_of Ku = sets Any Filled Lacking
sets_of Pu = sets Any Filled Any
sets_of Kd = sets Lacking Whole Lacking
sets_of Pd = sets Lacking Whole Any
sets_of Kl = sets Filled Lacking Lacking

-- the kind has the set; the set is never empty; it is the relation's own
abbrev pub is_there : SetClass → Bool
is_there Lacking = false
is_there Any = true
is_there Filled = true
is_there Whole = true

abbrev pub is_filled : SetClass → Bool
is_filled Lacking = false
is_filled Any = false
is_filled Filled = true
is_filled Whole = true

abbrev pub is_whole : SetClass → Bool
is_whole Lacking = false
is_whole Any = false
is_whole Filled = false
is_whole Whole = true

-- the class allows this set over a relation with the set `full`; a set that a kind lacks counts as empty
abbrev pub Fits : SetClass → ℕ → ℕ → Type 0
Fits Lacking full x = x ≡ 0
Fits Any full x = within x full ≡ true
Fits Filled full x = (within x full ≡ true) × (x ≡ 0 → ⊥)
Fits Whole full x = x ≡ full

-- T9: the relation has attributes, and the sets of a statement are those that its kind allows over them
pub record Allowed (full : ℕ) (s : Statement) : Type 0 where
  pub attributes : full ≡ 0 → ⊥
  pub reads : Fits (sets_of s.kind).reads full (R s)
  pub writes : Fits (sets_of s.kind).writes full (W s)
  pub tests : Fits (sets_of s.kind).tests full (T s)

-- ---- what a text allows the classes allow

filled_set : (full x : ℕ) → within x full ≡ true → not (eqb x 0) ≡ true → Fits Filled full x
filled_set full x h e = (h, eqb-false x 0 (not-true (eqb x 0) e))

-- each kind's rule says of one of its sets that it is filled or whole; the others lie within the relation's or are lacking
pub allowed_sets : (k : StatementKind) {full : ℕ} {l : Line} → SetsLawful full k l → Allowed full (statement_of k l)
unfolding statement_of kind_sets R W T
allowed_sets Is s = record { attributes = s.nonempty; reads = refl; writes = eqb-true _ _ s.kind_sets_lem; tests = refl }
allowed_sets Ks s = record { attributes = s.nonempty; reads = filled_set _ _ s.reads_within s.kind_sets_lem; writes = refl; tests = refl }
allowed_sets Ps s = record { attributes = s.nonempty; reads = s.reads_within; writes = refl; tests = s.tests_within }
allowed_sets Ku s = record {
  attributes = s.nonempty;
  reads = s.reads_within;
  writes = filled_set _ _ s.writes_within s.kind_sets_lem;
  tests = refl;
}
allowed_sets Pu s = record {
  attributes = s.nonempty;
  reads = s.reads_within;
  writes = filled_set _ _ s.writes_within s.kind_sets_lem;
  tests = s.tests_within;
}
allowed_sets Kd s = record { attributes = s.nonempty; reads = refl; writes = eqb-true _ _ s.kind_sets_lem; tests = refl }
allowed_sets Pd s = record { attributes = s.nonempty; reads = refl; writes = eqb-true _ _ s.kind_sets_lem; tests = s.tests_within }
allowed_sets Kl s = record { attributes = s.nonempty; reads = filled_set _ _ s.reads_within s.kind_sets_lem; writes = refl; tests = refl }

-- by the reader's own test
pub allowed_over : {full : ℕ} (k : StatementKind) (l : Line) → (full ≡ 0 → ⊥) → full < 2 ^ 64 → sets_allowed full k l ≡ true
    → Allowed full (statement_of k l)
allowed_over k l some word h = allowed_sets k (sets_lawful k l some word h)

-- ---- T9 of an allowed statement, by the tables of the graph

pub fits_within : (c : SetClass) (full x : ℕ) → Fits c full x → within x full ≡ true
fits_within Lacking full x h = rw h (eq-eqb (bit_and 0 full) 0 (and_zero_l full))
fits_within Any full x h = h
fits_within Filled full x h = h.0
fits_within Whole full x h = rw h (eq-eqb (bit_and full full) full (and_self full))

fits_whole : (c : SetClass) (full x : ℕ) → is_whole c ≡ true → Fits c full x → x ≡ full
fits_whole Lacking full x e h = absurd (true_false e refl)
fits_whole Any full x e h = absurd (true_false e refl)
fits_whole Filled full x e h = absurd (true_false e refl)
fits_whole Whole full x e h = h

module _ {full : ℕ} {s : Statement} (a : Allowed full s) where
  pub reads_within : within (R s) full ≡ true
  reads_within = fits_within (sets_of s.kind).reads full (R s) a.reads

  pub writes_within : within (W s) full ≡ true
  writes_within = fits_within (sets_of s.kind).writes full (W s) a.writes

  -- inserts and deletes write the whole relation
  pub writes_whole : inserts s.kind || deletes s.kind ≡ true → W s ≡ full
  writes_whole e =
      let c = kind_implies (λ k. inserts k || deletes k) (λ k. is_whole (sets_of k).writes) refl s.kind e in
      fits_whole (sets_of s.kind).writes full (W s) c a.writes
