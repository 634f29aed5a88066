-- The classes of a kind's sets, from the facts by which its lines are read (line_kinds).
use Rattle.std.specs.Prelude.{Bool, false, cond, not, ◌≡◌, refl, ℕ}
use Rattle.std.proofs.Common.{ap, ◌∙◌}
use Rattle.spec_text.specs.declared.StatementKind.{StatementKind}
use Rattle.spec_text.specs.declared.StatementKind.TheVariants.{Is, Ks, Ps, Ku, Pu, Kd, Pd, Kl}
use Rattle.spec_graph.specs.Edge.{has_tests}
use Rattle.law_kinds.specs.declared.SetClass.{SetClass}
use Rattle.law_kinds.specs.declared.SetClass.TheVariants.{Lacking, Any, Filled, Whole}
use Rattle.law_kinds.specs.EveryKind.{kinds_agree}
use Rattle.law_kinds.specs.KindSets.{sets_of}
use Rattle.line_kinds.specs.Kinds.{facts_of, lacks_fact, has_reads, has_writes, has_tests as tests_bit, some_reads, some_writes, whole_writes}

-- the class of a set, from whether the kind has it, whether it is never empty, and whether it is the whole relation
abbrev pub class_by : Bool → Bool → Bool → SetClass
class_by there some whole = cond there (cond whole Whole (cond some Filled Any)) Lacking

-- a fact among those of a kind
abbrev has : ℕ → ℕ → Bool
has facts fact = not (lacks_fact facts fact)

-- the classes that the facts of a kind tell
abbrev pub reads_by : ℕ → SetClass
reads_by facts = class_by (has facts has_reads) (has facts some_reads) false

abbrev pub writes_by : ℕ → SetClass
writes_by facts = class_by (has facts has_writes) (has facts some_writes) (has facts whole_writes)

abbrev pub tests_by : ℕ → SetClass
tests_by facts = class_by (has facts tests_bit) false false

pub record FactsTold (k : StatementKind) : Type 0 where
  pub reads : reads_by (facts_of k) ≡ (sets_of k).reads
  pub writes : writes_by (facts_of k) ≡ (sets_of k).writes
  pub tests : tests_by (facts_of k) ≡ (sets_of k).tests

pub facts_told : (k : StatementKind) → FactsTold k
facts_told Is = record { reads = refl; writes = refl; tests = refl }
facts_told Ks = record { reads = refl; writes = refl; tests = refl }
facts_told Ps = record { reads = refl; writes = refl; tests = refl }
facts_told Ku = record { reads = refl; writes = refl; tests = refl }
facts_told Pu = record { reads = refl; writes = refl; tests = refl }
facts_told Kd = record { reads = refl; writes = refl; tests = refl }
facts_told Pd = record { reads = refl; writes = refl; tests = refl }
facts_told Kl = record { reads = refl; writes = refl; tests = refl }

-- a kind has tests where its facts say so
pub tests_there : (k : StatementKind) {facts : ℕ} → facts ≡ facts_of k → has facts tests_bit ≡ has_tests k
tests_there k e = ap (λ (f : ℕ). has f tests_bit) e ∙ kinds_agree (λ k. has (facts_of k) tests_bit) has_tests refl k
