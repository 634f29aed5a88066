-- The class of a set says which sets T9 allows a kind there: these and no others.
use Rattle.std.specs.Prelude.{Bool, ◌≡◌, ℕ, ◌<◌, ◌^◌, eqb}
use Rattle.std.proofs.Math.Bool.{true, cond, not}
use Rattle.std.proofs.Math.Path.{refl, ap}
use Rattle.std.proofs.Common.{sym, ◌∙◌, arith, eq-eqb, ne_eqb}
use Rattle.spec_text.specs.declared.Line.{Line}
use Rattle.spec_text.specs.declared.LineKind.TheVariants.{St}
use Rattle.spec_text.specs.declared.StatementKind.{StatementKind}
use Rattle.spec_text.specs.declared.StatementKind.TheVariants.{Is, Ks, Ps, Ku, Pu, Kd, Pd, Kl}
use Rattle.spec_text.specs.Reading.{kind_sets, sets_allowed}
use Rattle.spec_graph.specs.Program.{Statement, statement_of}
use Rattle.spec_graph.specs.Edge.{R, W, T, has_reads, has_writes, has_tests}
use Rattle.law_base.specs.BoolLaws.{and_of}
use Rattle.law_kinds.specs.declared.SetClass.{SetClass}
use Rattle.law_kinds.specs.declared.SetClass.TheVariants.{Lacking, Any, Filled, Whole}
use Rattle.law_kinds.specs.EveryKind.{kinds_agree}
use Rattle.law_kinds.specs.KindSets.{sets_of, is_there, Fits, allowed_over, fits_within}

-- T9: over every relation, a set that a statement of this kind is allowed there fits the class, and each set that fits is that of an allowed one
pub record SetMeans (set : Statement → ℕ) (k : StatementKind) (c : SetClass) : Type 0 where
  pub fits : {full : ℕ} (l : Line) → (full ≡ 0 → ⊥) → full < 2 ^ 64 → sets_allowed full k l ≡ true → Fits c full (set (statement_of k l))
  pub allowed : {full : ℕ} (x : ℕ) → (full ≡ 0 → ⊥) → full < 2 ^ 64 → Fits c full x
      → (l : Line) × (sets_allowed full k l ≡ true) × (set (statement_of k l) ≡ x)

-- ---- one class alone says so

-- over two attributes no two classes allow the same sets
fits_one : (c d : SetClass) → ((x : ℕ) → Fits c 3 x → Fits d 3 x) → ((x : ℕ) → Fits d 3 x → Fits c 3 x) → c ≡ d
fits_one Lacking Lacking f g = refl
fits_one Any Any f g = refl
fits_one Filled Filled f g = refl
fits_one Whole Whole f g = refl
fits_one Lacking Any f g = let e = g 1 refl in absurd (omega arith)
fits_one Lacking Filled f g = absurd ((f 0 refl).1 refl)
fits_one Lacking Whole f g = let e = f 0 refl in absurd (omega arith)
fits_one Any Lacking f g = let e = f 1 refl in absurd (omega arith)
fits_one Any Filled f g = absurd ((f 0 refl).1 refl)
fits_one Any Whole f g = let e = f 0 refl in absurd (omega arith)
fits_one Filled Lacking f g = absurd ((g 0 refl).1 refl)
fits_one Filled Any f g = absurd ((g 0 refl).1 refl)
fits_one Filled Whole f g = let e = f 1 (refl, λ e. omega arith) in absurd (omega arith)
fits_one Whole Lacking f g = let e = g 0 refl in absurd (omega arith)
fits_one Whole Any f g = let e = g 0 refl in absurd (omega arith)
fits_one Whole Filled f g = let e = g 1 (refl, λ e. omega arith) in absurd (omega arith)

module _ {set : Statement → ℕ} {k : StatementKind} where
  passed_on : {c d : SetClass} → SetMeans set k c → SetMeans set k d → (x : ℕ) → Fits c 3 x → Fits d 3 x
  passed_on {c} {d} f g x h =
      let m = f.allowed {full = 3} x (λ e. omega arith) (omega arith) h in
      rw (sym m.2) (g.fits {full = 3} m.0 (λ e. omega arith) (omega arith) m.1)

  pub set_one : {c d : SetClass} → SetMeans set k c → SetMeans set k d → c ≡ d
  set_one {c} {d} f g = fits_one c d (passed_on f g) (passed_on g f)

-- ---- the class that `sets_of` names does

-- a line of a kind with these sets, as a statement of this number
abbrev pub line_of_sets : ℕ → StatementKind → ℕ → ℕ → ℕ → Line
line_of_sets i k reads writes tests = record { kind = St k; id = i; rel = 0; to = 0; reads = reads; writes = writes; tests = tests }

-- some set of a class
abbrev pub some_set : SetClass → ℕ → ℕ
some_set Lacking full = 0
some_set Any full = full
some_set Filled full = full
some_set Whole full = full

pub some_fits : (c : SetClass) (full : ℕ) → (full ≡ 0 → ⊥) → Fits c full (some_set c full)
some_fits Lacking full some = refl
some_fits Any full some = fits_within Whole full full refl
some_fits Filled full some = (fits_within Whole full full refl, some)
some_fits Whole full some = refl

-- what a kind lacks counts as empty, and fits so alone
pub there_set : (c : SetClass) (full x : ℕ) → Fits c full x → cond (is_there c) x 0 ≡ x
there_set Lacking full x h = sym h
there_set Any full x h = refl
there_set Filled full x h = refl
there_set Whole full x h = refl

-- three sets of a kind, each of its class
pub record Chosen (k : StatementKind) (full r w t : ℕ) : Type 0 where
  pub reads : Fits (sets_of k).reads full r
  pub writes : Fits (sets_of k).writes full w
  pub tests : Fits (sets_of k).tests full t
