-- The classes that a kind's facts tell are what T9 allows (Classes of specs/). It stands here, so that a changed class is refused by name.
use Rattle.std.specs.Prelude.{◌≡◌, ℕ}
use Rattle.std.proofs.Common.{sym, ap, subst, ◌∙◌}
use Rattle.spec_text.specs.declared.StatementKind.{StatementKind}
use Rattle.spec_graph.specs.Edge.{R, W, T}
use Rattle.law_kinds.specs.declared.SetClass.{SetClass}
use Rattle.law_kinds.specs.SetMeaning.{SetMeans}
use Rattle.law_kinds.proofs.SetsMeant.{reads_mean, writes_mean, tests_mean}
use Rattle.line_kinds.specs.Kinds.{facts_of}
use Rattle.kind_chances.specs.Classes.{reads_by, writes_by, tests_by, facts_told}

module _ (k : StatementKind) {facts : ℕ} {c : SetClass} (e : facts ≡ facts_of k) where
  pub reads_by_lem : c ≡ reads_by facts → SetMeans R k c
  reads_by_lem h = subst (SetMeans R k) (sym (h ∙ ap reads_by e ∙ (facts_told k).reads)) (reads_mean k)

  pub writes_by_lem : c ≡ writes_by facts → SetMeans W k c
  writes_by_lem h = subst (SetMeans W k) (sym (h ∙ ap writes_by e ∙ (facts_told k).writes)) (writes_mean k)

  pub tests_by_lem : c ≡ tests_by facts → SetMeans T k c
  tests_by_lem h = subst (SetMeans T k) (sym (h ∙ ap tests_by e ∙ (facts_told k).tests)) (tests_mean k)
