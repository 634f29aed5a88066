-- Law c of Undisturbed (specs/) for a later kl or ks. It stands here, so that a changed law is refused by name.
use Rattle.std.specs.Prelude.{true, false, ◌⊎◌, ◌≡◌, ℕ, ◌<◌}
use Rattle.std.proofs.Common.{inl, inr}
use Rattle.std.proofs.Math.Option.{some}
use Rattle.std.proofs.Math.Path.{subst}
use Rattle.spec_text.specs.declared.StatementKind.{StatementKind}
use Rattle.spec_text.specs.declared.StatementKind.TheVariants.{Ks, Kl}
use Rattle.spec_text.specs.declared.Workload.{Workload}
use Rattle.spec_text.specs.Reading.{relation_set}
use Rattle.spec_text.specs.Value.{Given, lines_of}
use Rattle.spec_graph.specs.Unfolding.{nodes_of}
use Rattle.spec_graph.specs.Edge.{Place, at, R, deletes, same_relation, place_at}
use Rattle.spec_report.specs.State.{Robust}
use Rattle.law_kinds.specs.KindSets.{sets_of, Fits}
use Rattle.law_database.specs.Disturbs.{disturbs, ReadsAgain}
use Rattle.law_database.specs.PlaceEdges.{place_lawful}
use Rattle.law_database.specs.Undisturbed.{condition_read_undisturbed}

module _ {w : Workload} (given : Given w) (robust : Robust (lines_of w)) where
  -- Law c, docs/MODEL.md "A real database": where a statement with a predicate, as a ps, is followed in its node by a kl or a ks that reads all
  -- that it tests, no place over the relation inserts or updates what it tests; whatever disturbs it deletes.
  -- It holds since T9 has a kl and a ks read something.
  pub condition_lock_undisturbed : (m i k n j : ℕ) {p r t : Place}
      → place_at (nodes_of (lines_of w)) m i ≡ some p → place_at (nodes_of (lines_of w)) m k ≡ some r → i < k
      → ReadsAgain (at p) (at r) → ((at r).kind ≡ Kl) ⊎ ((at r).kind ≡ Ks)
      → place_at (nodes_of (lines_of w)) n j ≡ some t → same_relation (at p) (at t) ≡ true → deletes (at t).kind ≡ false
      → disturbs (at t) (at p) ≡ false
  condition_lock_undisturbed m i k n j {p} {r} {t} at_p at_r later again kind =
      condition_read_undisturbed given robust m i k n j at_p at_r later again (go kind)
    where
      filled : (c : StatementKind) → (at r).kind ≡ c → Fits (sets_of c).reads (relation_set (lines_of w) (at r).relation) (R (at r))
      filled c e =
          subst (λ (c : StatementKind). Fits (sets_of c).reads (relation_set (lines_of w) (at r).relation) (R (at r))) e
          (place_lawful given m k at_r).sets.reads

      go : ((at r).kind ≡ Kl) ⊎ ((at r).kind ≡ Ks) → R (at r) ≡ 0 → ⊥
      go (inl e) = (filled Kl e).1
      go (inr e) = (filled Ks e).1
