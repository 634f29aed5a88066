-- The laws on the workloads of Examples (specs/) that meet their premises. It stands here, so that a changed law is refused by name.
use Rattle.std.specs.Prelude.{false, ◌≡◌, refl}
use Rattle.std.proofs.Common.{inl, arith}
use Rattle.spec_text.specs.declared.StatementKind.TheVariants.{Ps, Ku, Pu}
use Rattle.spec_graph.specs.ExampleText.{ps, ku, pu}
use Rattle.spec_graph.specs.Program.{statement_of}
use Rattle.spec_graph.specs.Unfolding.Execution.{end, step}
use Rattle.spec_graph.specs.Unfolding.ItemExecution.{perform}
use Rattle.cases.specs.Computed.{all_pass}
use Rattle.law_database.specs.Disturbs.{disturbs}
use Rattle.law_database.specs.Examples.{line_of, program_of_lem, updating, updating_robust, deleting, deleting_robust, locking, read_again}
use Rattle.law_database.proofs.UndisturbedPrograms.{predicate_update_undisturbed_line, condition_lock_undisturbed_line}

-- law b: the update does not disturb the pu
updating_undisturbed : disturbs (statement_of Ku (ku 0 0 0 2)) (statement_of Pu (pu 0 0 1 2 1)) ≡ false
unfolding all_pass
updating_undisturbed =
    predicate_update_undisturbed_line updating_robust.given updating_robust.robust
    (pu 0 0 1 2 1) (line_of updating 2 refl) refl
    (ku 0 0 0 2) (line_of updating 4 refl) Ku refl refl

-- law c: the update does not disturb the ps that the kl reads again
deleting_undisturbed : disturbs (statement_of Ku (ku 0 0 0 1)) (statement_of Ps (ps 0 0 0 2)) ≡ false
unfolding all_pass
deleting_undisturbed =
    condition_lock_undisturbed_line deleting_robust.given deleting_robust.robust locking (program_of_lem deleting 0 refl)
    (step perform (step perform end)) 0 1 refl refl (omega arith) read_again (inl refl)
    (ku 0 0 0 1) (line_of deleting 7 refl) Ku refl refl refl
