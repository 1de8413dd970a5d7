use Rattle.std.proofs.Common.{[], ◌∷◌}
use Rattle.hr_engine.specs.Journal.{Ran}
use Rattle.hr_faulty.proofs.Answered.{run_behind}
use Rattle.hr_faulty.proofs.faulty.run_lost.Goals as goal

pub returns-in-After-clause-told : goal.returns-in-After-clause-told
returns-in-After-clause-told g c =
    (Ran c.args.txn c.args.stmt.now c.run-reply.result ∷ [], c.run-reply.ensures.journal, run_behind _ _ _ _ c.in-After.is)
