use Rattle.std.proofs.Common.{[], ◌∷◌}
use Rattle.hr_engine.specs.Journal.{Ran}
use Rattle.hr_faulty.proofs.Answered.{run_at_position}
use Rattle.hr_faulty.proofs.faulty.run_at.Goals as goal

pub returns-in-Position-clause-told : goal.returns-in-Position-clause-told
returns-in-Position-clause-told g c =
    (Ran c.args.txn c.args.stmt.now c.run.result ∷ [], c.run.ensures.journal, run_at_position _ _ _ _ _ c.in-Position.is)
