use Rattle.std.proofs.Common.{[], ◌∷◌}
use Rattle.hr_engine.specs.Journal.{RolledBack}
use Rattle.hr_faulty.proofs.Answered.{end_behind}
use Rattle.hr_faulty.proofs.faulty.rollback_lost.Goals as goal

pub returns-in-After-clause-told : goal.returns-in-After-clause-told
returns-in-After-clause-told g c =
    (RolledBack c.args.txn c.rollback-reply.result ∷ [], c.rollback-reply.ensures.journal, end_behind _ (RolledBack c.args.txn) _ c.in-After.is)
