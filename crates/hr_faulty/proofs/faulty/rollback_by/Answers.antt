use Rattle.std.proofs.Common.{[], ◌∷◌}
use Rattle.hr_engine.specs.Journal.{RolledBack}
use Rattle.hr_faulty.proofs.Answered.{end_as_is}
use Rattle.hr_faulty.proofs.faulty.rollback_by.Goals as goal

pub returns-in-None-clause-told : goal.returns-in-None-clause-told
returns-in-None-clause-told g c = (RolledBack c.args.txn c.rollback.result ∷ [], c.rollback.ensures.journal, end_as_is _ (RolledBack c.args.txn) _ c.in-None.is)
