use Rattle.std.proofs.Common.{[], ◌∷◌}
use Rattle.hr_engine.specs.Journal.{Committed}
use Rattle.hr_faulty.proofs.Answered.{end_as_is}
use Rattle.hr_faulty.proofs.faulty.commit_by.Goals as goal

pub returns-in-None-clause-told : goal.returns-in-None-clause-told
returns-in-None-clause-told g c = (Committed c.args.txn c.commit.result ∷ [], c.commit.ensures.journal, end_as_is _ (Committed c.args.txn) _ c.in-None.is)
