use Rattle.std.proofs.Common.{[], ◌∷◌}
use Rattle.hr_engine.specs.Journal.{Committed}
use Rattle.hr_faulty.proofs.Answered.{end_behind}
use Rattle.hr_faulty.proofs.faulty.commit_lost.Goals as goal

pub returns-in-After-clause-told : goal.returns-in-After-clause-told
returns-in-After-clause-told g c =
    (Committed c.args.txn c.commit-reply.result ∷ [], c.commit-reply.ensures.journal, end_behind _ (Committed c.args.txn) _ c.in-After.is)
