use Rattle.std.proofs.Common.{[], ◌∷◌, ap}
use Rattle.std.specs.Prelude.{option_copied}
use Rattle.hr_engine.specs.Journal.{Ran}
use Rattle.hr_faulty.proofs.Answered.{run_as_is}
use Rattle.hr_faulty.proofs.faulty.run_by.Goals as goal

pub returns-in-None-clause-told : goal.returns-in-None-clause-told
returns-in-None-clause-told g c =
    (Ran c.args.txn c.args.stmt.now c.run.result ∷ [], c.run.ensures.journal, run_as_is _ _ _ _ (ap option_copied c.in-None.is))
