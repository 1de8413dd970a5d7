use Rattle.std.proofs.Common.{[], ◌∷◌}
use Rattle.hr_engine.specs.Journal.{Restarted}
use Rattle.hr_faulty.proofs.Answered.{restart_as_is}
use Rattle.hr_faulty.proofs.faulty.restart_by.Goals as goal

pub returns-in-None-clause-told : goal.returns-in-None-clause-told
returns-in-None-clause-told g c =
    (Restarted c.restart.result ∷ [], c.restart.ensures.journal, restart_as_is _ _ _ _ _ c.in-None.is c.with_position.ensures)
