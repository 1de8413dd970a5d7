use Rattle.std.proofs.Common.{[], ◌∷◌}
use Rattle.hr_engine.specs.Journal.{Restarted}
use Rattle.hr_faulty.proofs.Answered.{restart_behind}
use Rattle.hr_faulty.proofs.faulty.restart_lost.Goals as goal

pub returns-in-After-2-clause-told : goal.returns-in-After-2-clause-told
returns-in-After-2-clause-told g c =
    (Restarted c.restart-told.result ∷ [], c.restart-told.ensures.journal, restart_behind _ _ _ _ _ c.in-After-2.is c.if-lost.false)
