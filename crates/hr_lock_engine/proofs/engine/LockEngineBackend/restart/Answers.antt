use Rattle.hr_lock_engine.proofs.Calls.{keeps_restarted}
use Rattle.hr_lock_engine.proofs.engine.LockEngineBackend.restart.Goals as goal

pub returns-clause-journal : goal.returns-clause-journal
returns-clause-journal g c db journal h =
    keeps_restarted g.N.LockName.meets _ _ g.met.N.Locking.meeting g.met.N.Locking.footprint _ _ _ _ db journal h c.release_all.new.self c.release_all.ensures _ _ c.forget.ensures.base c.forget.ensures.seen
