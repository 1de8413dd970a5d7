use Rattle.hr_lock_engine.proofs.Calls.{writes_ended, keeps_rolled_back}
use Rattle.hr_lock_engine.proofs.engine.LockEngineBackend.rollback.Goals as goal

pub invariant_of-self : goal.invariant_of-self
invariant_of-self g c = record {
  locked = writes_ended g.N.Locking.covered _ c.args.self.now.locks c.args.self.now.locked _ c.release.new.self c.args.txn c.release.ensures.locks c.rollback.ensures.wrote;
}

pub returns-clause-journal : goal.returns-clause-journal
returns-clause-journal g c db journal h =
    keeps_rolled_back g.N.LockName.meets _ _ g.met.N.Locking.meeting g.met.N.Locking.footprint _ _ _ _ db journal h c.args.txn c.release.new.self c.release.ensures.locks c.release.ensures.waits _ _
    c.rollback.ensures.base c.rollback.ensures.seen c.rollback.ensures.others
