use Rattle.std.proofs.Common.{ℕ, ◌∷◌, subst, sym}
use Rattle.hr_engine.specs.declared.reply.EndReply.TheVariants as end
use Rattle.hr_engine.specs.Journal.{Committed}
use Rattle.hr_lock_engine.specs.Keeps.{Keeps}
use Rattle.hr_lock_engine.proofs.Calls.{writes_ended, keeps_committed}
use Rattle.hr_lock_engine.proofs.engine.LockEngineBackend.commit.Goals as goal

pub invariant_of-self : goal.invariant_of-self
invariant_of-self g c = record {
  locked = writes_ended g.N.Locking.covered _ c.args.self.now.locks c.args.self.now.locked _ c.release.new.self c.args.txn c.release.ensures.locks c.commit.ensures.wrote;
}

pub returns-clause-journal : goal.returns-clause-journal
returns-clause-journal g c db journal h =
    subst (λ (n : ℕ). Keeps g.N.Locking.covered g.N.Locking.parts (g.S.TxnStore.base c.commit.new.self) (g.S.TxnStore.seen c.commit.new.self) c.release.new.self n db (Committed c.args.txn end.Done ∷ journal)) (sym c.saturating_add-self.ensures)
    (keeps_committed g.N.LockName.meets _ _ g.met.N.Locking.meeting g.met.N.Locking.footprint _ _ _ _ db journal h c.args.txn c.release.new.self c.release.ensures.locks c.release.ensures.waits _ _
    (g.S.TxnStore.wrote c.args.self.now.store) c.args.self.now.locked (g.met.S.TxnStore.unwritten c.args.self.now.store) c.commit.ensures.base c.commit.ensures.seen)
