use Rattle.std.proofs.Common.{ℕ, ◌==◌, if◌then◌else◌, List, ◌∷◌, ◌++◌, map, refl, ap, subst, sym, ◌∙◌}
use Rattle.hr_engine.specs.declared.reply.RunReply.TheVariants as reply
use Rattle.hr_engine.specs.Journal.{Ran}
use Rattle.hr_locks.specs.declared.grant.Grant.{Grant}
use Rattle.hr_locks.specs.Grants.{locks_given, wait_given}
use Rattle.hr_locks.specs.Table.{wait_of, undo_given}
use Rattle.hr_lock_engine.specs.Keeps.{Keeps}
use Rattle.hr_lock_engine.proofs.Calls.{IsDueTo, undone, free_to_run, writes_done, keeps_blocked, keeps_deadlock, keeps_done, keeps_no_memory}
use Rattle.hr_lock_engine.proofs.engine.LockEngineBackend.run.Goals as goal

pub returns-in_default-clause-journal : goal.returns-in_default-clause-journal
returns-in_default-clause-journal g c db journal h =
    keeps_no_memory g.N.LockName.meets _ _ g.met.N.Locking.meeting g.met.N.Locking.footprint _ _ _ _ db journal h c.args.txn c.args.stmt.now _ refl _ _ refl (λ u t k. refl)

pub returns-in-Ok-Blocked-clause-journal : goal.returns-in-Ok-Blocked-clause-journal
returns-in-Ok-Blocked-clause-journal g c db journal h =
    subst (λ (l : List ℕ). Keeps g.N.Locking.covered g.N.Locking.parts (g.S.TxnStore.base c.args.self.now.store) (g.S.TxnStore.seen c.args.self.now.store) c.request.new.self c.args.self.now.commits db (Ran c.args.txn c.args.stmt.now (reply.Blocked l) ∷ journal)) (sym c.from_vec.ensures)
    (keeps_blocked g.N.LockName.meets _ _ g.met.N.Locking.meeting g.met.N.Locking.footprint _ _ _ _ db journal h c.args.txn c.args.stmt.now c.deref.result.now
    (ap (map g.N.Locking.covered) c.deref.ensures.value ∙ c.in-Ok.ensures) c.in-Ok-Blocked.named.items (subst (IsDueTo g.N.LockName.meets c.args.self.now.locks c.args.txn c.deref.result.now) c.in-Ok-Blocked.field-0-is c.in-Ok-Blocked.ensures.due) c.request.new.self (c.in-Ok-Blocked.ensures.locks ∙ ap (λ (x : Grant). c.args.self.now.locks.held.locks ++ locks_given c.args.txn c.deref.result.now x) c.in-Ok-Blocked.field-0-is)
    (λ u. c.in-Ok-Blocked.ensures.waits u ∙ ap (λ (x : Grant). if u == c.args.txn then wait_given x else wait_of c.args.self.now.locks u) c.in-Ok-Blocked.field-0-is))

pub returns-in-Ok-Deadlock-clause-journal : goal.returns-in-Ok-Deadlock-clause-journal
returns-in-Ok-Deadlock-clause-journal g c db journal h =
    subst (λ (l : List ℕ). Keeps g.N.Locking.covered g.N.Locking.parts (g.S.TxnStore.base c.args.self.now.store) (g.S.TxnStore.seen c.args.self.now.store) c.request.new.self c.args.self.now.commits db (Ran c.args.txn c.args.stmt.now (reply.Deadlock l) ∷ journal))
    (sym c.from_vec-in-Ok-Deadlock.ensures)
    (keeps_deadlock g.N.LockName.meets _ _ g.met.N.Locking.meeting g.met.N.Locking.footprint _ _ _ _ db journal h c.args.txn c.args.stmt.now c.deref.result.now
    (ap (map g.N.Locking.covered) c.deref.ensures.value ∙ c.in-Ok.ensures) c.in-Ok-Deadlock.cycle.items (subst (IsDueTo g.N.LockName.meets c.args.self.now.locks c.args.txn c.deref.result.now) c.in-Ok-Deadlock.field-0-is c.in-Ok-Deadlock.ensures.due) c.request.new.self (c.in-Ok-Deadlock.ensures.locks ∙ ap (λ (x : Grant). c.args.self.now.locks.held.locks ++ locks_given c.args.txn c.deref.result.now x) c.in-Ok-Deadlock.field-0-is)
    (λ u. c.in-Ok-Deadlock.ensures.waits u ∙ ap (λ (x : Grant). if u == c.args.txn then wait_given x else wait_of c.args.self.now.locks u) c.in-Ok-Deadlock.field-0-is))

pub returns-in-Err-clause-journal : goal.returns-in-Err-clause-journal
returns-in-Err-clause-journal g c db journal h =
    keeps_no_memory g.N.LockName.meets _ _ g.met.N.Locking.meeting g.met.N.Locking.footprint _ _ _ _ db journal h c.args.txn c.args.stmt.now c.request.new.self
    (ap (λ t. t.held) c.in-Err.ensures.err) _ _ refl (λ u t k. refl)

pub run-requires : goal.run-requires
run-requires g c =
    free_to_run g.N.Locking.covered _ c.args.self.now.locks c.args.self.now.locked g.N.LockName.meets g.met.N.Locking.meeting c.args.txn (g.N.Locking.parts c.args.stmt.now) c.deref.result.now
    (ap (map g.N.Locking.covered) c.deref.ensures.value ∙ c.in-Ok.ensures) (subst (IsDueTo g.N.LockName.meets c.args.self.now.locks c.args.txn c.deref.result.now) c.in-Ok-Granted.field-0-is c.in-Ok-Granted.ensures.due)

pub invariant_of-self-in-Ok-run : goal.invariant_of-self-in-Ok-run
invariant_of-self-in-Ok-run g c = record {
  locked = writes_done g.N.Locking.covered _ c.args.self.now.locks c.args.self.now.locked _ c.request.new.self c.args.txn (g.N.Locking.parts c.args.stmt.now) c.deref.result.now
      (ap (map g.N.Locking.covered) c.deref.ensures.value ∙ c.in-Ok.ensures) (c.in-Ok-Granted.ensures.locks ∙ ap (λ (x : Grant). c.args.self.now.locks.held.locks ++ locks_given c.args.txn c.deref.result.now x) c.in-Ok-Granted.field-0-is) c.in-Ok-run.ensures.wrote;
}

pub returns-in-Ok-run-clause-journal : goal.returns-in-Ok-run-clause-journal
returns-in-Ok-run-clause-journal g c db journal h =
    keeps_done g.N.LockName.meets _ _ g.met.N.Locking.meeting g.met.N.Locking.footprint _ _ _ _ db journal h c.args.txn c.args.stmt.now c.deref.result.now
    (ap (map g.N.Locking.covered) c.deref.ensures.value ∙ c.in-Ok.ensures) c.in_order.result c.in-Ok-run.answer (subst (IsDueTo g.N.LockName.meets c.args.self.now.locks c.args.txn c.deref.result.now) c.in-Ok-Granted.field-0-is c.in-Ok-Granted.ensures.due) c.request.new.self (c.in-Ok-Granted.ensures.locks ∙ ap (λ (x : Grant). c.args.self.now.locks.held.locks ++ locks_given c.args.txn c.deref.result.now x) c.in-Ok-Granted.field-0-is)
    (λ u. c.in-Ok-Granted.ensures.waits u ∙ ap (λ (x : Grant). if u == c.args.txn then wait_given x else wait_of c.args.self.now.locks u) c.in-Ok-Granted.field-0-is) _ _ c.in-Ok-run.ensures.base c.in-Ok-run.ensures.answer c.in_order.ensures.same c.in-Ok-run.ensures.after c.in-Ok-run.ensures.others

pub returns-clause-journal : goal.returns-clause-journal
returns-clause-journal g c db journal h =
    keeps_no_memory g.N.LockName.meets _ _ g.met.N.Locking.meeting g.met.N.Locking.footprint _ _ _ _ db journal h c.args.txn c.args.stmt.now c.undo.new.self
    (undone c.request.new.self.undo (c.args.txn, c.args.self.now.locks.held) c.undo.new.self (c.in-Ok-Granted.ensures.undo ∙ ap (λ (x : Grant). undo_given c.args.txn c.args.self.now.locks.held x) c.in-Ok-Granted.field-0-is) c.undo.ensures) _ _ c.in-Err-run.ensures.base c.in-Err-run.ensures.err
