use Rattle.std.proofs.Common.{◌≡◌, ◌≢◌, false, ℕ, List, [], ◌∷◌, MatchOption, sym, ap, ◌∙◌, subst, arith}
use Rattle.hr_base.specs.Lists.{has}
use Rattle.hr_locks.specs.Locks.{is_in_the_way}
use Rattle.hr_locks.specs.Waits.{wait_seen}
use Rattle.hr_locks.specs.Cycles.{closes, IsToldCycle}
use Rattle.hr_locks.specs.Seen.{waiter_of}
use Rattle.hr_locks.proofs.Due.{some_named, due_blocked, due_deadlock}
use Rattle.hr_locks.proofs.answer.answer_due.Goals as goal

pub returns-in-Some : goal.returns-in-Some
returns-in-Some g c =
    let in_way = is_in_the_way g.N.LockName.meets c.args.locks.now c.args.needs.now in
    let waits = wait_seen (waiter_of c.args.last) c.args.waits.now in
    let asker = c.args.txn in
    let named = c.in_ok-named.named.items in
    let cycle = c.in-Some.cycle.items in
    let told : (path : List ℕ) × (cycle ≡ asker ∷ path) × IsToldCycle (has c.deref.result.now) (wait_seen c.waiter_of.result c.args.waits.now) asker path =
    subst (λ v. MatchOption v ((path : List ℕ) → closes (has c.deref.result.now) (wait_seen c.waiter_of.result c.args.waits.now) asker path ≡ false) (λ v. (path : List ℕ) × (v.items ≡ asker ∷ path) × IsToldCycle (has c.deref.result.now) (wait_seen c.waiter_of.result c.args.waits.now) asker path)) c.in-Some.is c.in_ok-cycle.ensures in
    due_deadlock in_way waits asker named c.in_ok-named.ensures cycle told.0 told.1
    (subst (λ k. IsToldCycle (has named) (wait_seen k c.args.waits.now) asker told.0) c.waiter_of.ensures
    (subst (λ v. IsToldCycle (has v) (wait_seen c.waiter_of.result c.args.waits.now) asker told.0) c.deref.ensures.value told.2))

pub returns-in-None : goal.returns-in-None
returns-in-None g c =
    let in_way = is_in_the_way g.N.LockName.meets c.args.locks.now c.args.needs.now in
    let waits = wait_seen (waiter_of c.args.last) c.args.waits.now in
    let asker = c.args.txn in
    let named = c.in_ok-named.named.items in
    let none : (path : List ℕ) → closes (has c.deref.result.now) (wait_seen c.waiter_of.result c.args.waits.now) asker path ≡ false =
    subst (λ v. MatchOption v ((path : List ℕ) → closes (has c.deref.result.now) (wait_seen c.waiter_of.result c.args.waits.now) asker path ≡ false) (λ v. (path : List ℕ) × (v.items ≡ asker ∷ path) × IsToldCycle (has c.deref.result.now) (wait_seen c.waiter_of.result c.args.waits.now) asker path)) c.in-None.is c.in_ok-cycle.ensures in
    let some : named ≢ [] = some_named c.in_ok-named.named.len named (omega (arith, c.in_ok-named.named.ok)) (sym c.if-is_empty.ensures) in
    due_blocked in_way waits asker named c.in_ok-named.ensures some
    (λ path. ap (λ v. closes (has v) waits asker path) (sym c.deref.ensures.value)
    ∙ ap (λ k. closes (has c.deref.result.now) (wait_seen k c.args.waits.now) asker path) (sym c.waiter_of.ensures) ∙ none path)
