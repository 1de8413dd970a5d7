use Rattle.std.proofs.Common.{◌≡◌, ◌==◌, if◌then◌else◌, ℕ, sym, ap, ◌∙◌, subst}
use Rattle.hr_locks.specs.Locks.{is_in_the_way}
use Rattle.hr_locks.specs.Waits.{wait_seen}
use Rattle.hr_locks.specs.Grants.{IsDue, wait_given}
use Rattle.hr_locks.specs.Table.{wait_of}
use Rattle.hr_locks.specs.Seen.{waiter_of}
use Rattle.hr_locks.proofs.WaitLemmas.{seen_wait}
use Rattle.hr_locks.proofs.Due.{same_waits}
use Rattle.hr_locks.proofs.Apart.{apart_request}
use Rattle.hr_locks.proofs.table.LockTable.request.Goals as goal

pub returns-clause-due : goal.returns-clause-due
returns-clause-due g c =
    let meets = g.N.LockName.meets in
    let needs = c.args.needs.now in
    let txn = c.args.txn in
    let grant = c.in_ok-grant.grant in
    let waiter = waiter_of c.self.inside.last in
    let ws = c.self.inside.waits.items in
    let waits = wait_seen waiter c.deref-2.result.now in
    let each : (t : ℕ) → waits t ≡ wait_of c.args.self.now t = λ t.
    ap (λ v. wait_seen waiter v t) c.deref-2.ensures.value ∙ sym (seen_wait waiter ws t) ∙ ap (λ v. wait_of v t) c.self.view_is in
    subst (λ f. IsDue (is_in_the_way meets c.args.self.now.held.locks needs) f txn grant) (same_waits waits (wait_of c.args.self.now) each)
    (subst (λ v. IsDue (is_in_the_way meets v needs) waits txn grant) (c.deref.ensures.value ∙ ap (λ v. v.held.locks) c.self.view_is) c.in_ok-grant.ensures)

pub returns-clause-waits : goal.returns-clause-waits
returns-clause-waits g c = λ t.
    let txn = c.args.txn in
    let grant = c.in_ok-grant.grant in
    let waiter = waiter_of c.self.inside.last in
    seen_wait (waiter_of c.in_ok-self-inside.field-0) c.carry_out.new.waits.items t
    ∙ c.in_ok-self-inside.ensures.waits t
    ∙ ap (λ v. if t == txn then wait_given grant else v) (sym (seen_wait waiter c.self.inside.waits.items t) ∙ ap (λ v. wait_of v t) c.self.view_is)

pub invariant_of-self-2 : goal.invariant_of-self-2
invariant_of-self-2 g c =
    let meets = g.N.LockName.meets in
    let needs = c.args.needs.now in
    let waits = wait_seen (waiter_of c.self.inside.last) c.deref-2.result.now in
    apart_request meets c.self.inside.locks.items c.carry_out.new.locks.items waits c.args.txn needs c.in_ok-grant.grant
    (subst (λ v. IsDue (is_in_the_way meets v needs) waits c.args.txn c.in_ok-grant.grant) c.deref.ensures.value c.in_ok-grant.ensures)
    c.in_ok-self-inside.ensures.locks c.self.invariant
