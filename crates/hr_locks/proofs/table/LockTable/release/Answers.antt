use Rattle.std.proofs.Common.{◌≡◌, ◌==◌, if◌then◌else◌, None, ℕ, List, [], ◌++◌, map, take, drop, length, sym, ap, ◌∙◌, arith}
use Rattle.std.proofs.lemmas.List.{length-map, take-append-le, take_all}
use Rattle.hr_locks.specs.declared.wait.Wait.{Wait}
use Rattle.hr_locks.specs.Waits.{without, pairs, named_in, seen_waits, waits_of_others}
use Rattle.hr_locks.specs.Table.{wait_of}
use Rattle.hr_locks.specs.Seen.{waiter_of}
use Rattle.hr_locks.proofs.WaitLemmas.{seen_wait, parted, forgotten_wait}
use Rattle.hr_locks.proofs.Apart.{apart_release}
use Rattle.hr_locks.proofs.table.LockTable.release.Goals as goal

-- as many waits as there were
as_many : (a : ℕ) (old new : List Wait) → pairs new ≡ map (parted a) (pairs old) → length new ≡ length old
as_many a old new e =
    sym (length-map new (λ (w : Wait). (w.txn, w.names.items)))
    ∙ ap length e
    ∙ length-map (pairs old) (parted a)
    ∙ length-map old (λ (w : Wait). (w.txn, w.names.items))

-- what is written through a slice of all of a list
whole : (n : ℕ) (old new : List Wait) → length new ≡ n → take n (new ++ drop (length new) old) ≡ new
whole n old new e = take-append-le n new (drop (length new) old) (omega arith) ∙ take_all n new (omega arith)

pub returns-clause-waits : goal.returns-clause-waits
returns-clause-waits g c = λ t.
    let txn = c.args.txn in
    let waiter = waiter_of c.self.inside.last in
    let old = c.self.inside.waits.items in
    let dropped = c.drop_wait.new.waits.items in
    let new = c.forget.new.waits in
    let is_dropped : dropped ≡ waits_of_others waiter txn old = c.drop_wait.ensures.others ∙ ap (λ k. waits_of_others k txn old) c.waiter_of.ensures in
    let is_parted : pairs new ≡ map (parted txn) (pairs dropped) = c.forget.ensures ∙ ap (λ v. map (parted txn) (pairs v)) c.deref_mut.ensures.value in
    let back : take c.drop_wait.new.waits.len (new ++ drop (length new) dropped) ≡ new =
    whole c.drop_wait.new.waits.len dropped new (as_many txn dropped new is_parted ∙ sym c.drop_wait.new.waits.ok.0) in
    ap (λ v. named_in (pairs (seen_waits None v)) t) back
    ∙ seen_wait None new t
    ∙ forgotten_wait txn waiter old dropped new t is_dropped is_parted
    ∙ ap (λ v. if t == txn then [] else without txn v) (sym (seen_wait waiter old t) ∙ ap (λ v. wait_of v t) c.self.view_is)

pub invariant_of-self : goal.invariant_of-self
invariant_of-self g c = apart_release g.N.LockName.meets c.args.txn c.self.inside.locks.items c.drop_locks.new.locks.items c.drop_locks.ensures c.self.invariant
