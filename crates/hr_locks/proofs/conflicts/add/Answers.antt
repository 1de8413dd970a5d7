use Rattle.std.proofs.Common.{◌<◌, ◌≤◌, ◌≢◌, ◌≡◌, ℕ, true, not, length, get_or, refl, sym, ◌∙◌, ap, subst, arith}
use Rattle.hr_base.specs.Lists.{has, is_ascending}
use Rattle.hr_locks.proofs.HolderLemmas.{ascending_put, greater_from, has_put, not_in}
use Rattle.hr_locks.proofs.conflicts.add.Goals as goal

pub returns-clause-ascending : goal.returns-clause-ascending
returns-clause-ascending c =
    let xs = c.args.them.now.items in
    let at = c.place_of-at.result in
    let txn = c.args.txn in
    let before : (k : ℕ) → k < at → get_or xs k 0 < txn =
    subst (λ v. (k : ℕ) → k < at → get_or v k 0 < txn) c.deref.ensures.value c.place_of-at.ensures.before in
    let not_less : (k : ℕ) → at ≤ k → k < length xs → txn ≤ get_or xs k 0 =
    subst (λ v. (k : ℕ) → at ≤ k → k < length v → txn ≤ get_or v k 0) c.deref.ensures.value c.place_of-at.ensures.after in
    let other : at < length xs → get_or xs at 0 ≢ txn =
    subst (λ v. at < length v → get_or v at 0 ≢ txn) c.deref-2.ensures.value (c.if-stands_at.ensures.elsewhere refl) in
    let within : at ≤ length xs = subst (λ v. at ≤ length v) c.deref.ensures.value c.place_of-at.ensures.within in
    subst (λ v. is_ascending v ≡ true) (sym c.in_ok-insert.ensures.items) (ascending_put xs at txn c.requires before (λ w. greater_from xs at txn c.requires not_less other at (omega arith) w) within)

pub returns-clause-added : goal.returns-clause-added
returns-clause-added c = λ u. ap (λ v. has v u) c.in_ok-insert.ensures.items ∙ has_put c.args.them.now.items c.place_of-at.result c.args.txn u

pub returns-clause-is_new : goal.returns-clause-is_new
returns-clause-is_new c =
    let xs = c.args.them.now.items in
    let at = c.place_of-at.result in
    let txn = c.args.txn in
    let before : (k : ℕ) → k < at → get_or xs k 0 < txn =
    subst (λ v. (k : ℕ) → k < at → get_or v k 0 < txn) c.deref.ensures.value c.place_of-at.ensures.before in
    let not_less : (k : ℕ) → at ≤ k → k < length xs → txn ≤ get_or xs k 0 =
    subst (λ v. (k : ℕ) → at ≤ k → k < length v → txn ≤ get_or v k 0) c.deref.ensures.value c.place_of-at.ensures.after in
    let other : at < length xs → get_or xs at 0 ≢ txn =
    subst (λ v. at < length v → get_or v at 0 ≢ txn) c.deref-2.ensures.value (c.if-stands_at.ensures.elsewhere refl) in
    sym (ap not (not_in xs at txn before (greater_from xs at txn c.requires not_less other)))
