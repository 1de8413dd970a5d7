use Rattle.std.proofs.Common.{◌≡◌, ◌<◌, ◌||◌, ◌&&◌, ◌==◌, ◌∙◌, true, not, [], ◌∷◌, length, get_or, take, ap, sym, subst, arith}
use Rattle.hr_base.specs.Lists.{has, is_ascending}
use Rattle.hr_locks.specs.Locks.{is_conflict, is_in_the_way}
use Rattle.hr_locks.proofs.HolderLemmas.{more_in_way, same_in_way, one_lock}
use Rattle.hr_locks.proofs.conflicts.add_holders.Goals as goal
use Rattle.hr_locks.proofs.conflicts.add_holders.Goals.{then-is_in_the_way+in_ok-add, else-is_in_the_way}

pub locks-preserved : goal.locks-preserved
locks-preserved g c =
    let meets = g.N.LockName.meets in
    let locks = c.args.locks.now in
    let need = c.args.need.now in
    let asker = c.args.asker in
    let before = c.args.them.now.items in
    let at = c.locks.lock-index in
    let lock = c.lock-item.result in
    let within : at < length locks = omega (arith, c.locks-test.true) in
    let is : lock ≡ get_or locks at lock = c.lock-item.is in
    elim c.if-is_in_the_way.branch [
      | then-is_in_the_way+in_ok-add w ↦ (
          let now : c.if-is_in_the_way.them.items ≡ w.add.new.them.items = λ i. (w.them-is i).items in
          record {
            ascending = subst (λ v. is_ascending v ≡ true) (sym now) w.in_ok-add.ensures.ascending;
            all = λ t. ap (λ v. has v t) now
                ∙ more_in_way lock.txn t asker (has before t) (is_in_the_way meets (take at locks) (need ∷ []) t) (is_conflict meets lock.need need)
                (has w.add.new.them.items t) (has c.locks.them.items t) (w.in_ok-add.ensures.added t) (c.locks.invariant.all t) (sym w.if-is_in_the_way.ensures)
                ∙ ap (λ b. has before t || (not (t == asker) && b)) (one_lock meets locks need at t lock within is);
          })
      | else-is_in_the_way w ↦ (
          let now : c.if-is_in_the_way.them.items ≡ c.locks.them.items = λ i. (w.them-is i).items in
          record {
            ascending = subst (λ v. is_ascending v ≡ true) (sym now) c.locks.invariant.ascending;
            all = λ t. ap (λ v. has v t) now
                ∙ same_in_way lock.txn t asker (has before t) (is_in_the_way meets (take at locks) (need ∷ []) t) (is_conflict meets lock.need need)
                (has c.locks.them.items t) (c.locks.invariant.all t) (sym w.if-is_in_the_way.ensures)
                ∙ ap (λ b. has before t || (not (t == asker) && b)) (one_lock meets locks need at t lock within is);
          })
    ]
