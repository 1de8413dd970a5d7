use Rattle.std.proofs.Common.{◌≡◌, ◌<◌, ◌≤◌, ◌||◌, ◌&&◌, ◌==◌, ◌∙◌, not, [], ◌∷◌, length, ap, subst, arith}
use Rattle.std.proofs.lemmas.List.{take_all}
use Rattle.hr_base.specs.Lists.{has, is_ascending}
use Rattle.hr_locks.specs.Locks.{is_in_the_way}
use Rattle.hr_locks.proofs.HolderLemmas.{one_need, no_needs, shut_none}
use Rattle.hr_locks.proofs.conflicts.holders.Goals as goal

pub needs-init : goal.needs-init
needs-init g c = record {
  ascending = ap is_ascending c.new-them.ensures.items;
  all = λ t. ap (λ v. has v t) c.new-them.ensures.items ∙ shut_none (t == c.args.asker) (is_in_the_way g.N.LockName.meets c.args.locks.now [] t) (no_needs g.N.LockName.meets c.args.locks.now t);
}

pub needs-preserved : goal.needs-preserved
needs-preserved g c =
    let meets = g.N.LockName.meets in
    let locks = c.args.locks.now in
    let needs = c.args.needs.now in
    let at = c.needs.need-index in
    let need = c.need-item.result in
    let within : at < length needs = omega (arith, c.needs-test.true) in
    record {
      ascending = c.in_ok-add_holders.ensures.ascending;
      all = λ t. c.in_ok-add_holders.ensures.added t
          ∙ ap (λ b. b || (not (t == c.args.asker) && is_in_the_way meets locks (need ∷ []) t)) (c.needs.invariant.all t)
          ∙ one_need meets locks needs at t c.args.asker need within c.need-item.is;
    }

pub returns : goal.returns
returns g c =
    let past : length c.args.needs.now ≤ c.needs.need-index = omega (arith, c.needs-test.false) in
    record {
      ascending = c.needs.invariant.ascending;
      all = λ t. subst (λ v. has c.needs.them.items t ≡ (not (t == c.args.asker) && is_in_the_way g.N.LockName.meets c.args.locks.now v t))
          (take_all c.needs.need-index c.args.needs.now past) (c.needs.invariant.all t);
    }
