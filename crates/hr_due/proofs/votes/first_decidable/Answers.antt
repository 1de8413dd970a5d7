use Rattle.std.proofs.Common.{◌≡◌, suc, ◌-◌, if◌then◌else◌, get_or, ap, sym, ◌∙◌, arith}
use Rattle.hr_base.specs.Lists.{earlier}
use Rattle.hr_history.specs.Ranks.{ranks_before}
use Rattle.hr_history.specs.Votes.{is_decidable}
use Rattle.hr_pool.proofs.Firsts.{with_front}
use Rattle.hr_due.proofs.votes.first_decidable.Goals as goal

pub txns-preserved : goal.txns-preserved
txns-preserved c =
    let v = c.args.view.now in
    let xs = c.args.txns.now in
    let step : c.txns.left ≡ suc (c.txns.left - 1) = omega (arith, c.txns-test.true) in
    record {
      within = omega (arith, c.txns.invariant.within);
      first = c.or_decide-first.ensures
          ∙ ap (λ o. if is_decidable v (get_or xs (c.txns.left - 1) 0) then earlier (ranks_before v) (get_or xs (c.txns.left - 1) 0) o else o) c.txns.invariant.first
          ∙ sym (with_front (ranks_before v) (is_decidable v) xs (c.txns.left - 1) c.txns.left step (omega (arith, c.txns-test.true, c.txns.invariant.within)));
    }
