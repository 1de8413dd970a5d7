use Rattle.std.proofs.Common.{◌≡◌, ℕ, suc, ◌+◌, ◌*◌, ◌≤◌, ap, sym, ◌∙◌, subst, arith}
use Rattle.std.specs.List.{range_with_len}
use Rattle.hr_base.specs.declared.limits.TheConstants.{MAX_SUBMITS}
use Rattle.hr_sane.proofs.Totals.{range_more}
use Rattle.hr_ledger.proofs.Rooms.{share, shares, enough}
use Rattle.hr_ledger.proofs.room.replica_room.Goals as goal

pub replicas-preserved : goal.replicas-preserved
replicas-preserved c =
    let v = c.args.view.now in
    let n = c.replicas.replica in
    let next : n + 1 ≡ suc n = omega arith in
    let here : 0 + n ≡ n = omega arith in
    record {
      total = omega (arith, c.replicas.invariant.total, c.entries.ensures.value, range_more (share v) 0 n, ap (share v) here, ap (λ k. shares v (range_with_len 0 k)) next);
      few = omega (arith, c.replicas.invariant.few, c.entries.ensures.few);
    }

pub returns : goal.returns
returns c =
    let v = c.args.view.now in
    let last : c.replicas.replica ≡ 2 * v.f + 1 = omega (arith, c.replicas-test.false, c.f.ensures.value, c.replicas.auto.replica-end) in
    record {
      enough = omega (arith, enough v, c.replicas.invariant.total, ap (λ n. shares v (range_with_len 0 n)) last);
      few = omega (arith, c.replicas.invariant.few, last, c.f.ensures.few);
    }
