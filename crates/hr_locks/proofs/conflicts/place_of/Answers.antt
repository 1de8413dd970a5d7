use Rattle.std.proofs.Common.{◌<◌, ◌+◌, ◌-◌, ◌/◌, length, arith}
use Rattle.hr_locks.proofs.HolderLemmas.{lower_half, upper_half}
use Rattle.hr_locks.proofs.conflicts.place_of.Goals as goal

pub halves-preserved-then-them-middle : goal.halves-preserved-then-them-middle
halves-preserved-then-them-middle c =
    let middle = c.halves.low + (c.halves.high - c.halves.low) / 2 in
    let bound = c.halves.invariant.within in
    let within : middle < length c.args.them.now = omega (arith, c.halves-test.true, bound) in
    record {
      order = omega (arith, c.halves-test.true);
      within = bound;
      before = lower_half c.args.them.now middle c.args.txn c.requires within c.if-them-middle.true;
      after = c.halves.invariant.after;
    }

pub halves-preserved : goal.halves-preserved
halves-preserved c =
    let middle = c.halves.low + (c.halves.high - c.halves.low) / 2 in
    let bound = c.halves.invariant.within in
    record {
      order = omega (arith, c.halves-test.true);
      within = omega (arith, c.halves-test.true, bound);
      before = c.halves.invariant.before;
      after = upper_half c.args.them.now middle c.args.txn c.requires c.if-them-middle.false;
    }
