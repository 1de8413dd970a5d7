use Rattle.hr_range_engine.proofs.Looks.{wide_table, wide_more}
use Rattle.hr_range_engine.proofs.look.wide.Goals as goal

pub needs-preserved : goal.needs-preserved
needs-preserved c =
    let new = c.widened-span.result in
    record {
      table = wide_table c.args.needs.now c.needs.need-index _ c.needs-test.true c.args.table c.needs.span new c.widened-span.ensures c.needs.invariant.table;
      wide = wide_more c.args.needs.now c.needs.need-index _ c.needs-test.true c.args.table c.needs.span new c.widened-span.ensures c.needs.invariant.table c.needs.invariant.wide;
    }
