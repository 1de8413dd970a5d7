use Rattle.std.proofs.Common.{rules, ◌≡◌, ap, sym, ◌∙◌}
use Rattle.hr_range_engine.specs.Shown.{changed_in}
use Rattle.hr_range_engine.proofs.Needs.{change_is, read_is}
use Rattle.hr_range_engine.proofs.store.RangeStoreTxnStoreSpan.run.Goals as goal

pub change-requires-clause-one : goal.change-requires-clause-one
change-requires-clause-one c =
    let same : c.deref.result.now ≡ c.in_ok-needs.needs.items = search rules in
    change_is c.args.stmt.now c.in_ok-needs.needs.items c.in_ok-needs.ensures c.in-Some.span (ap changed_in (sym same) ∙ sym c.changed_in.ensures ∙ c.in-Some.is)

pub read-requires-clause-none : goal.read-requires-clause-none
read-requires-clause-none c =
    let same : c.deref.result.now ≡ c.in_ok-needs.needs.items = search rules in
    read_is c.args.stmt.now c.in_ok-needs.needs.items c.in_ok-needs.ensures (ap changed_in (sym same) ∙ sym c.changed_in.ensures ∙ c.in_default.is)
