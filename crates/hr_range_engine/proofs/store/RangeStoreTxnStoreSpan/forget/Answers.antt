use Rattle.hr_range_engine.proofs.Ends.{forget_base, forget_sees}
use Rattle.hr_range_engine.proofs.store.RangeStoreTxnStoreSpan.forget.Goals as goal

pub returns-clause-base : goal.returns-clause-base
returns-clause-base c =
    let s = c.args.self.now in
    forget_base s.machine.catalog s.store c.forget.new.self s.whole c.forget.ensures.tables c.forget.ensures.cells

pub returns-clause-seen : goal.returns-clause-seen
returns-clause-seen c =
    let s = c.args.self.now in
    forget_sees s.machine.catalog s.store c.forget.new.self s.whole c.forget.ensures.tables c.forget.ensures.cells
