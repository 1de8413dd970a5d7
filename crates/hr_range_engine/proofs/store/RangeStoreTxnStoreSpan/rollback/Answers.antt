use Rattle.hr_store.specs.declared.ending.Ending.TheVariants.{Rollback}
use Rattle.hr_range_engine.proofs.Ends.{whole_ended, rollback_base, rollback_sees}
use Rattle.hr_range_engine.proofs.store.RangeStoreTxnStoreSpan.rollback.Goals as goal

pub invariant_of-self : goal.invariant_of-self
invariant_of-self c =
    let s = c.args.self.now in
    record {
      ordered = s.ordered;
      whole = whole_ended s.machine.catalog s.store c.rollback.new.self s.whole c.rollback.ensures.tables Rollback c.args.txn c.rollback.ensures.cells;
    }

pub returns-clause-base : goal.returns-clause-base
returns-clause-base c =
    let s = c.args.self.now in
    rollback_base s.machine.catalog s.store c.rollback.new.self s.whole c.rollback.ensures.tables c.args.txn c.rollback.ensures.cells

pub returns-clause-seen : goal.returns-clause-seen
returns-clause-seen c =
    let s = c.args.self.now in
    rollback_sees s.machine.catalog s.store c.rollback.new.self s.whole c.rollback.ensures.tables c.args.txn c.rollback.ensures.cells
