use Rattle.hr_store.specs.declared.ending.Ending.TheVariants.{Commit}
use Rattle.hr_range_engine.proofs.Ends.{whole_ended, commit_base}
use Rattle.hr_range_engine.proofs.store.RangeStoreTxnStoreSpan.commit.Goals as goal

pub invariant_of-self : goal.invariant_of-self
invariant_of-self c =
    let s = c.args.self.now in
    record {
      ordered = s.ordered;
      whole = whole_ended s.machine.catalog s.store c.commit.new.self s.whole c.commit.ensures.tables Commit c.args.txn c.commit.ensures.cells;
    }

pub returns-clause-base : goal.returns-clause-base
returns-clause-base c db view =
    let s = c.args.self.now in
    commit_base s.machine.catalog s.store c.commit.new.self s.whole c.commit.ensures.tables c.args.txn c.commit.ensures.cells db view
