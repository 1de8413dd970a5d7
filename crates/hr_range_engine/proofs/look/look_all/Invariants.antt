use Rattle.std.proofs.Common.{◌≡◌, ℕ, ℤ, true, take}
use Rattle.hr_rel.specs.Holds.{IsOrdered}
use Rattle.hr_parts.specs.Parts.{covers, row_at}
use Rattle.hr_plan.specs.Needs.{parts_of}
use Rattle.hr_store.specs.Store.{tables_of}
use Rattle.hr_range_engine.specs.Shown.{SameCells, seen_by}
use Rattle.hr_range_engine.proofs.look.look_all.Given as goal

abbrev pub invariant-needs : goal.invariant-needs
invariant-needs l = record {
  ordered : IsOrdered l.machine;
  catalog : l.machine.catalog ≡ l.fn.machine.catalog;
  same : SameCells l.fn.store l.store;
  tables : tables_of l.store ≡ tables_of l.fn.store;
  looked : (t : ℕ) (k : ℤ) → covers (parts_of (take l.need-index l.needs)) t k ≡ true → row_at l.machine t k ≡ seen_by l.fn.store l.txn t k;
}
