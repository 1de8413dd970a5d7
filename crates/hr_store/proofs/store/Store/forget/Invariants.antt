use Rattle.std.proofs.Common.{◌≡◌, ℕ, ℤ}
use Rattle.std.specs.BTreeMap.{btree_map_len}
use Rattle.hr_store.specs.Cells.{forgotten}
use Rattle.hr_store.specs.Store.{cell_at, tables_of, handed_of}
use Rattle.hr_store.proofs.store.Store.forget.Given as goal

abbrev pub decreases-txns : goal.decreases-txns
decreases-txns l = btree_map_len l.self.written

abbrev pub invariant-txns : goal.invariant-txns
invariant-txns l = record {
  cells : (t : ℕ) (k : ℤ) → forgotten (cell_at l.self t k) ≡ forgotten (cell_at l.fn.self t k);
  tables : tables_of l.self ≡ tables_of l.fn.self;
  handed : handed_of l.self ≡ handed_of l.fn.self;
}
