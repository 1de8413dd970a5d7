-- How many keys the store of the engine has handed out.
use Rattle.std.specs.Prelude.{ℕ}
use Rattle.hr_store.specs.Store.{handed_of}
use Rattle.hr_range_engine.specs.declared.store.RangeStore.{RangeStore}

abbrev pub handed_by : RangeStore → ℕ
handed_by rows = handed_of rows.store
