-- The store of an engine.
use Rattle.hr_locks.specs.declared.need.LockName as names
use Rattle.hr_lock_engine.specs.declared.locking.Locking as locking
use Rattle.hr_lock_engine.specs.declared.store.TxnStore as stores
use Rattle.hr_lock_engine.specs.declared.engine.LockEngine.{LockEngine}

module _ {N S : Type 0} {by : locking.Ghosts N} {names_by : names.Ghosts N} {rows_by : stores.Ghosts S N} where
  abbrev pub store_of : LockEngine N S by names_by rows_by → S
  store_of engine = engine.store
