use Rattle.hr_step.proofs.KeptLemmas.{lock_engine_keeps, both_honest}
use Rattle.hr_step.proofs.engines.FaultyEngineLockEngineTableNameTableStoreLockEngineSpanRangeStoreReplica.rows.Goals as goal

pub rows_of-requires-clause-table : goal.rows_of-requires-clause-table
rows_of-requires-clause-table c = λ t start journal kept. lock_engine_keeps _ _ _ _ _ _ start journal kept

pub rows_of-requires-clause-range : goal.rows_of-requires-clause-range
rows_of-requires-clause-range c = λ r start journal kept. lock_engine_keeps _ _ _ _ _ _ start journal kept

pub rows_of-requires-clause-honest : goal.rows_of-requires-clause-honest
rows_of-requires-clause-honest c = λ e. both_honest e
