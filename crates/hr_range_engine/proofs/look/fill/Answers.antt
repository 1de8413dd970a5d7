use Rattle.hr_range_engine.proofs.Found.{with_rows_ordered}
use Rattle.hr_range_engine.proofs.look.fill.Goals as goal

pub put_table-requires-clause-ordered : goal.put_table-requires-clause-ordered
put_table-requires-clause-ordered c = with_rows_ordered c.args.machine.now c.args.table c.args.rows c.requires.ordered c.requires.ascending
