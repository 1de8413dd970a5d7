use Rattle.hr_generator.proofs.Steps.{row_more}
use Rattle.hr_generator.proofs.text.push_rows.Goals as goal

pub rows-preserved : goal.rows-preserved
rows-preserved c = row_more c.rows.before _ _ _ c.rows.invariant c.in_ok-push_row.ensures
