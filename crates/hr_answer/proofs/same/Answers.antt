use Rattle.hr_answer.proofs.ValueOrder.{same_rows}
use Rattle.hr_answer.proofs.same.Goals as goal

pub returns-in-Rows-Rows : goal.returns-in-Rows-Rows
returns-in-Rows-Rows c = same_rows _ _ _ _ c.in-Rows-Rows.is-0 c.in-Rows-Rows.is-1 c.requires.first c.requires.second _ c.is_same_list.ensures
