use Rattle.hr_print.proofs.Appends.{written_two}
use Rattle.hr_print.proofs.printing.delete.Goals as goal

pub returns : goal.returns
returns c = written_two _ _ _ _ _ c.in_ok-start.ensures c.in_ok-filter.ensures
