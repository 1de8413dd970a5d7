use Rattle.hr_print.proofs.Appends.{written_four}
use Rattle.hr_print.proofs.printing.insert.Goals as goal

pub returns : goal.returns
returns c =
    let columns = rw c.as_slice.ensures at c.in_ok-columns.ensures in
    let tuples = rw c.as_slice-2.ensures at c.in_ok-joined.ensures in
    written_four _ _ _ _ _ _ _ _ _ c.in_ok-start.ensures columns c.in_ok-put.ensures tuples
