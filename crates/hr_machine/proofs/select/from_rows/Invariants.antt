use Rattle.std.proofs.Common.{[], ◌∷◌, take}
use Rattle.hr_meaning.specs.Exec.{tuples}
use Rattle.hr_eval.specs.Answerings.{IsSoFar}
use Rattle.hr_machine.specs.Kept.{kept_of}
use Rattle.hr_machine.proofs.select.from_rows.Given as goal

abbrev pub invariant-rows : goal.invariant-rows
invariant-rows l = IsSoFar l.select l.answering (kept_of l.select (tuples (take l.row-index l.rows ∷ [])))
