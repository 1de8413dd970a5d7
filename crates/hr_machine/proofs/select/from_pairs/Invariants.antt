use Rattle.std.proofs.Common.{[], ◌∷◌, take}
use Rattle.hr_meaning.specs.Exec.{tuples}
use Rattle.hr_eval.specs.Answerings.{IsSoFar}
use Rattle.hr_machine.specs.Kept.{kept_of}
use Rattle.hr_machine.proofs.select.from_pairs.Given as goal

abbrev pub invariant-firsts : goal.invariant-firsts
invariant-firsts l = IsSoFar l.select l.answering (kept_of l.select (tuples (take l.first-index l.firsts ∷ l.seconds ∷ [])))
