use Rattle.std.proofs.Common.{List, [], ◌∷◌, ◌++◌, map, take}
use Rattle.hr_meaning.specs.Truth.{Tuple}
use Rattle.hr_meaning.specs.Exec.{tuples}
use Rattle.hr_eval.specs.Answerings.{IsSoFar}
use Rattle.hr_machine.specs.Kept.{kept_of, with_first}
use Rattle.hr_machine.proofs.select.offer_pairs.Given as goal

abbrev pub invariant-seconds : goal.invariant-seconds
invariant-seconds l =
    (kept : List Tuple) → IsSoFar l.select l.fn.answering kept
    → IsSoFar l.select l.answering (kept ++ kept_of l.select (map (with_first l.first) (tuples (take l.second-index l.seconds ∷ []))))
