use Rattle.std.proofs.Common.{◌≡◌, ◌++◌, ◌-◌, length, take, drop}
use Rattle.hr_eval.specs.Tuples.{rows_in}
use Rattle.hr_eval.specs.Groups.{steps}
use Rattle.hr_eval.proofs.tallies.step_all.Given as goal

abbrev pub invariant-tallies : goal.invariant-tallies
invariant-tallies l =
    take l.at l.tallies ++ steps (rows_in l.tuple) (drop l.at l.items) (drop l.at l.tallies) ≡ steps (rows_in l.tuple) l.items l.fn.tallies

abbrev pub decreases-tallies : goal.decreases-tallies
decreases-tallies l = length l.initial.tallies - l.at
