use Rattle.std.proofs.Common.{◌≡◌, drop}
use Rattle.hr_problem.specs.Problems.{least}
use Rattle.hr_problem.specs.Sooner.{sooner}
use Rattle.hr_check.specs.Statements.{values_problems}
use Rattle.hr_check.proofs.insert.values_problem.Given as goal

-- the least so far and that of what is left is that of all
abbrev pub invariant-loop-place : goal.invariant-loop-place
invariant-loop-place l = sooner l.found (least (values_problems l.columns l.names l.place (drop l.place l.values))) ≡ least (values_problems l.columns l.names 0 l.values)
