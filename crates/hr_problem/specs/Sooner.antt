-- Not to be believed: how the code tells the least of two.
use Rattle.std.specs.Prelude.{Option, Some, None}
use Rattle.hr_base.specs.Lists.{earlier}
use Rattle.hr_problem.specs.declared.problem.Problem.{Problem}
use Rattle.hr_problem.specs.Problems.{is_before}

-- of two problems that may be there, the first unless the second is before it
abbrev pub sooner : Option Problem → Option Problem → Option Problem
sooner None q = q
sooner (Some p) q = earlier is_before p q
