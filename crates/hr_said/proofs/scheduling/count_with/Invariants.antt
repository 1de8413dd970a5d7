use Rattle.std.proofs.Common.{◌≡◌, ◌+◌, map, take, sum}
use Rattle.hr_base.specs.Counters.{shown}
use Rattle.hr_said.specs.Schedule.{weight}
use Rattle.hr_said.proofs.scheduling.count_with.Given as goal

abbrev pub invariant-forms : goal.invariant-forms
invariant-forms l = l.count ≡ shown (l.before + sum (map (λ f. weight l.callers f) (take l.form-index l.forms)))
