use Rattle.std.proofs.Common.{◌≤◌}
use Rattle.hr_figures.proofs.rules.answers.Given as goal

abbrev pub invariant-calls : goal.invariant-calls
invariant-calls l = l.answered ≤ l.call
