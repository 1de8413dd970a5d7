use Rattle.std.proofs.Common.{◌≡◌, ◌++◌, map, take}
use Rattle.hr_said.specs.Schedule.{choice_of}
use Rattle.hr_said.proofs.scheduling.add_choices.Given as goal

abbrev pub invariant-forms : goal.invariant-forms
invariant-forms l = l.choices ≡ l.fn.choices ++ map choice_of (take l.form-index l.forms)
