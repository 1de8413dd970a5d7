use Rattle.std.proofs.Common.{◌≡◌, length, map}
use Rattle.hr_line.specs.Numbers.{number_of}
use Rattle.hr_forms.specs.Words.{all_there}
use Rattle.hr_forms.proofs.Steps.{behind}
use Rattle.hr_forms.proofs.words.numbers_of.Given as goal

abbrev pub invariant-words : goal.invariant-words
invariant-words l = behind l.numbers (all_there (map number_of l.rest)) ≡ all_there (map number_of l.fn.words)

abbrev pub decreases-words : goal.decreases-words
decreases-words l = length l.rest
