use Rattle.std.proofs.Common.{◌≡◌, length, false}
use Rattle.hr_forms.specs.Choices.{behind, choices_of}
use Rattle.hr_forms.proofs.choice.choices_of.Given as goal

abbrev pub invariant-words : goal.invariant-words
invariant-words l = behind l.choices (choices_of l.in_rounds l.rest) ≡ choices_of false l.fn.words

abbrev pub decreases-words : goal.decreases-words
decreases-words l = length l.rest
