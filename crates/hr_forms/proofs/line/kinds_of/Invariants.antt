use Rattle.std.proofs.Common.{◌≡◌, ◌++◌, length, map}
use Rattle.hr_forms.specs.Forms.{kind_named}
use Rattle.hr_forms.proofs.line.kinds_of.Given as goal

abbrev pub invariant-words : goal.invariant-words
invariant-words l = l.kinds ++ map kind_named l.rest ≡ map kind_named l.fn.words

abbrev pub decreases-words : goal.decreases-words
decreases-words l = length l.rest
