use Rattle.std.proofs.Common.{◌≡◌, ◌++◌, length}
use Rattle.hr_base.specs.Texts.{doubled}
use Rattle.hr_print.proofs.parts.doubled.Given as goal

abbrev pub invariant-loop-text : goal.invariant-loop-text
invariant-loop-text l = l.out.items ++ doubled l.text ≡ l.fn.out.items ++ doubled l.initial.text

abbrev pub decreases-loop-text : goal.decreases-loop-text
decreases-loop-text l = length l.text
