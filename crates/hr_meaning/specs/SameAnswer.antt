-- Equal answers.
use Rattle.std.specs.Prelude.{◌≡◌, IsPermutation}
use Rattle.hr_rel.specs.declared.answer.Answer.{Answer}
use Rattle.hr_rel.specs.declared.answer.Answer.TheVariants.{Rows, Count, Failed}

-- two answers are equal: the same count, the same failure, or the same rows as often, in any order
abbrev pub SameAnswer : Answer → Answer → Type 0
SameAnswer (Rows xs) (Rows ys) = IsPermutation xs ys
SameAnswer (Count m) (Count n) = m ≡ n
SameAnswer (Failed d) (Failed e) = d ≡ e
SameAnswer _ _ = ⊥
