-- Equal answers: each answer is equal to itself.
use Rattle.std.proofs.Common.{List, [], ◌∷◌, refl}
use Rattle.std.specs.List.{AllZip}
use Rattle.std.proofs.lemmas.List.Sorted.{IsPermutation-refl}
use Rattle.hr_rel.specs.declared.answer.Answer.{Answer}
use Rattle.hr_rel.specs.declared.answer.Answer.TheVariants.{Rows, Count, Failed}
use Rattle.hr_meaning.specs.SameAnswer.{SameAnswer}

pub same_itself : (a : Answer) → SameAnswer a a
same_itself (Rows rows) = IsPermutation-refl rows
same_itself (Count n) = refl
same_itself (Failed e) = refl

pub all_same_themselves : (as' : List Answer) → AllZip SameAnswer as' as'
all_same_themselves [] = tt
all_same_themselves (a ∷ as') = (same_itself a, all_same_themselves as')
