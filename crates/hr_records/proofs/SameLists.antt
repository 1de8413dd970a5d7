-- The test for the same list of answers is exact.
use Rattle.std.proofs.Common.{◌≡◌, true, List, [], ◌∷◌, refl}
use Rattle.std.proofs.lemmas.Bool.{and_parts, and_from}
use Rattle.hr_rel.specs.declared.answer.Answer.{Answer}
use Rattle.hr_history.specs.SameAnswers.{same_answer, same_answers}
use Rattle.hr_history.proofs.SameAnswersLemmas.{same_answer_decides}

pub same_lists : (xs ys : List Answer) → same_answers xs ys ≡ true → xs ≡ ys
same_lists [] [] e = refl
same_lists [] (y ∷ ys) e = cc
same_lists (x ∷ xs) [] e = cc
same_lists (x ∷ xs) (y ∷ ys) e =
    let parts = and_parts (same_answer x y) (same_answers xs ys) e in
    λ i. (same_answer_decides x y).0 parts.0 i ∷ same_lists xs ys parts.1 i

pub themselves : (xs : List Answer) → same_answers xs xs ≡ true
themselves [] = refl
themselves (x ∷ xs) = and_from (same_answer x x) (same_answers xs xs) ((same_answer_decides x x).1 refl) (themselves xs)
