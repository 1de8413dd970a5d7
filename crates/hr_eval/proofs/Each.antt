-- What comes of one more at the end of a list, and of the rest of a list behind its front.
use Rattle.std.proofs.Common.{◌≡◌, List, [], ◌∷◌, ◌++◌, Result, Ok, Err, refl, ap, sym, ◌∙◌}
use Rattle.std.proofs.lemmas.List.{append_assoc}
use Rattle.hr_rel.specs.declared.answer.RunError.{RunError}
use Rattle.hr_meaning.specs.Value.{and_then, each}
use Rattle.hr_eval.specs.SoFar.{with_last, led}

module _ {X : Type 0} where
  -- one more at the end comes behind what stands first
  pub first_and_last : (a : Result X RunError) (b : Result (List X) RunError) (c : Result X RunError)
      → and_then a (λ y. and_then (with_last b c) (λ ys. Ok (y ∷ ys))) ≡ with_last (and_then a (λ y. and_then b (λ ys. Ok (y ∷ ys)))) c
  first_and_last (Err e) b c = refl
  first_and_last (Ok y) (Err e) c = refl
  first_and_last (Ok y) (Ok ys) (Err e) = refl
  first_and_last (Ok y) (Ok ys) (Ok z) = refl

  pub led_from_start : (all : Result (List X) RunError) → led [] all ≡ all
  led_from_start (Ok xs) = refl
  led_from_start (Err e) = refl

  pub led_by_one_more : (front : List X) (x : X) (all : Result (List X) RunError)
      → led front (and_then all (λ xs. Ok (x ∷ xs))) ≡ led (front ++ x ∷ []) all
  led_by_one_more front x (Err e) = refl
  led_by_one_more front x (Ok xs) = ap Ok (sym (append_assoc front (x ∷ []) xs))

pub each_and_last : {X Y : Type 0} → (f : X → Result Y RunError) (xs : List X) (x : X) → each f (xs ++ x ∷ []) ≡ with_last (each f xs) (f x)
each_and_last f [] x = refl
each_and_last f (z ∷ xs) x =
    ap (λ r. and_then (f z) (λ y. and_then r (λ ys. Ok (y ∷ ys)))) (each_and_last f xs x) ∙ first_and_last (f z) (each f xs) (f x)
