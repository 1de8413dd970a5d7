-- Of a list the one that ranks first, with one more at its front.
use Rattle.std.proofs.Common.{◌≡◌, ℕ, suc, ◌<◌, Bool, true, false, cond, if◌then◌else◌, List, ◌∷◌, length, get_or, drop, refl, ap, sym, ◌∙◌, drop-cons}
use Rattle.std.specs.List.{filter}
use Rattle.hr_base.specs.Lists.{first_by, earlier}

module _ (before : ℕ → ℕ → Bool) (p : ℕ → Bool) (xs : List ℕ) (i j : ℕ) (next : j ≡ suc i) (within : i < length xs) where
  split : drop i xs ≡ get_or xs i 0 ∷ drop j xs
  split = drop-cons xs i 0 within ∙ ap (λ k. get_or xs i 0 ∷ drop k xs) (sym next)

  pub with_front : first_by before (filter p (drop i xs)) ≡ (if p (get_or xs i 0) then earlier before (get_or xs i 0) (first_by before (filter p (drop j xs))) else first_by before (filter p (drop j xs)))
  with_front = ap (λ ys. first_by before (filter p ys)) split ∙ by_test (p (get_or xs i 0))
    where
      by_test : (b : Bool) → first_by before (cond b (get_or xs i 0 ∷ filter p (drop j xs)) (filter p (drop j xs))) ≡ (if b then earlier before (get_or xs i 0) (first_by before (filter p (drop j xs))) else first_by before (filter p (drop j xs)))
      by_test true = refl
      by_test false = refl
