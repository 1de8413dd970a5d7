-- What holds from a list to the same with two neighbours in each other's place, holds from it to each of its permutations.
use Rattle.std.proofs.Common.{◌≡◌, ℕ, zero, suc, ◌<◌, Bool, true, false, cond, length, List, [], ◌∷◌, filter, get_or, set, swap, refl, ◌∙◌, arith}
use Rattle.std.specs.List.Sorted.{IsPermutation}
use Rattle.std.proofs.lemmas.List.Sorted.{IsPermutation-refl, IsPermutation-trans, IsPermutation-cons, IsPermutation-swap, IsPermutation-keeps}

module _ {X : Type 0} (R : List X → List X → Type 0)
    (same : (xs : List X) → R xs xs)
    (on : (xs ys zs : List X) → R xs ys → R ys zs → R xs zs)
    (under : (x : X) (xs ys : List X) → R xs ys → R (x ∷ xs) (x ∷ ys))
    (flip : (x y : X) (xs : List X) → R (x ∷ y ∷ xs) (y ∷ x ∷ xs)) where
  -- the first one and a later one exchanged
  front : (x d : X) (xs : List X) (j : ℕ) → j < length xs → R (x ∷ xs) (get_or xs j d ∷ set xs j x)
  front x d [] j p = absurd (omega arith)
  front x d (z ∷ zs) zero p = flip x z zs
  front x d (z ∷ zs) (suc j) p =
      let last = get_or zs j d in
      let rest = set zs j x in
      on (x ∷ z ∷ zs) (z ∷ x ∷ zs) (last ∷ z ∷ rest) (flip x z zs)
      (on (z ∷ x ∷ zs) (z ∷ last ∷ rest) (last ∷ z ∷ rest) (under z (x ∷ zs) (last ∷ rest) (front x d zs j (omega arith))) (flip z last rest))

  -- any two exchanged
  exchanged : (xs : List X) (i j : ℕ) (d : X) → i < length xs → j < length xs → R xs (set (set xs i (get_or xs j d)) j (get_or xs i d))
  exchanged [] i j d p q = absurd (omega arith)
  exchanged (x ∷ xs) zero zero d p q = same (x ∷ xs)
  exchanged (x ∷ xs) zero (suc j) d p q = front x d xs j (omega arith)
  exchanged (x ∷ xs) (suc i) zero d p q = front x d xs i (omega arith)
  exchanged (x ∷ xs) (suc i) (suc j) d p q = under x xs _ (exchanged xs i j d (omega arith) (omega arith))

  swapped : (xs : List X) (i j : ℕ) → i < length xs → j < length xs → R xs (swap xs i j)
  swapped [] i j p q = absurd (omega arith)
  swapped (x ∷ xs) i j p q = exchanged (x ∷ xs) i j x p q

  pub by_neighbours : (xs ys : List X) → IsPermutation xs ys → R xs ys
  by_neighbours xs ys = IsPermutation-keeps xs (λ l. R xs l) (same xs) (λ l i j p q h. on xs l (swap l i j) h (swapped l i j p q)) ys

-- what a function gives is the same of each permutation of a list, where it is of the list with two neighbours exchanged
module _ {X Y : Type 0} (f : List X → Y)
    (under : (x : X) (xs ys : List X) → f xs ≡ f ys → f (x ∷ xs) ≡ f (x ∷ ys))
    (flip : (x y : X) (xs : List X) → f (x ∷ y ∷ xs) ≡ f (y ∷ x ∷ xs)) where
  pub same_of_permuted : (xs ys : List X) → IsPermutation xs ys → f xs ≡ f ys
  same_of_permuted = by_neighbours (λ xs ys. f xs ≡ f ys) (λ xs. refl) (λ xs ys zs a b. a ∙ b) under flip

-- ---- the ones that pass a test

module _ {X : Type 0} (p : X → Bool) where
  abbrev with : Bool → X → List X → List X
  with b x xs = cond b (x ∷ xs) xs

  with_under : (b : Bool) (x : X) (xs ys : List X) → IsPermutation xs ys → IsPermutation (with b x xs) (with b x ys)
  with_under true x xs ys h = IsPermutation-cons x xs ys h
  with_under false x xs ys h = h

  first_two : (x y : X) (xs : List X) → IsPermutation (x ∷ y ∷ xs) (y ∷ x ∷ xs)
  first_two x y xs = IsPermutation-swap (x ∷ y ∷ xs) (y ∷ x ∷ xs) 0 1 (omega arith) (omega arith) refl

  with_flip : (b c : Bool) (x y : X) (xs : List X) → IsPermutation (with b x (with c y xs)) (with c y (with b x xs))
  with_flip true true x y xs = first_two x y xs
  with_flip true false x y xs = IsPermutation-refl (x ∷ xs)
  with_flip false true x y xs = IsPermutation-refl (y ∷ xs)
  with_flip false false x y xs = IsPermutation-refl xs

  pub IsPermutation-filter : (xs ys : List X) → IsPermutation xs ys → IsPermutation (filter p xs) (filter p ys)
  IsPermutation-filter = by_neighbours (λ xs ys. IsPermutation (filter p xs) (filter p ys)) (λ xs. IsPermutation-refl (filter p xs))
      (λ xs ys zs a b. IsPermutation-trans (filter p xs) (filter p ys) (filter p zs) a b)
      (λ x xs ys h. with_under (p x) x (filter p xs) (filter p ys) h)
      (λ x y xs. with_flip (p x) (p y) x y (filter p xs))
