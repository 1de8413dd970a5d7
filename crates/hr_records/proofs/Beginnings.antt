-- Beginnings of lists.
use Rattle.std.proofs.Common.{◌≡◌, ℕ, suc, ◌≤◌, Some, slice_get, List, [], ◌∷◌, ◌++◌, length, map, take, refl, ap, sym, ◌∙◌, arith, append_assoc, append-nil, length-append}
use Rattle.hr_records.specs.AtReplica.{Begins}
use Rattle.hr_records.proofs.Options.{some_none, same_some}

module _ {X : Type 0} where
  abbrev tail_of : List X → List X
  tail_of [] = []
  tail_of (w ∷ ws) = ws

  abbrev head_of : X → List X → X
  head_of d [] = d
  head_of d (w ∷ ws) = w

  pub begins_more : (xs ys zs : List X) → Begins xs ys → Begins xs (ys ++ zs)
  begins_more xs ys zs b = (b.0 ++ zs, sym (append_assoc xs b.0 zs) ∙ ap (λ l. l ++ zs) b.1)

  pub begins_chain : (xs ys zs : List X) → Begins xs ys → Begins ys zs → Begins xs zs
  begins_chain xs ys zs a b = (a.0 ++ b.0, sym (append_assoc xs a.0 b.0) ∙ ap (λ l. l ++ b.0) a.1 ∙ b.1)

  -- with the next one it still is
  pub begins_next : (xs ys : List X) (y : X) → Begins xs ys → slice_get ys (length xs) ≡ Some y → Begins (xs ++ y ∷ []) ys
  begins_next [] [] y b e = absurd (some_none y (sym e))
  begins_next [] (z ∷ ys) y b e = (ys, ap (λ w. w ∷ ys) (sym (same_some z y e)))
  begins_next (x ∷ xs) [] y b e = absurd (some_none y (sym e))
  begins_next (x ∷ xs) (z ∷ ys) y b e =
      let rest = begins_next xs ys y (b.0, ap tail_of b.1) e in
      (rest.0, λ i. ap (head_of x) b.1 i ∷ rest.1 i)

  none_left : (rest xs : List X) → length (xs ++ rest) ≡ length xs → rest ≡ []
  none_left [] xs e = refl
  none_left (y ∷ rest) xs e = absurd (omega (arith, e, length-append xs (y ∷ rest)))

  -- one as long is the whole
  pub begins_whole : (xs ys : List X) → Begins xs ys → length xs ≡ length ys → xs ≡ ys
  begins_whole xs ys b e =
      let none = none_left b.0 xs (ap length b.1 ∙ sym e) in
      sym (append-nil xs) ∙ ap (λ r. xs ++ r) (sym none) ∙ b.1

  pub begins_length : (xs ys : List X) → Begins xs ys → length xs ≤ length ys
  begins_length xs ys b = omega (arith, ap length b.1, length-append xs b.0)

  -- it is so many of the first
  front_taken : (xs rest : List X) → take (length xs) (xs ++ rest) ≡ xs
  front_taken [] rest = refl
  front_taken (x ∷ xs) rest = ap (λ l. x ∷ l) (front_taken xs rest)

  pub begins_take : (xs ys : List X) → Begins xs ys → xs ≡ take (length xs) ys
  begins_take xs ys b = sym (front_taken xs b.0) ∙ ap (take (length xs)) b.1

  pub begins_get : (xs ys : List X) (y : X) → Begins (xs ++ y ∷ []) ys → slice_get ys (length xs) ≡ Some y
  begins_get xs ys y b = sym (ap (λ l. slice_get l (length xs)) b.1) ∙ at_end xs y b.0
    where
      at_end : (xs : List X) (y : X) (rest : List X) → slice_get ((xs ++ y ∷ []) ++ rest) (length xs) ≡ Some y
      at_end [] y rest = refl
      at_end (x ∷ xs) y rest = at_end xs y rest

pub map_same_at : {X : Type 0} (p q : ℕ → X) (xs : List ℕ) → ((i t : ℕ) → slice_get xs i ≡ Some t → p t ≡ q t) → map p xs ≡ map q xs
map_same_at p q [] same = refl
map_same_at p q (x ∷ xs) same = λ i. same 0 x refl i ∷ map_same_at p q xs (λ n t e. same (suc n) t e) i
