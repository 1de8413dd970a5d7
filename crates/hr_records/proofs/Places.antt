-- Places in lists.
use Rattle.std.proofs.Common.{◌≡◌, ◌⊎◌, inl, inr, ℕ, zero, suc, ◌+◌, ◌<◌, Bool, true, false, cond, ◌==◌, Some, slice_get, List, [], ◌∷◌, ◌++◌, length, refl, ap, sym, arith}
use Rattle.std.proofs.lemmas.Bool.{eqb-true, eq-eqb, ne_eqb}
use Rattle.hr_base.specs.Lists.{numbered}
use Rattle.hr_records.specs.Numbers.{IsBorn}
use Rattle.hr_records.proofs.Options.{some_none, same_some}

pub same_or_not : (a b : ℕ) → (a ≡ b) ⊎ (a ≡ b → ⊥)
same_or_not a b = by_test (a == b) refl
  where
    by_test : (c : Bool) → (a == b) ≡ c → (a ≡ b) ⊎ (a ≡ b → ⊥)
    by_test true e = inl (eqb-true a b e)
    by_test false e = inr (λ same. wrong e (eq-eqb a b same))
      where
        wrong : (a == b) ≡ false → (a == b) ≡ true → ⊥
        wrong e d = cc

-- the branch of a test for the same number, and for another
pub if_same : {X : Type 0} (a b : ℕ) (x y : X) → a ≡ b → cond (a == b) x y ≡ x
if_same a b x y e = ap (λ c. cond c x y) (eq-eqb a b e)

pub if_other : {X : Type 0} (a b : ℕ) (x y : X) → (a ≡ b → ⊥) → cond (a == b) x y ≡ y
if_other a b x y differ = ap (λ c. cond c x y) (ne_eqb a b differ)

module _ {X : Type 0} where
  pub got_within : (xs : List X) (i : ℕ) (x : X) → slice_get xs i ≡ Some x → i < length xs
  got_within [] i x e = absurd (some_none x (sym e))
  got_within (y ∷ xs) zero x e = omega arith
  got_within (y ∷ xs) (suc i) x e = omega (arith, got_within xs i x e)

  pub got_front : (xs ys : List X) (i : ℕ) (x : X) → slice_get xs i ≡ Some x → slice_get (xs ++ ys) i ≡ Some x
  got_front [] ys i x e = absurd (some_none x (sym e))
  got_front (y ∷ xs) ys zero x e = e
  got_front (y ∷ xs) ys (suc i) x e = got_front xs ys i x e

  pub got_more : (xs : List X) (y : X) (i : ℕ) (x : X) → slice_get (xs ++ y ∷ []) i ≡ Some x → (slice_get xs i ≡ Some x) ⊎ ((i ≡ length xs) × (y ≡ x))
  got_more [] y zero x e = inr (refl, same_some y x e)
  got_more [] y (suc i) x e = absurd (some_none x (sym e))
  got_more (z ∷ xs) y zero x e = inl e
  got_more (z ∷ xs) y (suc i) x e = elim (got_more xs y i x e) [ inl old ↦ inl old | inr new ↦ inr (ap suc new.0, new.1) ]

  pub got_end : (xs : List X) (y : X) (i : ℕ) → i ≡ length xs → slice_get (xs ++ y ∷ []) i ≡ Some y
  got_end [] y zero e = refl
  got_end [] y (suc i) e = absurd (omega (arith, e))
  got_end (x ∷ xs) y zero e = absurd (omega (arith, e))
  got_end (x ∷ xs) y (suc i) e = got_end xs y i (omega (arith, e))

  pub got_some : (xs : List X) (i : ℕ) → i < length xs → (x : X) × (slice_get xs i ≡ Some x)
  got_some [] i h = absurd (omega (arith, h))
  got_some (x ∷ xs) zero h = (x, refl)
  got_some (x ∷ xs) (suc i) h = got_some xs i (omega (arith, h))

  pub numbered_born : (xs : List X) (t : ℕ) (x : X) → numbered xs t ≡ Some x → IsBorn (length xs) t
  numbered_born xs zero x e = absurd (some_none x (sym e))
  numbered_born xs (suc n) x e = (omega arith, omega (arith, got_within xs n x e))

  pub numbered_front : (xs ys : List X) (t : ℕ) (x : X) → numbered xs t ≡ Some x → numbered (xs ++ ys) t ≡ Some x
  numbered_front xs ys zero x e = absurd (some_none x (sym e))
  numbered_front xs ys (suc n) x e = got_front xs ys n x e

  pub numbered_more : (xs : List X) (y : X) (t : ℕ) (x : X) → numbered (xs ++ y ∷ []) t ≡ Some x → (numbered xs t ≡ Some x) ⊎ ((t ≡ length xs + 1) × (y ≡ x))
  numbered_more xs y zero x e = absurd (some_none x (sym e))
  numbered_more xs y (suc n) x e = elim (got_more xs y n x e) [ inl old ↦ inl old | inr new ↦ inr (omega (arith, new.0), new.1) ]

  pub numbered_end : (xs : List X) (y : X) (t : ℕ) → t ≡ length xs + 1 → numbered (xs ++ y ∷ []) t ≡ Some y
  numbered_end xs y zero e = absurd (omega (arith, e))
  numbered_end xs y (suc n) e = got_end xs y n (omega (arith, e))

  pub numbered_some : (xs : List X) (t : ℕ) → IsBorn (length xs) t → (x : X) × (numbered xs t ≡ Some x)
  numbered_some xs zero born = absurd (omega (arith, born.0))
  numbered_some xs (suc n) born = got_some xs n (omega (arith, born.1))
