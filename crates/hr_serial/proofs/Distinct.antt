-- Lists in which each stands at one place, and lists side by side.
use Rattle.std.proofs.Common.{◌≡◌, ◌⊎◌, inl, inr, ℕ, suc, true, not, ◌==◌, Some, slice_get, List, [], ◌∷◌, ◌++◌, refl, ap, arith}
use Rattle.std.specs.List.{AllZip}
use Rattle.std.proofs.lemmas.Bool.{and_parts, and_from, or_cases, eqb-true, false_from_ne_true}
use Rattle.hr_base.specs.Lists.{has, is_distinct}

-- a member stands at some place
pub has_place : (xs : List ℕ) (t : ℕ) → has xs t ≡ true → (i : ℕ) × (slice_get xs i ≡ Some t)
has_place [] t h = cc
has_place (x ∷ xs) t h = by_cases (or_cases (x == t) (has xs t) h) (λ there. has_place xs t there)
  where
    by_cases : ((x == t) ≡ true) ⊎ (has xs t ≡ true) → (has xs t ≡ true → (i : ℕ) × (slice_get xs i ≡ Some t)) → (i : ℕ) × (slice_get (x ∷ xs) i ≡ Some t)
    by_cases (inl same) rest = (0, ap Some (eqb-true x t same))
    by_cases (inr later) rest = let r = rest later in (suc r.0, r.1)

pub distinct_by_places : (xs : List ℕ) → ((i k t : ℕ) → slice_get xs i ≡ Some t → slice_get xs k ≡ Some t → i ≡ k) → is_distinct xs ≡ true
distinct_by_places [] one = refl
distinct_by_places (x ∷ xs) one =
    and_from (not (has xs x)) (is_distinct xs) (ap not (false_from_ne_true (has xs x) (λ there. again (has_place xs x there))))
    (distinct_by_places xs (λ i k t a b. down i k (one (suc i) (suc k) t a b)))
  where
    again : (i : ℕ) × (slice_get xs i ≡ Some x) → ⊥
    again p = absurd (omega (arith, one 0 (suc p.0) x refl p.1))

    down : (i k : ℕ) → suc i ≡ suc k → i ≡ k
    down i k e = omega (arith, e)

pub distinct_tail : (xs ys : List ℕ) → is_distinct (xs ++ ys) ≡ true → is_distinct ys ≡ true
distinct_tail [] ys d = d
distinct_tail (x ∷ xs) ys d = distinct_tail xs ys (and_parts (not (has (xs ++ ys) x)) (is_distinct (xs ++ ys)) d).1

module _ {A B : Type 0} (R : A → B → Type 0) where
  pub zip_end : (xs : List A) (ys : List B) (x : A) (y : B) → AllZip R xs ys → R x y → AllZip R (xs ++ x ∷ []) (ys ++ y ∷ [])
  zip_end [] [] x y all h = (h, tt)
  zip_end [] (b ∷ ys) x y all h = absurd all
  zip_end (a ∷ xs) [] x y all h = absurd all
  zip_end (a ∷ xs) (b ∷ ys) x y all h = (all.0, zip_end xs ys x y all.1 h)

  pub zip_last : (xs : List A) (ys : List B) (x : A) (y : B) → AllZip R (xs ++ x ∷ []) (ys ++ y ∷ []) → R x y
  zip_last [] [] x y all = all.0
  zip_last [] (b ∷ []) x y all = absurd all.1
  zip_last [] (b ∷ c ∷ ys) x y all = absurd all.1
  zip_last (a ∷ []) [] x y all = absurd all.1
  zip_last (a ∷ c ∷ xs) [] x y all = absurd all.1
  zip_last (a ∷ xs) (b ∷ ys) x y all = zip_last xs ys x y all.1
