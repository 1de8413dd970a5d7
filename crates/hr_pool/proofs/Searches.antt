-- A search among some of a list misses nothing where all that pass are among them.
use Rattle.std.proofs.Common.{◌≡◌, ◌⊎◌, inl, inr, ℕ, zero, suc, ◌+◌, ◌≤◌, Bool, true, false, cond, ◌&&◌, ◌||◌, ◌==◌, Option, Some, None, List, [], ◌∷◌, length, slice_get, drop, find, refl, ap, sym, ◌∙◌, subst, arith}
use Rattle.std.specs.Prelude.{take_while}
use Rattle.std.specs.List.{filter, list_any}
use Rattle.std.proofs.lemmas.List.Sums.{take_while-cons}
use Rattle.std.proofs.lemmas.Bool.{or_cases, or_left, eq-eqb, eqb-true}
use Rattle.hr_base.specs.Lists.{has, first_by, earlier}
use Rattle.hr_base.proofs.ListLaws.{has_head, has_tail}
use Rattle.hr_records.proofs.Options.{some_none, same_some, first_by_has}
use Rattle.hr_records.proofs.Places.{same_or_not}

pub wrong : {b : Bool} → b ≡ true → b ≡ false → ⊥
wrong h k = cc (sym h ∙ k)

module _ (p q : ℕ → Bool) (within : (x : ℕ) → q x ≡ true → p x ≡ true) where
  find_step : (x : ℕ) (xs : List ℕ) (a b : Bool) → p x ≡ a → q x ≡ b → find q (filter p xs) ≡ find q xs → find q (cond a (x ∷ filter p xs) (filter p xs)) ≡ cond b (Some x) (find q xs)
  find_step x xs true b kept test rest = λ i. cond (test i) (Some x) (rest i)
  find_step x xs false true kept test rest = absurd (wrong (within x test) kept)
  find_step x xs false false kept test rest = rest

  pub find_within : (xs : List ℕ) → find q (filter p xs) ≡ find q xs
  find_within [] = refl
  find_within (x ∷ xs) = find_step x xs (p x) (q x) refl refl (find_within xs)

  any_step : (x : ℕ) (xs : List ℕ) (a b : Bool) → p x ≡ a → q x ≡ b → list_any q (filter p xs) ≡ list_any q xs → list_any q (cond a (x ∷ filter p xs) (filter p xs)) ≡ (b || list_any q xs)
  any_step x xs true b kept test rest = λ i. test i || rest i
  any_step x xs false true kept test rest = absurd (wrong (within x test) kept)
  any_step x xs false false kept test rest = rest

  pub any_within : (xs : List ℕ) → list_any q (filter p xs) ≡ list_any q xs
  any_within [] = refl
  any_within (x ∷ xs) = any_step x xs (p x) (q x) refl refl (any_within xs)

  filter_step : (x : ℕ) (xs : List ℕ) (a b : Bool) → p x ≡ a → q x ≡ b → filter q (filter p xs) ≡ filter q xs → filter q (cond a (x ∷ filter p xs) (filter p xs)) ≡ cond b (x ∷ filter q xs) (filter q xs)
  filter_step x xs true b kept test rest = λ i. cond (test i) (x ∷ rest i) (rest i)
  filter_step x xs false true kept test rest = absurd (wrong (within x test) kept)
  filter_step x xs false false kept test rest = rest

  pub filter_within : (xs : List ℕ) → filter q (filter p xs) ≡ filter q xs
  filter_within [] = refl
  filter_within (x ∷ xs) = filter_step x xs (p x) (q x) refl refl (filter_within xs)

-- the first that passes both tests is the first that passes the second of those that pass the first
module _ (p q : ℕ → Bool) where
  both_step : (x : ℕ) (xs : List ℕ) (a : Bool) → find q (filter p xs) ≡ find (λ t. p t && q t) xs → find q (cond a (x ∷ filter p xs) (filter p xs)) ≡ cond (a && q x) (Some x) (find (λ t. p t && q t) xs)
  both_step x xs true rest = ap (cond (q x) (Some x)) rest
  both_step x xs false rest = rest

  pub find_filter : (xs : List ℕ) → find q (filter p xs) ≡ find (λ t. p t && q t) xs
  find_filter [] = refl
  find_filter (x ∷ xs) = both_step x xs (p x) (find_filter xs)

kept_step : (p : ℕ → Bool) (x t : ℕ) (xs : List ℕ) (b : Bool) → p x ≡ b → p t ≡ true → (has xs t ≡ true → has (filter p xs) t ≡ true) → ((x == t) ≡ true) ⊎ (has xs t ≡ true)
    → has (cond b (x ∷ filter p xs) (filter p xs)) t ≡ true
kept_step p x t xs true e passes rest (inl same) = or_left (x == t) (has (filter p xs) t) same
kept_step p x t xs true e passes rest (inr later) = has_tail t x (filter p xs) (rest later)
kept_step p x t xs false e passes rest (inl same) = absurd (wrong (ap p (eqb-true x t same) ∙ passes) e)
kept_step p x t xs false e passes rest (inr later) = rest later

-- what passes and is in the list is kept
pub has_filter : (p : ℕ → Bool) (xs : List ℕ) (t : ℕ) → has xs t ≡ true → p t ≡ true → has (filter p xs) t ≡ true
has_filter p [] t h passes = cc
has_filter p (x ∷ xs) t h passes = kept_step p x t xs (p x) refl passes (λ later. has_filter p xs t later passes) (or_cases (x == t) (has xs t) h)

module _ (before : ℕ → ℕ → Bool) (t : ℕ) where
  -- t comes before all others of the list, and none of them before it
  abbrev pub IsFirst : List ℕ → Type 0
  IsFirst xs = (u : ℕ) → has xs u ≡ true → (u ≡ t → ⊥) → (before t u ≡ true) × (before u t ≡ false)

  stays : (b : Bool) (x : ℕ) → x ≡ t → Some (cond b t x) ≡ Some t
  stays true x same = refl
  stays false x same = ap Some same

  over : (x : ℕ) (xs : List ℕ) → IsFirst (x ∷ xs) → (x ≡ t) ⊎ (x ≡ t → ⊥) → earlier before x (Some t) ≡ Some t
  over x xs first (inl same) = stays (before t x) x same
  over x xs first (inr other) = ap (λ b. Some (cond b t x)) (first x (has_head x xs) other).0

  under : (x : ℕ) (xs : List ℕ) (o : Option ℕ) → IsFirst (x ∷ xs) → x ≡ t → has xs t ≡ false → first_by before xs ≡ o → earlier before x o ≡ Some t
  under x xs None first same missing e = ap Some same
  under x xs (Some y) first same missing e =
      let there : has xs y ≡ true = first_by_has before xs y e in
      let other : y ≡ t → ⊥ = λ is. wrong (sym (ap (has xs) is) ∙ there) missing in
      let last : before y t ≡ false = (first y (has_tail y x xs there) other).1 in
      ap (λ b. Some (cond b y x)) (ap (before y) same ∙ last) ∙ ap Some same

  first_step : (x : ℕ) (xs : List ℕ) (b : Bool) → has xs t ≡ b → has (x ∷ xs) t ≡ true → IsFirst (x ∷ xs) → (has xs t ≡ true → first_by before xs ≡ Some t) → earlier before x (first_by before xs) ≡ Some t
  first_step x xs true there h first rest = ap (earlier before x) (rest there) ∙ over x xs first (same_or_not x t)
  first_step x xs false missing h first rest =
      elim (or_cases (x == t) (has xs t) h) [
        | inl same ↦ under x xs (first_by before xs) first (eqb-true x t same) missing refl
        | inr later ↦ absurd (wrong later missing)
      ]

  pub first_is : (xs : List ℕ) → has xs t ≡ true → IsFirst xs → first_by before xs ≡ Some t
  first_is [] h first = cc
  first_is (x ∷ xs) h first = first_step x xs (has xs t) refl h first (λ there. first_is xs there (λ u later other. first u (has_tail u x xs later) other))

module _ (p : ℕ → Bool) where
  stops_here : (x : ℕ) (xs : List ℕ) (b : Bool) → b ≡ false → length (cond b (x ∷ take_while p xs) []) ≤ 0
  stops_here x xs true e = absurd (wrong refl e)
  stops_here x xs false e = omega arith

  stops_later : (x i : ℕ) (xs : List ℕ) (b : Bool) → length (take_while p xs) ≤ i → length (cond b (x ∷ take_while p xs) []) ≤ suc i
  stops_later x i xs true rest = omega (arith, rest)
  stops_later x i xs false rest = omega arith

  -- what goes before the first that fails is no longer than to its place
  pub stops_at : (xs : List ℕ) (i t : ℕ) → slice_get xs i ≡ Some t → p t ≡ false → length (take_while p xs) ≤ i
  stops_at [] i t at fails = absurd (some_none t (sym at))
  stops_at (x ∷ xs) zero t at fails = subst (λ ys. length ys ≤ 0) (sym (take_while-cons p x xs)) (stops_here x xs (p x) (ap p (same_some x t at) ∙ fails))
  stops_at (x ∷ xs) (suc i) t at fails = subst (λ ys. length ys ≤ suc i) (sym (take_while-cons p x xs)) (stops_later x i xs (p x) (stops_at xs i t at fails))

  -- the first that passes has a place, and no other that passes has a lower one
  pub record IsFound (xs : List ℕ) (t : ℕ) : Type 0 where
    pub place : ℕ
    pub at : slice_get xs place ≡ Some t
    pub least : (j u : ℕ) → slice_get xs j ≡ Some u → p u ≡ true → place ≤ j

  none_lower : (x t : ℕ) (xs : List ℕ) → p x ≡ false → (found : IsFound xs t) → (j u : ℕ) → slice_get (x ∷ xs) j ≡ Some u → p u ≡ true → suc found.place ≤ j
  none_lower x t xs fails found zero u at passes = absurd (wrong (ap p (same_some x u at) ∙ passes) fails)
  none_lower x t xs fails found (suc j) u at passes = omega (arith, found.least j u at passes)

  later : (x t : ℕ) (xs : List ℕ) → p x ≡ false → IsFound xs t → IsFound (x ∷ xs) t
  later x t xs fails found = record { place = suc found.place; at = found.at; least = none_lower x t xs fails found }

  found_step : (x t : ℕ) (xs : List ℕ) (b : Bool) → p x ≡ b → cond b (Some x) (find p xs) ≡ Some t → (find p xs ≡ Some t → IsFound xs t) → IsFound (x ∷ xs) t
  found_step x t xs true passes e rest = record { place = 0; at = e; least = λ j u at h. omega arith }
  found_step x t xs false fails e rest = later x t xs fails (rest e)

  pub is_found : (xs : List ℕ) (t : ℕ) → find p xs ≡ Some t → IsFound xs t
  is_found [] t e = absurd (some_none t (sym e))
  is_found (x ∷ xs) t e = found_step x t xs (p x) refl e (is_found xs t)

-- what stands at a place of the rest stands so many places later in the list
pub got_drop : (k : ℕ) (xs : List ℕ) (i : ℕ) → slice_get (drop k xs) i ≡ slice_get xs (k + i)
got_drop zero xs i = let same : i ≡ 0 + i = omega arith in ap (slice_get xs) same
got_drop (suc k) [] i = refl
got_drop (suc k) (x ∷ xs) i = let same : suc (k + i) ≡ suc k + i = omega arith in got_drop k xs i ∙ ap (slice_get (x ∷ xs)) same

pub got_has : (xs : List ℕ) (i t : ℕ) → slice_get xs i ≡ Some t → has xs t ≡ true
got_has [] i t at = absurd (some_none t (sym at))
got_has (x ∷ xs) zero t at = or_left (x == t) (has xs t) (eq-eqb x t (same_some x t at))
got_has (x ∷ xs) (suc i) t at = has_tail t x xs (got_has xs i t at)
