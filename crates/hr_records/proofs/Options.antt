-- What holds of what is found.
use Rattle.std.proofs.Common.{◌≡◌, ◌⊎◌, inl, inr, ℕ, zero, suc, ◌+◌, ◌<◌, ◌≤◌, Bool, true, false, cond, ◌==◌, Option, Some, None, unwrap_or, option_map, option_and_then, find, List, [], ◌∷◌, ◌++◌, take, drop, map, refl, ap, sym, ◌∙◌, subst, arith}
use Rattle.std.specs.List.{range_with_len}
use Rattle.std.proofs.lemmas.Bool.{or_cases, or_left, or_right, eqb-true, eq-eqb}
use Rattle.hr_base.specs.Lists.{has, first_some, when, first_by, earlier}
use Rattle.hr_base.proofs.ListLaws.{has_head, has_tail}

-- it holds of what is there, if it is
abbrev pub On : {X : Type 0} → (X → Type 0) → Option X → Type 0
On P None = Unit {0}
On P (Some x) = P x

pub same_some : {X : Type 0} (x y : X) → Some x ≡ Some y → x ≡ y
same_some x y e = ap (λ o. unwrap_or o x) e

pub some_none : {X : Type 0} (x : X) → Some x ≡ None → ⊥
some_none x e = cc

module _ {X : Type 0} (P : X → Type 0) where
  pub on_some : (o : Option X) (x : X) → o ≡ Some x → On P o → P x
  on_some None x e h = absurd (some_none x (sym e))
  on_some (Some y) x e h = subst P (same_some y x e) h

  pub when_on : (b : Bool) (x : X) → (b ≡ true → P x) → On P (when b x)
  when_on true x h = h refl
  when_on false x h = tt

  pub first_on : (o : Option X) (os : List (Option X)) → On P o → (o ≡ None → On P (first_some os)) → On P (first_some (o ∷ os))
  first_on None os h rest = rest refl
  first_on (Some x) os h rest = h

  pub then_on : {Y : Type 0} (g : Y → Option X) (o : Option Y) → ((y : Y) → o ≡ Some y → On P (g y)) → On P (option_and_then g o)
  then_on g None h = tt
  then_on g (Some y) h = h y refl

  pub map_on : {Y : Type 0} (g : Y → X) (o : Option Y) → ((y : Y) → o ≡ Some y → P (g y)) → On P (option_map g o)
  map_on g None h = tt
  map_on g (Some y) h = h y refl

  pub first_of_on : (g : ℕ → Option X) (xs : List ℕ) → ((x : ℕ) → has xs x ≡ true → On P (g x)) → On P (first_some (map g xs))
  first_of_on g [] h = tt
  first_of_on g (x ∷ xs) h = first_on (g x) (map g xs) (h x (has_head x xs)) (λ none. first_of_on g xs (λ y there. h y (has_tail y x xs there)))

found_by : (p : ℕ → Bool) (y : ℕ) (xs : List ℕ) (x : ℕ) (b : Bool) → p y ≡ b → (find p xs ≡ Some x → (has xs x ≡ true) × (p x ≡ true)) → cond b (Some y) (find p xs) ≡ Some x → (has (y ∷ xs) x ≡ true) × (p x ≡ true)
found_by p y xs x true passes rest e = let same : y ≡ x = same_some y x e in (or_left (y == x) (has xs x) (eq-eqb y x same), ap p (sym same) ∙ passes)
found_by p y xs x false fails rest e = let r = rest e in (has_tail x y xs r.0, r.1)

pub first_none : {X : Type 0} (o : Option X) (os : List (Option X)) → first_some (o ∷ os) ≡ None → (o ≡ None) × (first_some os ≡ None)
first_none None os e = (refl, e)
first_none (Some x) os e = absurd (some_none x e)

pub none_mapped : {X Y : Type 0} (g : X → Y) (o : Option X) → option_map g o ≡ None → o ≡ None
none_mapped g None e = refl
none_mapped g (Some x) e = absurd (some_none (g x) e)

pub find_has : (p : ℕ → Bool) (xs : List ℕ) (x : ℕ) → find p xs ≡ Some x → (has xs x ≡ true) × (p x ≡ true)
find_has p [] x e = absurd (some_none x (sym e))
find_has p (y ∷ xs) x e = found_by p y xs x (p y) refl (find_has p xs x) e

none_by : (p : ℕ → Bool) (y : ℕ) (xs : List ℕ) (x : ℕ) (b : Bool) → p y ≡ b → (find p xs ≡ None → has xs x ≡ true → p x ≡ false) → cond b (Some y) (find p xs) ≡ None → ((y == x) ≡ true) ⊎ (has xs x ≡ true) → p x ≡ false
none_by p y xs x true passes rest e w = absurd (some_none y e)
none_by p y xs x false fails rest e (inl same) = ap p (sym (eqb-true y x same)) ∙ fails
none_by p y xs x false fails rest e (inr later) = rest e later

pub find_none : (p : ℕ → Bool) (xs : List ℕ) → find p xs ≡ None → (x : ℕ) → has xs x ≡ true → p x ≡ false
find_none p [] e x h = cc
find_none p (y ∷ xs) e x h = none_by p y xs x (p y) refl (λ d there. find_none p xs d x there) e (or_cases (y == x) (has xs x) h)

module _ (before : ℕ → ℕ → Bool) where
  earlier_is : (x : ℕ) (o : Option ℕ) (y : ℕ) → earlier before x o ≡ Some y → (x ≡ y) ⊎ (o ≡ Some y)
  earlier_is x None y e = inl (same_some x y e)
  earlier_is x (Some z) y e = by_test (before z x) e
    where
      by_test : (b : Bool) → Some (cond b z x) ≡ Some y → (x ≡ y) ⊎ (Some z ≡ Some y)
      by_test true e = inr e
      by_test false e = inl (same_some x y e)

  pub first_by_has : (xs : List ℕ) (x : ℕ) → first_by before xs ≡ Some x → has xs x ≡ true
  first_by_has [] x e = absurd (some_none x (sym e))
  first_by_has (y ∷ xs) x e =
      elim (earlier_is y (first_by before xs) x e) [ inl same ↦ or_left (y == x) (has xs x) (eq-eqb y x same) | inr later ↦ has_tail x y xs (first_by_has xs x later) ]

  pub first_by_none : (xs : List ℕ) → first_by before xs ≡ None → xs ≡ []
  first_by_none [] e = refl
  first_by_none (y ∷ xs) e = by_rest (first_by before xs) e
    where
      by_rest : (o : Option ℕ) → earlier before y o ≡ None → (y ∷ xs) ≡ []
      by_rest None e = absurd (some_none y e)
      by_rest (Some z) e = absurd (some_none _ e)

range_by : (a n x : ℕ) → (has (range_with_len (a + 1) n) x ≡ true → (a + 1 ≤ x) × (x < a + 1 + n)) → ((a == x) ≡ true) ⊎ (has (range_with_len (a + 1) n) x ≡ true) → (a ≤ x) × (x < a + suc n)
range_by a n x rest (inl same) = let e : a ≡ x = eqb-true a x same in (omega (arith, e), omega (arith, e))
range_by a n x rest (inr later) = let r = rest later in (omega (arith, r.0), omega (arith, r.1))

pub has_range : (a n x : ℕ) → has (range_with_len a n) x ≡ true → (a ≤ x) × (x < a + n)
has_range a zero x h = cc
has_range a (suc n) x h = range_by a n x (has_range (a + 1) n x) (or_cases (a == x) (has (range_with_len (a + 1) n) x) h)

differ : (a x : ℕ) → (a == x) ≡ false → a ≡ x → ⊥
differ a x e same = cc (eq-eqb a x same)

in_by : (a n x : ℕ) (b : Bool) → (a == x) ≡ b → a ≤ x → (a + 1 ≤ x → has (range_with_len (a + 1) n) x ≡ true) → has (range_with_len a (suc n)) x ≡ true
in_by a n x true e low rest = or_left (a == x) (has (range_with_len (a + 1) n) x) e
in_by a n x false e low rest = or_right (a == x) (has (range_with_len (a + 1) n) x) (rest (omega (arith, low, differ a x e)))

pub in_range : (a n x : ℕ) → a ≤ x → x < a + n → has (range_with_len a n) x ≡ true
in_range a zero x low high = absurd (omega (arith, low, high))
in_range a (suc n) x low high = in_by a n x (a == x) refl low (λ above. in_range (a + 1) n x above (omega (arith, high)))

has_drop : (n : ℕ) (xs : List ℕ) (x : ℕ) → has (drop n xs) x ≡ true → has xs x ≡ true
has_drop zero xs x h = h
has_drop (suc n) [] x h = h
has_drop (suc n) (y ∷ xs) x h = has_tail x y xs (has_drop n xs x h)

has_take : (n : ℕ) (xs : List ℕ) (x : ℕ) → has (take n xs) x ≡ true → has xs x ≡ true
has_take zero xs x h = cc
has_take (suc n) [] x h = h
has_take (suc n) (y ∷ xs) x h =
    elim (or_cases (y == x) (has (take n xs) x) h) [ inl same ↦ or_left (y == x) (has xs x) same | inr later ↦ has_tail x y xs (has_take n xs x later) ]

has_either : (xs ys : List ℕ) (x : ℕ) → has (xs ++ ys) x ≡ true → (has xs x ≡ true) ⊎ (has ys x ≡ true)
has_either [] ys x h = inr h
has_either (y ∷ xs) ys x h =
    elim (or_cases (y == x) (has (xs ++ ys) x) h) [
      | inl same ↦ inl (or_left (y == x) (has xs x) same)
      | inr later ↦ (elim (has_either xs ys x later) [ inl left ↦ inl (has_tail x y xs left) | inr right ↦ inr right ])
    ]

-- a list, from some place on and round to it
pub has_round : (n : ℕ) (xs : List ℕ) (x : ℕ) → has (drop n xs ++ take n xs) x ≡ true → has xs x ≡ true
has_round n xs x h = elim (has_either (drop n xs) (take n xs) x h) [ inl after ↦ has_drop n xs x after | inr upto ↦ has_take n xs x upto ]
