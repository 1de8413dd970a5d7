-- What ranks first of a list ranks before all others of it.
use Rattle.std.proofs.Common.{◌≡◌, ◌⊎◌, inl, inr, ℕ, ◌<◌, Bool, true, false, ◌&&◌, ◌==◌, nat_lt, if◌then◌else◌, Option, Some, None, List, [], ◌∷◌, refl, ap, sym, ◌∙◌, arith}
use Rattle.std.proofs.lemmas.Bool.{and_parts, or_cases, or_left, or_right, eqb-true, eq-eqb, lt-ltb, ltb-true, ltb-false}
use Rattle.hr_base.specs.Lists.{has, first_by, earlier}
use Rattle.hr_history.specs.Ranks.{Rank, is_before}
use Rattle.hr_records.proofs.Options.{same_some, first_by_none}
use Rattle.hr_records.proofs.NumberSteps.{not_both}

-- A RANK
abbrev Before : Rank → Rank → Type 0
Before a b = (a.kind < b.kind) ⊎ ((a.kind ≡ b.kind) × (a.number < b.number))

before_is : (a b : Rank) → is_before a b ≡ true → Before a b
before_is a b e = elim (or_cases (nat_lt a.kind b.kind) ((a.kind == b.kind) && nat_lt a.number b.number) e) [
  | inl kind ↦ inl (ltb-true a.kind b.kind kind)
  | inr both ↦ (let parts = and_parts (a.kind == b.kind) (nat_lt a.number b.number) both in inr (eqb-true a.kind b.kind parts.0, ltb-true a.number b.number parts.1))
]

is_before_by : (a b : Rank) → Before a b → is_before a b ≡ true
is_before_by a b (inl kind) = or_left (nat_lt a.kind b.kind) ((a.kind == b.kind) && nat_lt a.number b.number) (lt-ltb a.kind b.kind kind)
is_before_by a b (inr both) =
    or_right (nat_lt a.kind b.kind) ((a.kind == b.kind) && nat_lt a.number b.number) (λ i. eq-eqb a.kind b.kind both.0 i && lt-ltb a.number b.number both.1 i)

none_both : (a b : Rank) → Before a b → Before b a → ⊥
none_both a b (inl x) (inl y) = absurd (omega (arith, x, y))
none_both a b (inl x) (inr y) = absurd (omega (arith, x, y.0))
none_both a b (inr x) (inl y) = absurd (omega (arith, x.0, y))
none_both a b (inr x) (inr y) = absurd (omega (arith, x.1, y.1))

-- which comes first of two numbers, or neither
compared : (m n : ℕ) → (m < n) ⊎ (m ≡ n) ⊎ (n < m)
compared m n = by_tests (nat_lt m n) (nat_lt n m) refl refl
  where
    by_tests : (a b : Bool) → nat_lt m n ≡ a → nat_lt n m ≡ b → (m < n) ⊎ (m ≡ n) ⊎ (n < m)
    by_tests true b e d = inl (ltb-true m n e)
    by_tests false true e d = inr (inr (ltb-true n m d))
    by_tests false false e d = inr (inl (omega (arith, ltb-false m n e, ltb-false n m d)))

-- who comes before a third does so, or another comes between
between : (a b c : Rank) → Before a c → Before a b ⊎ Before b c
between a b c is = by_kind (compared a.kind b.kind) (compared b.kind c.kind) (compared a.number b.number) is
  where
    by_kind : (a.kind < b.kind) ⊎ (a.kind ≡ b.kind) ⊎ (b.kind < a.kind) → (b.kind < c.kind) ⊎ (b.kind ≡ c.kind) ⊎ (c.kind < b.kind) → (a.number < b.number) ⊎ (a.number ≡ b.number) ⊎ (b.number < a.number) → Before a c
        → Before a b ⊎ Before b c
    by_kind (inl x) y z w = inl (inl x)
    by_kind x (inl y) z w = inr (inl y)
    by_kind (inr (inl x)) (inr (inl y)) (inl z) w = inl (inr (x, z))
    by_kind (inr (inl x)) (inr (inl y)) (inr (inl z)) (inl w) = absurd (omega (arith, x, y, w))
    by_kind (inr (inl x)) (inr (inl y)) (inr (inl z)) (inr w) = inr (inr (y, omega (arith, z, w.1)))
    by_kind (inr (inl x)) (inr (inl y)) (inr (inr z)) (inl w) = absurd (omega (arith, x, y, w))
    by_kind (inr (inl x)) (inr (inl y)) (inr (inr z)) (inr w) = inr (inr (y, omega (arith, z, w.1)))
    by_kind (inr (inl x)) (inr (inr y)) z (inl w) = absurd (omega (arith, x, y, w))
    by_kind (inr (inl x)) (inr (inr y)) z (inr w) = absurd (omega (arith, x, y, w.0))
    by_kind (inr (inr x)) (inr (inl y)) z (inl w) = absurd (omega (arith, x, y, w))
    by_kind (inr (inr x)) (inr (inl y)) z (inr w) = absurd (omega (arith, x, y, w.0))
    by_kind (inr (inr x)) (inr (inr y)) z (inl w) = absurd (omega (arith, x, y, w))
    by_kind (inr (inr x)) (inr (inr y)) z (inr w) = absurd (omega (arith, x, y, w.0))

-- THE FIRST OF A LIST
module _ (rank : ℕ → Rank) where
  abbrev comes : ℕ → ℕ → Bool
  comes x y = is_before (rank x) (rank y)

  itself : (x : ℕ) → comes x x ≡ true → ⊥
  itself x e = none_both (rank x) (rank x) (before_is (rank x) (rank x) e) (before_is (rank x) (rank x) e)

  -- x at the front of a list, of whose rest z is the first
  front : (x z : ℕ) (xs : List ℕ) (b : Bool) → comes z x ≡ b → ((y : ℕ) → has xs y ≡ true → comes y z ≡ true → ⊥) → (y : ℕ) → ((x == y) ≡ true) ⊎ (has xs y ≡ true) → comes y (if b then z else x) ≡ true → ⊥
  front x z xs true e rest y (inl same) is =
      none_both (rank z) (rank x) (before_is (rank z) (rank x) e) (before_is (rank x) (rank z) (ap (λ n. comes n z) (eqb-true x y same) ∙ is))
  front x z xs true e rest y (inr later) is = rest y later is
  front x z xs false e rest y (inl same) is = itself x (ap (λ n. comes n x) (eqb-true x y same) ∙ is)
  front x z xs false e rest y (inr later) is = elim (between (rank y) (rank z) (rank x) (before_is (rank y) (rank x) is)) [
    | inl first ↦ rest y later (is_before_by (rank y) (rank z) first)
    | inr then_z ↦ not_both (comes z x) (is_before_by (rank z) (rank x) then_z) e
  ]

  none_in : (y : ℕ) → has [] y ≡ true → ⊥
  none_in y e = cc e

  front_by : (x : ℕ) (xs : List ℕ) (o : Option ℕ) → first_by comes xs ≡ o → ((m : ℕ) → first_by comes xs ≡ Some m → (y : ℕ) → has xs y ≡ true → comes y m ≡ true → ⊥) → (m : ℕ) → earlier comes x o ≡ Some m
      → (y : ℕ) → ((x == y) ≡ true) ⊎ (has xs y ≡ true) → comes y m ≡ true → ⊥
  front_by x xs (Some z) e rest m is y there comes_first =
      front x z xs (comes z x) refl (rest z e) y there (ap (comes y) (same_some (if comes z x then z else x) m is) ∙ comes_first)
  front_by x xs None e rest m is y (inl same) comes_first =
      itself x (ap (λ n. comes n x) (eqb-true x y same) ∙ ap (comes y) (same_some x m is) ∙ comes_first)
  front_by x xs None e rest m is y (inr later) comes_first = none_in y (ap (λ l. has l y) (sym (first_by_none comes xs e)) ∙ later)

  -- no other of the list comes before it
  pub first_is : (xs : List ℕ) (m : ℕ) → first_by comes xs ≡ Some m → (y : ℕ) → has xs y ≡ true → comes y m ≡ true → ⊥
  first_is [] m e y there is = none_in y there
  first_is (x ∷ xs) m e y there is = front_by x xs (first_by comes xs) refl (λ z d. first_is xs z d) m e y (or_cases (x == y) (has xs y) there) is
