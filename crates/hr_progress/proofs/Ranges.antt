-- The numbers of transactions.
use Rattle.std.proofs.Common.{◌≡◌, ◌≢◌, ℕ, zero, suc, ◌+◌, ◌<◌, ◌≤◌, Bool, true, false, not, ◌||◌, ◌==◌, cond, List, [], ◌∷◌, ◌++◌, filter, length, refl, ap, ◌∙◌, arith}
use Rattle.std.specs.List.{range_with_len}
use Rattle.std.proofs.lemmas.Bool.{eqb-true, eq-eqb}
use Rattle.hr_base.specs.Lists.{has}
use Rattle.hr_base.proofs.Tests.{or_first, or_second}

pub range_has : (a n u : ℕ) → a ≤ u → u < a + n → has (range_with_len a n) u ≡ true
range_has a zero u low high = absurd (omega (arith, low, high))
range_has a (suc n) u low high = by (a == u) refl (λ up. range_has (a + 1) n u up (omega (arith, high)))
  where
    wrong : {b : Bool} → b ≡ true → b ≡ false → ⊥
    wrong x y = cc

    by : (b : Bool) → (a == u) ≡ b → (a + 1 ≤ u → has (range_with_len (a + 1) n) u ≡ true) → ((a == u) || has (range_with_len (a + 1) n) u) ≡ true
    by true e rest = or_first (a == u) (has (range_with_len (a + 1) n) u) e
    by false e rest = let differ : a ≢ u = λ same. wrong (eq-eqb a u same) e in or_second (a == u) (has (range_with_len (a + 1) n) u) (rest (omega (arith, low, differ)))

in_by : (b : Bool) (a n u : ℕ) → (a == u) ≡ b → (has (range_with_len (a + 1) n) u ≡ true → (a + 1 ≤ u) × (u < a + 1 + n)) → (b || has (range_with_len (a + 1) n) u) ≡ true → (a ≤ u) × (u < a + suc n)
in_by true a n u e rest h = let same : a ≡ u = eqb-true a u e in (omega (arith, same), omega (arith, same))
in_by false a n u e rest h = let r = rest h in (omega (arith, r.0), omega (arith, r.1))

pub in_range : (a n u : ℕ) → has (range_with_len a n) u ≡ true → (a ≤ u) × (u < a + n)
in_range a zero u h = absurd (wrong h)
  where
    wrong : false ≡ true → ⊥
    wrong d = cc
in_range a (suc n) u h = in_by (a == u) a n u refl (λ d. in_range (a + 1) n u d) h

pub range_suc : (a n : ℕ) → range_with_len a (suc n) ≡ range_with_len a n ++ (a + n) ∷ []
range_suc a zero = let same : a ≡ a + 0 = omega arith in ap (λ k. k ∷ []) same
range_suc a (suc n) = let same : a + 1 + n ≡ a + suc n = omega arith in ap (λ ks. a ∷ ks) (range_suc (a + 1) n ∙ ap (λ k. range_with_len (a + 1) n ++ k ∷ []) same)

fewer_by : (b : Bool) (x t : ℕ) (xs : List ℕ) → (x == t) ≡ b → length (filter (λ u. not (u == t)) xs) ≤ length xs → length (cond (not b) (x ∷ filter (λ u. not (u == t)) xs) (filter (λ u. not (u == t)) xs)) ≤ suc (length xs)
fewer_by true x t xs e h = omega (arith, h)
fewer_by false x t xs e h = omega (arith, h)

no_more : (t : ℕ) (xs : List ℕ) → length (filter (λ u. not (u == t)) xs) ≤ length xs
no_more t [] = omega arith
no_more t (x ∷ xs) = fewer_by (x == t) x t xs refl (no_more t xs)

one_by : (b : Bool) (x t : ℕ) (xs : List ℕ) → (x == t) ≡ b → (has xs t ≡ true → length (filter (λ u. not (u == t)) xs) < length xs) → (b || has xs t) ≡ true
    → length (cond (not b) (x ∷ filter (λ u. not (u == t)) xs) (filter (λ u. not (u == t)) xs)) < suc (length xs)
one_by true x t xs e rest h = omega (arith, no_more t xs)
one_by false x t xs e rest h = omega (arith, rest h)

-- a list without one of it is shorter
pub one_fewer : (t : ℕ) (xs : List ℕ) → has xs t ≡ true → length (filter (λ u. not (u == t)) xs) < length xs
one_fewer t [] h = absurd (wrong h)
  where
    wrong : false ≡ true → ⊥
    wrong d = cc
one_fewer t (x ∷ xs) h = one_by (x == t) x t xs refl (λ d. one_fewer t xs d) h
