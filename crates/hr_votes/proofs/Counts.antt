-- Replicas by their numbers, from one on.
use Rattle.std.proofs.Common.{◌≡◌, ℕ, suc, ◌+◌, ◌-◌, ◌<◌, ◌≤◌, Bool, true, false, cond, if◌then◌else◌, Some, find, List, [], ◌∷◌, refl, ap, sym, ◌∙◌, arith}
use Rattle.std.specs.List.{range_with_len, count_by}
use Rattle.std.proofs.lemmas.List.Recursion.{is_count_by}

module _ (p : ℕ → Bool) where
  abbrev counted : List ℕ → ℕ
  counted [] = 0
  counted (x ∷ xs) = cond (p x) (1 + counted xs) (counted xs)

  is_counted : (xs : List ℕ) → counted xs ≡ count_by p xs
  is_counted = is_count_by counted p refl (λ x xs. refl)

  pub count_cons : (x : ℕ) (xs : List ℕ) → count_by p (x ∷ xs) ≡ cond (p x) (1 + count_by p xs) (count_by p xs)
  count_cons x xs = sym (is_counted (x ∷ xs)) ∙ ap (λ n. cond (p x) (1 + n) n) (is_counted xs)

  pub count_none : count_by p [] ≡ 0
  count_none = sym (is_counted [])

  range_left : (a to : ℕ) → a < to → range_with_len a (to - a) ≡ a ∷ range_with_len (a + 1) (to - (a + 1))
  range_left a to h = let count : to - a ≡ suc (to - (a + 1)) = omega (arith, h) in ap (range_with_len a) count

  by_test : (b : Bool) (n : ℕ) → cond b (1 + n) n ≡ (if b then 1 else 0) + n
  by_test true n = refl
  by_test false n = omega arith

  -- the vote of one, and those behind it
  pub count_on : (a to : ℕ) → a < to → count_by p (range_with_len a (to - a)) ≡ (if p a then 1 else 0) + count_by p (range_with_len (a + 1) (to - (a + 1)))
  count_on a to h = ap (count_by p) (range_left a to h) ∙ count_cons a (range_with_len (a + 1) (to - (a + 1))) ∙ by_test (p a) (count_by p (range_with_len (a + 1) (to - (a + 1))))

  pub count_end : (a to : ℕ) → to ≤ a → count_by p (range_with_len a (to - a)) ≡ 0
  count_end a to h = let none : to - a ≡ 0 = omega (arith, h) in ap (λ n. count_by p (range_with_len a n)) none ∙ count_none

  -- where it passes it is the first
  pub find_here : (a to : ℕ) → a < to → p a ≡ true → find p (range_with_len a (to - a)) ≡ Some a
  find_here a to h passes = ap (find p) (range_left a to h) ∙ ap (λ b. cond b (Some a) (find p (range_with_len (a + 1) (to - (a + 1))))) passes

-- so many so far, one vote, and the others behind it
pub vote_counts : (count vote x all rest total : ℕ) → vote ≡ x → count + all ≡ total → all ≡ x + rest → count + vote + rest ≡ total
vote_counts count vote x all rest total h k e = omega (arith, h, k, e)

pub one_vote : (b : Bool) (vote : ℕ) → vote ≡ (if b then 1 else 0) → vote ≤ 1
one_vote true vote h = omega (arith, h)
one_vote false vote h = omega (arith, h)
