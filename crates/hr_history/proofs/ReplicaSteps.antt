-- The replicas of a view, one entry later.
use Rattle.std.proofs.Common.{◌≡◌, ℕ, zero, suc, ◌+◌, ◌*◌, ◌<◌, ◌≤◌, Bool, not, ◌&&◌, cond, Some, List, [], ◌∷◌, ◌++◌, take, drop, refl, ap, sym, arith}
use Rattle.std.specs.Prelude.{find}
use Rattle.std.specs.List.{range_with_len}
use Rattle.hr_history.specs.History.{History}
use Rattle.hr_history.specs.ReplicaNumbers.{replica_numbers, replicas_after}
use Rattle.hr_history.specs.Primary.{is_live, candidate_of, search_after}
use Rattle.hr_history.specs.View.{view_of}
use Rattle.hr_history.specs.Processed.{live_in, candidate_in}
use Rattle.hr_history.proofs.StepLemmas.{replica_lookup}

-- each number of the list is below n
abbrev Within : ℕ → List ℕ → Type 0
Within n [] = Unit {0}
Within n (x ∷ xs) = (x < n) × Within n xs

module _ (n : ℕ) where
  within_range : (a k : ℕ) → a + k ≤ n → Within n (range_with_len a k)
  within_range a zero h = tt
  within_range a (suc k) h = (omega (arith, h), within_range (a + 1) k (omega (arith, h)))

  within_drop : (k : ℕ) (xs : List ℕ) → Within n xs → Within n (drop k xs)
  within_drop zero xs h = h
  within_drop (suc k) [] h = tt
  within_drop (suc k) (x ∷ xs) h = within_drop k xs h.1

  within_take : (k : ℕ) (xs : List ℕ) → Within n xs → Within n (take k xs)
  within_take zero xs h = tt
  within_take (suc k) [] h = tt
  within_take (suc k) (x ∷ xs) h = (h.0, within_take k xs h.1)

  within_append : (xs ys : List ℕ) → Within n xs → Within n ys → Within n (xs ++ ys)
  within_append [] ys h k = k
  within_append (x ∷ xs) ys h k = (h.0, within_append xs ys h.1 k)

  find_same : (p q : ℕ → Bool) → ((x : ℕ) → x < n → p x ≡ q x) → (xs : List ℕ) → Within n xs → find p xs ≡ find q xs
  find_same p q same [] h = refl
  find_same p q same (x ∷ xs) h = λ i. cond (same x h.0 i) (Some x) (find_same p q same xs h.1 i)

live_same : (f r : ℕ) (h : History) → r < 2 * f + 1 → is_live r h ≡ live_in (view_of f h) r
live_same f r h lt = sym (ap (λ p. not p.lost && not p.convicted) (replica_lookup f r h lt))

-- the candidate by the history and by its view
pub candidate_same : (f : ℕ) (h : History) → candidate_of f h (search_after f h) ≡ candidate_in (view_of f h)
candidate_same f h =
    let n = 2 * f + 1 in
    let start = search_after f h in
    let all = within_range n 0 n (omega arith) in
    let round = within_append n (drop (start + 1) (replica_numbers f)) (take (start + 1) (replica_numbers f))
    (within_drop n (start + 1) (replica_numbers f) all) (within_take n (start + 1) (replica_numbers f) all) in
    find_same n (λ r. is_live r h) (live_in (view_of f h)) (λ r lt. live_same f r h lt) (replicas_after f start) round
