-- The numbers of the replicas, from the one after a number on and round to it.
use Rattle.std.proofs.Common.{◌≡◌, ℕ, zero, suc, ◌+◌, ◌-◌, ◌*◌, ◌<◌, ◌≤◌, Bool, false, cond, Some, find, ◌∷◌, take, drop, refl, ap, ◌∙◌, arith}
use Rattle.std.specs.List.{range_with_len}
use Rattle.std.specs.Option.{option_or}
use Rattle.std.proofs.lemmas.List.Folds.{find-append}
use Rattle.hr_history.specs.ReplicaNumbers.{replicas_after}

drop_range : (a n k : ℕ) → drop k (range_with_len a n) ≡ range_with_len (a + k) (n - k)
drop_range a n zero = let first : a ≡ a + 0 = omega arith in let count : n ≡ n - 0 = omega arith in λ i. range_with_len (first i) (count i)
drop_range a zero (suc k) = let none : 0 ≡ 0 - suc k = omega arith in ap (range_with_len (a + suc k)) none
drop_range a (suc n) (suc k) =
    let first : a + 1 + k ≡ a + suc k = omega arith in
    let count : n - k ≡ suc n - suc k = omega arith in
    drop_range (a + 1) n k ∙ (λ i. range_with_len (first i) (count i))

take_range : (a n k : ℕ) → k ≤ n → take k (range_with_len a n) ≡ range_with_len a k
take_range a n zero h = refl
take_range a zero (suc k) h = absurd (omega (arith, h))
take_range a (suc n) (suc k) h = ap (λ xs. a ∷ xs) (take_range (a + 1) n k (omega (arith, h)))

pub find_round : (p : ℕ → Bool) (f s : ℕ) → s ≤ 2 * f
    → find p (replicas_after f s) ≡ option_or (find p (range_with_len (s + 1) (2 * f + 1 - (s + 1)))) (find p (range_with_len 0 (s + 1)))
find_round p f s h =
    let start : 0 + (s + 1) ≡ s + 1 = omega arith in
    let later : drop (s + 1) (range_with_len 0 (2 * f + 1)) ≡ range_with_len (s + 1) (2 * f + 1 - (s + 1)) = drop_range 0 (2 * f + 1) (s + 1) ∙ ap (λ a. range_with_len a (2 * f + 1 - (s + 1))) start in
    let earlier : take (s + 1) (range_with_len 0 (2 * f + 1)) ≡ range_with_len 0 (s + 1) = take_range 0 (2 * f + 1) (s + 1) (omega (arith, h)) in
    find-append p (drop (s + 1) (range_with_len 0 (2 * f + 1))) (take (s + 1) (range_with_len 0 (2 * f + 1))) ∙ (λ i. option_or (find p (later i)) (find p (earlier i)))

range_left : (a to : ℕ) → a < to → range_with_len a (to - a) ≡ a ∷ range_with_len (a + 1) (to - (a + 1))
range_left a to h = let count : to - a ≡ suc (to - (a + 1)) = omega (arith, h) in ap (range_with_len a) count

-- where a number fails the search goes on behind it
pub find_on : (p : ℕ → Bool) (a to : ℕ) → a < to → p a ≡ false → find p (range_with_len a (to - a)) ≡ find p (range_with_len (a + 1) (to - (a + 1)))
find_on p a to h fails = ap (find p) (range_left a to h) ∙ ap (λ b. cond b (Some a) (find p (range_with_len (a + 1) (to - (a + 1))))) fails
