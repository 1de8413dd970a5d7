-- A number doesn't get smaller by more digits.
use Rattle.std.proofs.Common.{◌≡◌, ◌≤◌, ℕ, List, [], ◌∷◌, None, arith, length, get_or}
use Rattle.std.proofs.lemmas.Bool.Decides.{nat_tests}
use Rattle.hr_lex.specs.Numbers.{number_from, with_digit, fitting}

pub number_from-le : (ds : List ℕ) (n : ℕ) → n ≤ number_from n ds
number_from-le [] n = omega arith
number_from-le (d ∷ ds) n = let h = number_from-le ds (with_digit n d) in omega (arith, h)

fitting-past : (n m : ℕ) → n ≤ m → fitting n ≡ None → fitting m ≡ None
fitting-past n m h e = grind (arith, nat_tests)

-- digits behind a number that is past the largest write one that is past it too
pub past_the_largest : (ds : List ℕ) (n : ℕ) → fitting n ≡ None → fitting (number_from n ds) ≡ None
past_the_largest ds n e = fitting-past n (number_from n ds) (number_from-le ds n) e

-- the same where the first of them passed the largest
pub stops_at_first : (ds : List ℕ) (n : ℕ) → 1 ≤ length ds → fitting (with_digit n (get_or ds 0 0)) ≡ None → fitting (number_from n ds) ≡ None
stops_at_first [] n h e = absurd (omega (arith, h))
stops_at_first (d ∷ ds) n h e = past_the_largest ds (with_digit n d) e
