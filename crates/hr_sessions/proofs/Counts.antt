-- How many submits there are at most.
use Rattle.std.proofs.Common.{◌≡◌, ℕ, ◌+◌, ◌*◌, ◌-◌, ◌^◌, ◌<◌, ◌≤◌, Bool, true, false, nat_lt, arith, ltb-false}
use Rattle.std.specs.Prelude.{min}
use Rattle.std.proofs.Math.Nat.{le-mul_of_pos_right}
use Rattle.std.proofs.lemmas.Bool.Decides.{nat_tests}

less_by : (s n : ℕ) → s + 1 ≤ n → n ≤ 4000 → s < 4000
less_by s n h k = omega (arith, h, k)

-- each statement is counted at least once
pub few_statements : (s r : ℕ) → nat_lt 4000 ((s + 1) * (r + 1)) ≡ false → s < 4000
few_statements s r e = less_by s ((s + 1) * (r + 1)) (le-mul_of_pos_right (s + 1) (omega arith)) (ltb-false 4000 ((s + 1) * (r + 1)) e)

-- a counter that stands still at its last number is past a limit where the number is
pub over_shown : (n : ℕ) → nat_lt 4000 (min n (2 ^ 64 - 1)) ≡ nat_lt 4000 n
over_shown n = grind (arith, nat_tests)
