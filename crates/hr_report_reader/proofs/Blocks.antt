-- A list without a place for an item.
use Rattle.std.proofs.Common.{◌≡◌, ℕ, zero, suc, ◌≤◌, List, [], ◌∷◌, length, refl, ap, arith}
use Rattle.std.specs.Prelude.{slice_set}

pub set_past : (xs : List ℕ) (n x : ℕ) → length xs ≤ n → xs ≡ slice_set xs n x
set_past [] n x past = refl
set_past (y ∷ xs) zero x past = absurd (omega arith)
set_past (y ∷ xs) (suc n) x past = ap (λ ys. y ∷ ys) (set_past xs n x (omega (arith, past)))
