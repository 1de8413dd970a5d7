-- A number is that of a transaction, or it isn't.
use Rattle.std.proofs.Common.{◌≡◌, ◌⊎◌, inl, inr, ℕ, ◌≤◌, Bool, true, false, nat_le, refl}
use Rattle.std.proofs.lemmas.Bool.{leb-true, le-leb}
use Rattle.hr_records.specs.Numbers.{IsBorn}

pub born_or_not : (n t : ℕ) → IsBorn n t ⊎ (IsBorn n t → ⊥)
born_or_not n t = by_test (nat_le 1 t) (nat_le t n) refl refl
  where
    high : nat_le t n ≡ false → t ≤ n → ⊥
    high e le = cc (le-leb t n le)

    low : nat_le 1 t ≡ false → 1 ≤ t → ⊥
    low e le = cc (le-leb 1 t le)

    by_test : (a b : Bool) → nat_le 1 t ≡ a → nat_le t n ≡ b → IsBorn n t ⊎ (IsBorn n t → ⊥)
    by_test true true e d = inl (leb-true 1 t e, leb-true t n d)
    by_test true false e d = inr (λ born. high d born.1)
    by_test false b e d = inr (λ born. low e born.0)
