-- Items numbered from 1.
use Rattle.std.proofs.Common.{◌≡◌, ◌≢◌, ℕ, zero, suc, ◌-◌, ◌<◌, List, refl, ap, arith}
use Rattle.std.specs.Prelude.{slice_get}
use Rattle.hr_base.specs.Lists.{numbered}

pub number_there : {X : Type 0} (xs : List X) (n : ℕ) → 0 < n → slice_get xs (n - 1) ≡ numbered xs n
number_there xs zero some = absurd (omega arith)
number_there xs (suc n) some =
    let less : suc n - 1 ≡ n = omega arith in
    ap (slice_get xs) less
