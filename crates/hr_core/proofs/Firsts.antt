-- Before anything happened.
use Rattle.std.proofs.Common.{◌≡◌, ℕ, zero, suc, Option, Some, None, List, [], ◌∷◌, length, replicate, refl, ap}
use Rattle.hr_history.specs.declared.cause.Cause.{Cause}
use Rattle.hr_core.specs.declared.seat.Seat.{Seat}
use Rattle.hr_core.specs.declared.seat.Seat.TheVariants as seat
use Rattle.hr_core.specs.Seats.{seat_in, refusal_in, state_kept, refusal_kept}
use Rattle.hr_core.specs.Told.{PlainCore, AreTold}

pub empty_seat : (n q : ℕ) → seat_in (replicate n seat.NothingAsked) q ≡ seat.NothingAsked
empty_seat n zero = refl
empty_seat zero (suc q) = refl
empty_seat (suc n) (suc zero) = refl
empty_seat (suc n) (suc (suc q)) = empty_seat n (suc q)

pub seats_count : (n : ℕ) → length (replicate n seat.NothingAsked) ≡ n
seats_count zero = refl
seats_count (suc n) = ap (λ k. suc k) (seats_count n)

pub no_refusal : (t : ℕ) → refusal_kept [] (refusal_in [] t) ≡ Some None
no_refusal zero = refl
no_refusal (suc n) = refl

abbrev pub first : ℕ → ℕ → PlainCore
first f sessions = record { ledger = record { f = f; sessions = sessions; entries = [] }; seats = replicate sessions seat.NothingAsked; causes = []; suspects = 0 }

pub told_first : (f sessions : ℕ) → AreTold (first f sessions)
told_first f sessions = record {
  seats = record { each = seats_count sessions; told = λ q low high. ap (state_kept []) (empty_seat sessions q) };
  causes = record { each = refl; told = no_refusal };
  suspects = refl;
}
