-- Who is left as primary.
use Rattle.std.proofs.Common.{◌≡◌, ℕ, Bool, true, false, ◌==◌, if◌then◌else◌, Option, Some, None, refl, ap, sym, ◌∙◌}
use Rattle.hr_history.specs.Primary.{other_than}
use Rattle.hr_records.proofs.Options.{some_none, same_some}

other_by : (q p r : ℕ) (b : Bool) → (q == p) ≡ b → (if b then None else Some p) ≡ Some r → (p ≡ r) × ((q == r) ≡ false)
other_by q p r true e is = absurd (some_none r (sym is))
other_by q p r false e is = let same = same_some p r is in (same, ap (λ x. q == x) (sym same) ∙ e)

-- the primary that is left is another one, and was it before
pub other_is : (q r : ℕ) (o : Option ℕ) → other_than q o ≡ Some r → (o ≡ Some r) × ((q == r) ≡ false)
other_is q r None e = absurd (some_none r (sym e))
other_is q r (Some p) e = let is = other_by q p r (q == p) refl e in (ap Some is.0, is.1)

-- so it is after a reply, lost or not
pub if_lost : (b : Bool) (q r : ℕ) (o : Option ℕ) → (if b then other_than q o else o) ≡ Some r → o ≡ Some r
if_lost true q r o e = (other_is q r o e).0
if_lost false q r o e = e
