-- Whose answers a session was given.
use Rattle.std.specs.Prelude.{◌≡◌, ℕ, ◌<◌, true, Some, [], ◌∷◌, length}
use Rattle.hr_rel.specs.Database.{Database}
use Rattle.hr_history.specs.History.{History}
use Rattle.hr_history.specs.Transactions.{phase_of, is_open}
use Rattle.hr_history.specs.Primary.{primary_of}
use Rattle.hr_history.specs.Given.{given_to}
use Rattle.hr_history.specs.Faithful.{Correct}

-- The transaction is served by a correct primary: as long as it was open and had answers, who was the primary then was
-- correct as far as then. Of what came later nothing is said.
abbrev pub IsServed : Database → ℕ → History → Type 0
IsServed db t [] = Unit {0}
IsServed db t (e ∷ before) =
    IsServed db t before
    × (is_open (phase_of t (e ∷ before)) ≡ true → 0 < length (given_to t (e ∷ before)) → (r : ℕ) → primary_of (e ∷ before) ≡ Some r → Correct db (e ∷ before) r)
