-- The calls that a caller makes one after another.
use Rattle.std.specs.Prelude.{◌≡◌, ℕ, zero, suc, List, [], ◌∷◌, ◌++◌}
use Rattle.hr_turn.specs.declared.pass.Pass.{Pass}
use Rattle.hr_turn.specs.declared.pass.TurnLock.{TurnLock}
use Rattle.hr_turn.specs.Passes.{id_of, lock_of, view_of, IsFree}
use Rattle.hr_thread_tests.specs.declared.calls.Call.{Call}
use Rattle.hr_thread_tests.specs.declared.calls.Calls.{Calls}

abbrev pub call_of : ℕ → ℕ → Call
call_of caller index = record { caller = caller; index = index }

-- the first calls of a caller, in order
abbrev pub first_calls : ℕ → ℕ → List Call
first_calls caller zero = []
first_calls caller (suc n) = first_calls caller n ++ call_of caller n ∷ []

-- a pass of this lock, of this number, that may enter and has made its first n calls
abbrev pub HasCalled : ℕ → ℕ → TurnLock Calls Call → Pass Calls Call → Type 0
HasCalled number n lock pass = (lock_of pass ≡ id_of lock) × IsFree pass × ((view_of pass).number ≡ number) × ((view_of pass).mine ≡ first_calls number n)
