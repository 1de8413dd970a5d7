-- What every history that has begun rightly keeps of a session's transactions.
use Rattle.std.specs.Prelude.{◌≡◌, ◌⊎◌, ℕ, ◌<◌, true, Some, length}
use Rattle.hr_history.specs.History.{History}
use Rattle.hr_history.specs.Transactions.{session_of, submits, phase_of, is_open, is_asked}
use Rattle.hr_history.specs.Given.{given_to}
use Rattle.hr_schedule.specs.declared.attempt.Try.{Try}
use Rattle.hr_schedule.specs.Tries.{last_try}

-- The transaction is open, and its session is owed a reply: its commit is asked for, or a statement has no answer.
pub record IsPending (t : ℕ) (h : History) : Type 0 where
  pub is_open : is_open (phase_of t h) ≡ true
  pub owed : (is_asked (phase_of t h) ≡ true) ⊎ (length (given_to t h) < length (submits t h))

-- a transaction of the session is so
abbrev pub HasPending : ℕ → History → Type 0
HasPending s h = (t : ℕ) × (session_of t h ≡ Some s) × IsPending t h

-- The last try's transaction is the session's, and an open transaction of the session is that of its last try.
pub record IsLast (retries s : ℕ) (h : History) : Type 0 where
  pub its : (x : Try) → last_try retries s h ≡ Some x → session_of x.txn h ≡ Some s
  pub latest : (t : ℕ) → session_of t h ≡ Some s → is_open (phase_of t h) ≡ true → (x : Try) × (last_try retries s h ≡ Some x) × (x.txn ≡ t)
