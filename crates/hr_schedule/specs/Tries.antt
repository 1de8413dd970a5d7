-- The tries of a session's blocks: a block whose transaction is refused is tried again, so often as the scenario says.
use Rattle.std.specs.Prelude.{ℕ, ◌+◌, Bool, true, false, ◌&&◌, ◌==◌, nat_le, if◌then◌else◌, Option, Some, None, List, [], ◌∷◌, ◌++◌}
use Rattle.hr_base.specs.Lists.{last_of}
use Rattle.hr_history.specs.declared.entry.Event.{Event}
use Rattle.hr_history.specs.declared.entry.Event.TheVariants as event
use Rattle.hr_history.specs.declared.phase.Phase.{Phase}
use Rattle.hr_history.specs.declared.phase.Phase.TheVariants as phase
use Rattle.hr_history.specs.History.{History}
use Rattle.hr_history.specs.Transactions.{phase_of}
use Rattle.hr_schedule.specs.declared.attempt.Try.{Try}

abbrev pub is_refused : Phase → Bool
is_refused phase.Active = false
is_refused (phase.Asked n) = false
is_refused (phase.Logged place) = false
is_refused phase.RolledBack = false
is_refused phase.Refused = true

-- The try that transaction t begins, behind the session's last try: the same block again where that was refused and
-- retries are left, else the next block.
abbrev pub try_after : ℕ → Option Try → (ℕ → Phase) → ℕ → Try
try_after retries None phases t = record { block = 1; number = 1; txn = t }
try_after retries (Some last) phases t =
    if is_refused (phases last.txn) && nat_le last.number retries
    then record { block = last.block; number = last.number + 1; txn = t }
    else record { block = last.block + 1; number = 1; txn = t }

abbrev pub next_tries : ℕ → ℕ → Event → (ℕ → Phase) → List Try → List Try
next_tries retries s (event.Begin session txn) phases tries = if session == s then tries ++ try_after retries (last_of tries) phases txn ∷ [] else tries
next_tries retries s _ phases tries = tries

-- the tries of session s, in the order of their Begins
abbrev pub tries_of : ℕ → ℕ → History → List Try
tries_of retries s [] = []
tries_of retries s (e ∷ before) = next_tries retries s e.event (λ t. phase_of t before) (tries_of retries s before)

-- its last try, if there is one
abbrev pub last_try : ℕ → ℕ → History → Option Try
last_try retries s h = last_of (tries_of retries s h)
