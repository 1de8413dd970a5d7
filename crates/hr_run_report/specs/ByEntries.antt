-- The tries of a session, entry by entry. It mirrors code and needn't be believed.
use Rattle.std.specs.Prelude.{ℕ, ◌+◌, Bool, not, ◌&&◌, ◌||◌, ◌==◌, nat_le, if◌then◌else◌, Option, Some, None, List, [], ◌∷◌, ◌++◌}
use Rattle.hr_base.specs.Lists.{last_of}
use Rattle.hr_history.specs.declared.entry.Entry.{Entry}
use Rattle.hr_history.specs.declared.entry.Event.{Event}
use Rattle.hr_history.specs.declared.entry.Event.TheVariants as event
use Rattle.hr_schedule.specs.declared.attempt.Try.{Try}

-- the transaction that session s began by an event
abbrev pub begun_at : ℕ → Event → Option ℕ
begun_at s (event.Begin session txn) = if session == s then Some txn else None
begun_at s _ = None

abbrev pub begun_by : ℕ → Option Entry → Option ℕ
begun_by s None = None
begun_by s (Some e) = begun_at s e.event

-- the try behind a last one, which was refused or not
abbrev pub try_behind : ℕ → Option Try → Bool → ℕ → Try
try_behind retries None refused txn = record { block = 1; number = 1; txn = txn }
try_behind retries (Some last) refused txn =
    if refused && nat_le last.number retries
    then record { block = last.block; number = last.number + 1; txn = txn }
    else record { block = last.block + 1; number = 1; txn = txn }

abbrev pub tries_with : ℕ → Option ℕ → Bool → List Try → List Try
tries_with retries None refused tries = tries
tries_with retries (Some txn) refused tries = tries ++ try_behind retries (last_of tries) refused txn ∷ []

abbrev pub tries_by : ℕ → ℕ → Option Entry → Bool → List Try → List Try
tries_by retries s entry refused tries = tries_with retries (begun_by s entry) refused tries

-- whether transaction t is refused after an event, where this tells it of before
abbrev pub refused_by : ℕ → Event → Bool → Bool
refused_by t (event.Refuse txn cause) was = was || (txn == t)
refused_by t (event.Begin session txn) was = was && not (txn == t)
refused_by t (event.AskCommit txn) was = was && not (txn == t)
refused_by t (event.AskRollback txn) was = was && not (txn == t)
refused_by t (event.Decide txn) was = was && not (txn == t)
refused_by t _ was = was

abbrev pub refused_last : Option Try → Option Entry → Bool → Bool
refused_last (Some last) (Some e) was = refused_by last.txn e.event was
refused_last _ _ was = was

abbrev pub refused_in : List Try → Option Entry → Bool → Bool
refused_in tries entry was = refused_last (last_of tries) entry was
