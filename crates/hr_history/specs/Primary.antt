-- The primary, and who may be the next.
use Rattle.std.specs.Prelude.{ℕ, Bool, false, not, ◌&&◌, ◌==◌, if◌then◌else◌, Option, Some, None, unwrap_or, [], ◌∷◌, find}
use Rattle.hr_history.specs.declared.entry.Event.{Event}
use Rattle.hr_history.specs.declared.entry.Event.TheVariants as event
use Rattle.hr_history.specs.History.{History}
use Rattle.hr_history.specs.ReplicaNumbers.{replicas_after}
use Rattle.hr_history.specs.Replicas.{is_lost, is_convicted, tells_loss}

abbrev pub is_some_of : ℕ → Option ℕ → Bool
is_some_of n None = false
is_some_of n (Some m) = n == m

-- the primary, unless it is this replica
abbrev pub other_than : ℕ → Option ℕ → Option ℕ
other_than r primary = if is_some_of r primary then None else primary

abbrev pub next_primary : Event → Option ℕ → Option ℕ
next_primary (event.Give replica reply) primary = if tells_loss reply then other_than replica primary else primary
next_primary event.Suspect primary = None
next_primary (event.Convict replica evidence) primary = other_than replica primary
next_primary (event.NewPrimary replica) primary = Some replica
next_primary _ primary = primary

-- The primary: replica 0 at first. There is none once it is lost, convicted or suspected, until there is a new one.
abbrev pub primary_of : History → Option ℕ
primary_of [] = Some 0
primary_of (e ∷ before) = next_primary e.event (primary_of before)

-- the candidate: the first replica that may be primary, from the one after `start` on and round to it
abbrev pub candidate_after : ℕ → (ℕ → Bool) → ℕ → Option ℕ
candidate_after f may_be start = find may_be (replicas_after f start)

-- neither lost nor convicted
abbrev pub is_live : ℕ → History → Bool
is_live r h = not (is_lost r h) && not (is_convicted r h)

abbrev pub start_at_suspect : Option ℕ → Option ℕ → ℕ → ℕ
start_at_suspect (Some primary) candidate start = start
start_at_suspect None candidate start = unwrap_or candidate start

-- what an entry makes of the start of the search, where there was such a primary and such a candidate
abbrev pub next_search_after : Event → Option ℕ → Option ℕ → ℕ → ℕ
next_search_after event.Suspect primary candidate start = start_at_suspect primary candidate start
next_search_after (event.NewPrimary replica) primary candidate start = replica
next_search_after _ primary candidate start = start

abbrev pub candidate_of : ℕ → History → ℕ → Option ℕ
candidate_of f h start = candidate_after f (λ r. is_live r h) start

-- where the search for a candidate starts: after the last primary, or after the candidate that stood when a later
-- suspicion came without a primary
abbrev pub search_after : ℕ → History → ℕ
search_after f [] = 0
search_after f (e ∷ before) = next_search_after e.event (primary_of before) (candidate_of f before (search_after f before)) (search_after f before)
