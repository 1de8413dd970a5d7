-- What a replica's part of the history tells of each transaction there, beside its attempt and its waits.
use Rattle.std.specs.Prelude.{ℕ, Bool, true, false, not, ◌&&◌, ◌||◌, ◌==◌, if◌then◌else◌, Option, Some, None, List, [], ◌∷◌, ◌++◌, length}
use Rattle.hr_engine.specs.Journal.{Call, Journal}
use Rattle.hr_engine.specs.Effects.{Effect, effect_of, next_items}
use Rattle.hr_engine.specs.Effects as does
use Rattle.hr_base.specs.Lists.{has}
use Rattle.hr_engine.specs.Waits.{wait, standing}
use Rattle.hr_history.specs.declared.entry.Event.{Event}
use Rattle.hr_history.specs.declared.entry.Event.TheVariants as event
use Rattle.hr_history.specs.declared.job.Job.TheVariants as job
use Rattle.hr_history.specs.declared.phase.Last.{Last}
use Rattle.hr_history.specs.declared.phase.Last.TheVariants as last
use Rattle.hr_history.specs.History.{History}
use Rattle.hr_history.specs.Replicas.{call_at, journal_of}

abbrev pub next_touched : ℕ → Effect → Bool → Bool
next_touched t (does.Runs u stmt answer) was = (t == u) || was
next_touched t (does.Waits u named) was = (t == u) || was
next_touched t (does.Closes u cycle) was = (t == u) || was
next_touched t (does.Ends u) was = not (t == u) && was
next_touched t does.EndsAll was = false
next_touched t does.Nothing was = was

-- whether a statement of a transaction was answered, Done or Blocked or Deadlock, since it was last committed or rolled
-- back and since the last loss: then there is something to roll back
abbrev pub is_touched : ℕ → Journal → Bool
is_touched t [] = false
is_touched t (call ∷ before) = next_touched t (effect_of call) (is_touched t before)

-- whether the attempt of transaction t ends
abbrev pub ends_attempt : ℕ → Effect → Bool
ends_attempt t (does.Runs u stmt answer) = false
ends_attempt t (does.Waits u named) = false
ends_attempt t (does.Closes u cycle) = false
ends_attempt t (does.Ends u) = t == u
ends_attempt t does.EndsAll = true
ends_attempt t does.Nothing = false

abbrev pub unless_ended : ℕ → Option Call → Bool → Bool
unless_ended t None was = was
unless_ended t (Some call) was = not (ends_attempt t (effect_of call)) && was

-- what an entry makes of it, where it tells such a call of replica r, and there was something to roll back or not
abbrev pub next_preempted : ℕ → ℕ → Event → Option Call → Bool → Bool → Bool
next_preempted r t (event.Preempt replica txn) call touched was = ((replica == r) && (txn == t) && touched) || was
next_preempted r t e call touched was = unless_ended t call was

-- whether a transaction was preempted at a replica since its attempt there began anew: it is to be rolled back there
abbrev pub is_preempted : ℕ → ℕ → History → Bool
is_preempted r t [] = false
is_preempted r t (e ∷ before) = next_preempted r t e.event (call_at r e.event before) (is_touched t (journal_of r before)) (is_preempted r t before)

abbrev pub next_places : ℕ → Option Call → ℕ → List ℕ → List ℕ
next_places t None place places = places
next_places t (Some call) place places = next_items t (λ stmt answer. place) (effect_of call) places

-- where in the history the answers of a transaction's attempt at a replica were told: the place of each one's Give
abbrev pub places_told : ℕ → ℕ → History → List ℕ
places_told r t [] = []
places_told r t (e ∷ before) = next_places t (call_at r e.event before) (length before) (places_told r t before)

abbrev pub and_dispatched : ℕ → List ℕ → List ℕ
and_dispatched t ts = if has ts t then ts else ts ++ t ∷ []

abbrev pub next_dispatched : ℕ → Event → List ℕ → List ℕ
next_dispatched r (event.Take replica (job.Run t i)) ts = if replica == r then and_dispatched t ts else ts
next_dispatched r _ ts = ts

-- the transactions of which a statement was given to a replica to run, in the order of their first ones
abbrev pub dispatched : ℕ → History → List ℕ
dispatched r [] = []
dispatched r (e ∷ before) = next_dispatched r e.event (dispatched r before)

-- what a transaction's wait and standing Deadlock leave to tell
abbrev pub still_told : List ℕ → Option (List ℕ) → Last
still_told [] None = last.Answered
still_told [] (Some cycle) = last.Deadlock cycle
still_told (t ∷ named) cycle = last.Blocked (t ∷ named)

abbrev pub told_by : ℕ → Effect → Option Last
told_by t (does.Runs u stmt answer) = None
told_by t (does.Waits u named) = if t == u then Some (last.Blocked named) else None
told_by t (does.Closes u cycle) = if t == u then Some (last.Deadlock cycle) else None
told_by t (does.Ends u) = None
told_by t does.EndsAll = None
told_by t does.Nothing = None

-- what the journal's last call told, word for word, where that was a wait or a cycle of waits
abbrev pub as_told : ℕ → Journal → Option Last
as_told t [] = None
as_told t (call ∷ before) = told_by t (effect_of call)

abbrev pub or_still : Option Last → ℕ → Journal → Last
or_still (Some told) t j = told
or_still None t j = still_told (wait t j) (standing t j)

-- What the last reply to a transaction still tells of waits. The reply of this turn's call stands as it was told, right
-- or wrong; of any other those are left that are still waited for.
abbrev pub last_told : Bool → ℕ → Journal → Last
last_told true t j = or_still (as_told t j) t j
last_told false t j = or_still None t j
