-- The turn that a history is in: its call, with what followed so far.
use Rattle.std.specs.Prelude.{ℕ, ◌+◌, Bool, not, ◌&&◌, ◌||◌, ◌==◌, if◌then◌else◌, Option, Some, None, is_some, List, [], ◌∷◌, ◌++◌, length}
use Rattle.std.specs.Option.{option_map}
use Rattle.hr_engine.specs.Journal.{Journal}
use Rattle.hr_engine.specs.Base.{count, settled}
use Rattle.hr_base.specs.Counters.{shown}
use Rattle.hr_engine.specs.declared.reply.RunReply.{RunReply}
use Rattle.hr_history.specs.declared.entry.Entry.{Entry}
use Rattle.hr_history.specs.declared.entry.Event.{Event}
use Rattle.hr_history.specs.declared.entry.Event.TheVariants as event
use Rattle.hr_history.specs.declared.job.Job.{Job}
use Rattle.hr_history.specs.declared.job.Job.TheVariants as job
use Rattle.hr_history.specs.declared.job.JobReply.{JobReply}
use Rattle.hr_history.specs.declared.job.JobReply.TheVariants as reply
use Rattle.hr_history.specs.declared.cause.CauseAt.TheVariants as cause
use Rattle.hr_history.specs.declared.cause.Why.{Why}
use Rattle.hr_history.specs.declared.cause.Why.TheVariants as why
use Rattle.hr_history.specs.declared.phase.Fresh.{Fresh}
use Rattle.hr_history.specs.History.{History, is_call}
use Rattle.hr_base.specs.Lists.{when}
use Rattle.hr_history.specs.Replicas.{out_at, journal_of, tells_loss}
use Rattle.hr_history.specs.Primary.{primary_of, is_some_of}

-- a turn of history `h` is the list of entries from its last call on, the latest first
abbrev pub turn : History → List Entry
turn [] = []
turn (e ∷ before) = if is_call e.event then e ∷ [] else e ∷ turn before

-- the place of the turn's call
abbrev pub turn_start : History → ℕ
turn_start [] = 0
turn_start (e ∷ before) = if is_call e.event then length before else turn_start before

abbrev pub next_replies : Event → List RunReply → List RunReply
next_replies (event.Give replica (reply.Ran told)) replies = replies ++ told ∷ []
next_replies _ replies = replies

-- the replies to all runs, in order
abbrev pub replies_to_runs : History → List RunReply
replies_to_runs [] = []
replies_to_runs (e ∷ before) = next_replies e.event (replies_to_runs before)

abbrev pub fresh_from : ℕ → Option Job → Option Fresh
fresh_from r (Some (job.Run t i)) = Some record { replica = r; txn = t }
fresh_from r _ = None

abbrev pub fresh_by : ℕ → JobReply → Option Job → Option Fresh
fresh_by r (reply.Ran told) out = fresh_from r out
fresh_by r _ out = None

-- what an entry makes of it, where such a job was out at each replica
abbrev pub next_fresh : Event → (ℕ → Option Job) → Option Fresh → Option Fresh
next_fresh (event.Give replica told) out fresh = fresh_by replica told (out replica)
next_fresh e out fresh = if is_call e then None else fresh

-- the replica and the transaction of the turn's call, where that is a reply to a run
abbrev pub fresh_of : History → Option Fresh
fresh_of [] = None
fresh_of (e ∷ before) = next_fresh e.event (λ r. out_at r before) (fresh_of before)

-- The primary went, and why; `at` is the place of the entry by which it did.
pub record Gone : Type 0 where
  pub from : ℕ
  pub why : Why
  pub at : ℕ

abbrev pub gone_if : Bool → ℕ → Why → ℕ → Option Gone
gone_if was_primary r why at = when was_primary record { from = r; why = why; at = at }

abbrev pub next_went : Event → History → Option Gone → Option Gone
next_went (event.Give replica told) before went = gone_if (tells_loss told && is_some_of replica (primary_of before)) replica why.Lost (length before)
next_went event.Suspect before went = option_map (λ (p : ℕ). record { from = p; why = why.Suspected; at = length before }) (primary_of before)
next_went (event.Convict replica evidence) before went =
    if is_some_of replica (primary_of before) then Some record { from = replica; why = why.Convicted; at = length before } else went
next_went e before went = if is_call e then None else went

-- the primary that went in this turn, if it did
abbrev pub went : History → Option Gone
went [] = None
went (e ∷ before) = next_went e.event before (went before)

-- A count that a replica told at a restart.
pub record Counted : Type 0 where
  pub replica : ℕ
  pub count : ℕ

-- whether a restart may tell this count: as many as its commits or, while a commit is in doubt, one more
abbrev pub is_sound_count : ℕ → Journal → Bool
is_sound_count told j = (told == shown (count j)) || (is_some (settled j).doubt && (told == shown (count j + 1)))

abbrev pub next_bad_count : Event → History → Option Counted → Option Counted
next_bad_count (event.Restarted replica count) before bad = when (not (is_sound_count count (journal_of replica before))) record { replica = replica; count = count }
next_bad_count e before bad = if is_call e then None else bad

-- the count that the turn's call told at a restart, if it can't be right
abbrev pub bad_count : History → Option Counted
bad_count [] = None
bad_count (e ∷ before) = next_bad_count e.event before (bad_count before)

-- An answer of the primary that is contradicted.
pub record Contradiction : Type 0 where
  pub txn : ℕ
  pub index : ℕ

abbrev pub owed_after : Event → Option Contradiction
owed_after (event.Refuse txn (cause.Differ index by at)) = Some record { txn = txn; index = index }
owed_after _ = None

-- the contradiction for which the primary is to be convicted now: that of the refusal that stands last
abbrev pub owed : History → Option Contradiction
owed [] = None
owed (e ∷ before) = owed_after e.event

-- What the rules look at beside the view.
pub record Turn : Type 0 where
  pub start : ℕ
  pub went : Option Gone
  pub bad_count : Option Counted
  pub owed : Option Contradiction

abbrev pub turn_of : History → Turn
turn_of h = record { start = turn_start h; went = went h; bad_count = bad_count h; owed = owed h }
