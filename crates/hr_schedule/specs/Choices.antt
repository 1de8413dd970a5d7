-- What the choices of a schedule make: relations between the history before a choice and the history after it.
use Rattle.std.specs.Prelude.{◌≡◌, ℕ, zero, suc, Bool, false, nat_le, Option, Some, None, unwrap_or, List, [], ◌∷◌, length, slice_get, IsTrue}
use Rattle.std.specs.Option.{option_map}
use Rattle.hr_base.specs.Lists.{one_to}
use Rattle.hr_said.specs.declared.scenario.Scenario.{Scenario}
use Rattle.hr_said.specs.declared.scenario.Choice.{Choice}
use Rattle.hr_said.specs.declared.scenario.Choice.TheVariants as choice
use Rattle.hr_history.specs.declared.entry.Event.{Event}
use Rattle.hr_history.specs.declared.entry.Event.TheVariants as event
use Rattle.hr_history.specs.declared.job.Job.{Job}
use Rattle.hr_history.specs.History.{History}
use Rattle.hr_history.specs.ReplicaNumbers.{replica_numbers}
use Rattle.hr_history.specs.Transactions.{log}
use Rattle.hr_history.specs.Replicas.{out_at}
use Rattle.hr_history.specs.Words.{job}
use Rattle.hr_history.specs.Faithful.{replica_caller, session_caller}
use Rattle.hr_moves.specs.Callers.{IsTurn}
use Rattle.hr_core.specs.Suspects.{suspects}
use Rattle.hr_schedule.specs.Scripts.{next_call_of}

-- what a choice, or a part of one, makes of a history
abbrev pub Making : Type 1
Making = History → History → Type 0

-- ---- put together

-- one, and then the other
abbrev pub Both : Making → Making → Making
Both First Then before after = (mid : History) × First before mid × Then mid after

-- so many times
abbrev pub Times : Making → ℕ → Making
Times Once zero before after = after ≡ before
Times Once (suc k) before after = (mid : History) × Times Once k before mid × Once mid after

-- that of each, in this order
abbrev pub Each : {X : Type 0} → (X → Making) → List X → Making
Each Of [] before after = after ≡ before
Each Of (x ∷ xs) before after = (mid : History) × Of x before mid × Each Of xs mid after

-- ---- one call

-- the turn of this caller's call, or nothing where there is no call
abbrev pub Acts : ℕ → ℕ → Option Event → Making
Acts f caller None before after = after ≡ before
Acts f caller (Some call) before after = IsTurn f caller call before after

-- a reply of replica r; which, its backend tells
abbrev pub IsReply : ℕ → Event → Type 0
IsReply r (event.Give replica told) = replica ≡ r
IsReply r (event.Restarted replica count) = replica ≡ r
IsReply r _ = ⊥

-- the turn of replica r's reply to the job that is out, or nothing where none is
abbrev pub Replies : ℕ → ℕ → Option Job → Making
Replies f r None before after = after ≡ before
Replies f r (Some out) before after = (e : Event) × IsReply r e × IsTurn f (replica_caller r) e before after

-- the suspicion with this threshold is due: so many transactions are in the log
abbrev pub is_reached : Option ℕ → ℕ → Bool
is_reached None commits = false
is_reached (Some threshold) commits = nat_le threshold commits

module _ (f r : ℕ) where
  -- replica r takes its job, if there is one
  abbrev pub TakeJob : Making
  TakeJob before after = Acts f (replica_caller r) (option_map (λ j. event.Take r j) (job f before r)) before after

  -- replica r replies to the job that it has out, if it has one
  abbrev pub GiveReply : Making
  GiveReply before after = Replies f r (out_at r before) before after

-- ---- the choices of a scenario

module _ (sc : Scenario) where
  -- the next suspicion of the scenario is due
  abbrev pub is_suspect_due : History → Bool
  is_suspect_due h = is_reached (slice_get sc.suspects (suspects h)) (length (log h))

  -- the root suspects the primary, where that is due
  abbrev pub Suspects : Making
  Suspects before after = IsTrue (is_suspect_due before) × IsTurn sc.f 0 event.Suspect before after

  -- again and again, until it isn't due
  abbrev pub AllSuspects : Making
  AllSuspects before after = (k : ℕ) × Times Suspects k before after × (is_suspect_due after ≡ false)

  -- session s makes the next call of its script, if there is one
  abbrev pub Session : ℕ → Making
  Session s before after = Acts sc.f (session_caller sc.f s) (next_call_of sc s before) before after

  -- behind each choice the due suspicions come
  abbrev pub OfSession : ℕ → Making
  OfSession s = Both (Session s) AllSuspects

  abbrev pub OfReplica : ℕ → Making
  OfReplica r = Both (Both (TakeJob sc.f r) (GiveReply sc.f r)) AllSuspects

  -- every session, and then every replica
  abbrev pub Round : Making
  Round = Both (Each OfSession (one_to (length sc.scripts))) (Each OfReplica (replica_numbers sc.f))

  -- what one choice makes
  abbrev pub Chooses : Choice → Making
  Chooses (choice.Session s) = OfSession s
  Chooses (choice.Both r) = OfReplica r
  Chooses (choice.TakeJob r) = Both (TakeJob sc.f r) AllSuspects
  Chooses (choice.GiveReply r) = Both (GiveReply sc.f r) AllSuspects
  Chooses (choice.Rounds k) = Times Round k

  -- the choices of the schedule; where there is none, 200 rounds
  abbrev pub choices : List Choice
  choices = unwrap_or sc.schedule (choice.Rounds 200 ∷ [])

  -- the history is what these choices make, from nothing
  abbrev pub Chosen : History → Type 0
  Chosen h = Each Chooses choices [] h
