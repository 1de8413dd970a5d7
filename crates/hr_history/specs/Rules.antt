-- What follows in a turn: seven rules, of which the first that applies gives the next entry, until none applies.
use Rattle.std.specs.Prelude.{ℕ, not, ◌&&◌, Option, Some, None, is_none, [], ◌∷◌, filter, find, map, unwrap_or, option_and_then}
use Rattle.std.specs.Option.{option_map}
use Rattle.hr_engine.specs.declared.reply.RunReply.{RunReply}
use Rattle.hr_engine.specs.declared.reply.RunReply.TheVariants as run
use Rattle.hr_history.specs.declared.entry.Event.{Event}
use Rattle.hr_history.specs.declared.entry.Event.TheVariants as event
use Rattle.hr_history.specs.declared.cause.CauseAt.{CauseAt}
use Rattle.hr_history.specs.declared.cause.CauseAt.TheVariants as cause
use Rattle.hr_history.specs.declared.evidence.Evidence.TheVariants as evidence
use Rattle.hr_history.specs.declared.phase.Fresh.{Fresh}
use Rattle.hr_history.specs.History.{History}
use Rattle.hr_base.specs.Lists.{last_of, first_some, when, numbered}
use Rattle.hr_history.specs.ReplicaNumbers.{replica_numbers}
use Rattle.hr_history.specs.Transactions.{is_open}
use Rattle.hr_history.specs.Turn.{Turn, Gone, Contradiction, turn_of}
use Rattle.hr_history.specs.View.{View, view_of}
use Rattle.hr_history.specs.Processed.{phase_in, attempt_in, replica_in, is_primary, candidate_in, is_caught_up}
use Rattle.hr_history.specs.Votes.{is_decidable, is_contradicted, contradicted_by, difference_at}
use Rattle.hr_history.specs.Ranks.{first_in_rank}
use Rattle.hr_history.specs.Jobs.{txn_numbers}
use Rattle.hr_history.specs.Preemption.{preempted_next}
use Rattle.hr_history.specs.Evidence.{evidence_of}

abbrev pub convict_with : Option ℕ → Contradiction → Option Event
convict_with None c = None
convict_with (Some p) c = Some (event.Convict p (evidence.Contradicted c.txn c.index))

module _ (v : View) (turn : Turn) where
  -- Owed: a transaction was just refused because its given answers are contradicted, so the primary is convicted for it.
  abbrev pub owed_conviction : Option Event
  owed_conviction = option_and_then (convict_with v.primary) turn.owed

  abbrev pub conviction_of : ℕ → Option Event
  conviction_of r = option_and_then (λ e. when (not (replica_in v r).convicted) (event.Convict r e)) (evidence_of v r turn)

  -- Convict: the lowest replica against which there is evidence, and which isn't convicted yet.
  abbrev pub convict : Option Event
  convict = first_some (map conviction_of (replica_numbers v.f))

  abbrev pub refuse_for : Gone → Option Event
  refuse_for gone = option_map (λ t. event.Refuse t (cause.PrimaryChanged gone.from gone.why gone.at)) (find (λ t. is_open (phase_in v t)) (txn_numbers v))

  -- Primary gone: where the primary went in this turn, each open transaction is refused, the lowest first.
  abbrev pub primary_gone : Option Event
  primary_gone = option_and_then refuse_for turn.went

  abbrev pub cause_by : Option RunReply → Option CauseAt
  cause_by (Some (run.Deadlock cycle)) = Some (cause.Deadlock turn.start)
  cause_by (Some run.NoMemory) = Some (cause.PrimaryMemory turn.start)
  cause_by _ = None

  abbrev pub refuse_after : Fresh → Option Event
  refuse_after fresh = option_and_then (λ c. when (is_primary v fresh.replica && is_open (phase_in v fresh.txn)) (event.Refuse fresh.txn c)) (cause_by (last_of v.replies))

  -- Primary's reply: where the turn's call is the primary's Deadlock or NoMemory to an open transaction, that is refused.
  abbrev pub primary_reply : Option Event
  primary_reply = option_and_then refuse_after v.fresh

  -- Decide: the transaction that ranks first of those that may be decided.
  abbrev pub decide : Option Event
  decide = option_map (λ t. event.Decide t) (first_in_rank v (filter (is_decidable v) (txn_numbers v)))

  -- where the answer number i of replica r to transaction t was told
  abbrev pub answer_place : ℕ → ℕ → ℕ → ℕ
  answer_place r t i = unwrap_or (numbered (attempt_in v r t).places i) 0

  abbrev pub refuse_as_differ : ℕ → Option Event
  refuse_as_differ t = option_map (λ r. event.Refuse t (cause.Differ (difference_at v r t) r (answer_place r t (difference_at v r t)))) (contradicted_by v t)

  -- Differ: the transaction that ranks first of those whose given answers are contradicted is refused.
  abbrev pub differ : Option Event
  differ = option_and_then refuse_as_differ (first_in_rank v (filter (is_contradicted v) (txn_numbers v)))

  -- New primary: where there is none, the candidate, once it is caught up.
  abbrev pub new_primary : Option Event
  new_primary = option_and_then (λ r. when (is_none v.primary && is_caught_up v r) (event.NewPrimary r)) (candidate_in v)

  abbrev pub preemption_at : ℕ → Option Event
  preemption_at r = option_map (λ t. event.Preempt r t) (preempted_next v r)

  -- Preempt: at the lowest replica where one has to give way, the lowest such transaction.
  abbrev pub preempt : Option Event
  preempt = first_some (map preemption_at (replica_numbers v.f))

  -- what is due, by the view and the turn: the conviction that is owed, or by the first rule that applies
  abbrev pub due_in : Option Event
  due_in = first_some (owed_conviction ∷ convict ∷ primary_gone ∷ primary_reply ∷ decide ∷ differ ∷ new_primary ∷ preempt ∷ [])

-- what the shepherd has to append to a history of 2f + 1 replicas before it takes another call
abbrev pub due : ℕ → History → Option Event
due f h = due_in (view_of f h) (turn_of h)
