-- What is due, rule by rule.
use Rattle.std.proofs.Common.{◌≡◌, ℕ, not, ◌&&◌, Option, Some, None, is_none, option_and_then, filter, find, []}
use Rattle.hr_base.specs.Lists.{last_of, when}
use Rattle.hr_engine.specs.declared.reply.RunReply.{RunReply}
use Rattle.hr_engine.specs.declared.reply.RunReply.TheVariants as run
use Rattle.hr_history.specs.declared.cause.CauseAt.TheVariants as cause
use Rattle.hr_history.specs.declared.cause.Why.{Why}
use Rattle.hr_history.specs.declared.entry.Event.{Event}
use Rattle.hr_history.specs.declared.entry.Event.TheVariants as event
use Rattle.hr_history.specs.declared.evidence.Evidence.{Evidence}
use Rattle.hr_history.specs.declared.evidence.Evidence.TheVariants as evidence
use Rattle.hr_history.specs.declared.phase.Fresh.{Fresh}
use Rattle.hr_history.specs.ReplicaNumbers.{replica_numbers}
use Rattle.hr_history.specs.Transactions.{is_open}
use Rattle.hr_history.specs.Turn.{Turn, Contradiction}
use Rattle.hr_history.specs.View.{View}
use Rattle.hr_history.specs.Processed.{phase_in, replica_in, is_primary, candidate_in, is_caught_up}
use Rattle.hr_history.specs.Ranks.{first_in_rank}
use Rattle.hr_history.specs.Votes.{is_decidable, is_contradicted, contradicted_by, difference_at}
use Rattle.hr_history.specs.Jobs.{txn_numbers}
use Rattle.hr_history.specs.Preemption.{preempted_next}
use Rattle.hr_history.specs.Evidence.{evidence_of}
use Rattle.hr_history.specs.Rules.{convict_with, owed_conviction, conviction_of, convict, refuse_for, primary_gone, cause_by, refuse_after, primary_reply, decide, refuse_as_differ, differ, answer_place, new_primary, preemption_at, preempt, due_in}
use Rattle.hr_records.proofs.Options.{On, when_on, first_on, then_on, map_on, first_of_on}

-- It holds of what each rule gives, where a rule before it gives nothing.
pub record OfEachRule (v : View) (turn : Turn) (P : Event → Type 0) : Type 0 where
  pub convicts : (r : ℕ) (x : Evidence) → P (event.Convict r x)
  pub gone : (t from : ℕ) (because : Why) (at : ℕ) → P (event.Refuse t (cause.PrimaryChanged from because at))
  pub deadlock : (t at : ℕ) → P (event.Refuse t (cause.Deadlock at))
  pub memory : (t at : ℕ) → P (event.Refuse t (cause.PrimaryMemory at))
  pub decides : primary_gone v turn ≡ None → (t : ℕ) → first_in_rank v (filter (is_decidable v) (txn_numbers v)) ≡ Some t → P (event.Decide t)
  pub differs : decide v turn ≡ None → (t by : ℕ) → first_in_rank v (filter (is_contradicted v) (txn_numbers v)) ≡ Some t
      → P (event.Refuse t (cause.Differ (difference_at v by t) by (answer_place v turn by t (difference_at v by t))))
  pub elects : (r : ℕ) → P (event.NewPrimary r)
  pub preempts : new_primary v turn ≡ None → (r t : ℕ) → P (event.Preempt r t)

module _ (v : View) (turn : Turn) (P : Event → Type 0) (each : OfEachRule v turn P) where
  by_owed : On P (owed_conviction v turn)
  by_owed = then_on P (convict_with v.primary) turn.owed (λ c owed. of_primary v.primary c)
    where
      of_primary : (o : Option ℕ) (c : Contradiction) → On P (convict_with o c)
      of_primary None c = tt
      of_primary (Some p) c = each.convicts p (evidence.Contradicted c.txn c.index)

  by_evidence : On P (convict v turn)
  by_evidence = first_of_on P (conviction_of v turn) (replica_numbers v.f) (λ r there.
      then_on P (λ e. when (not (replica_in v r).convicted) (event.Convict r e)) (evidence_of v r turn) (λ e shown.
      when_on P (not (replica_in v r).convicted) (event.Convict r e) (λ un. each.convicts r e)))

  by_gone : On P (primary_gone v turn)
  by_gone = then_on P (refuse_for v turn) turn.went (λ gone went.
      map_on P (λ t. event.Refuse t (cause.PrimaryChanged gone.from gone.why gone.at)) (find (λ t. is_open (phase_in v t)) (txn_numbers v)) (λ t found. each.gone t gone.from gone.why gone.at))

  by_reply : On P (primary_reply v turn)
  by_reply = then_on P (refuse_after v turn) v.fresh (λ fresh is. of_reply fresh (last_of v.replies))
    where
      of_reply : (fresh : Fresh) (o : Option RunReply) → On P (option_and_then (λ c. when (is_primary v fresh.replica && is_open (phase_in v fresh.txn)) (event.Refuse fresh.txn c)) (cause_by v turn o))
      of_reply fresh None = tt
      of_reply fresh (Some (run.Done answer)) = tt
      of_reply fresh (Some (run.Blocked named)) = tt
      of_reply fresh (Some run.Lost) = tt
      of_reply fresh (Some (run.Deadlock cycle)) =
          when_on P (is_primary v fresh.replica && is_open (phase_in v fresh.txn)) (event.Refuse fresh.txn (cause.Deadlock turn.start)) (λ both. each.deadlock fresh.txn turn.start)
      of_reply fresh (Some run.NoMemory) =
          when_on P (is_primary v fresh.replica && is_open (phase_in v fresh.txn)) (event.Refuse fresh.txn (cause.PrimaryMemory turn.start)) (λ both. each.memory fresh.txn turn.start)

  by_votes : primary_gone v turn ≡ None → On P (decide v turn)
  by_votes none = map_on P (λ t. event.Decide t) (first_in_rank v (filter (is_decidable v) (txn_numbers v))) (λ t first. each.decides none t first)

  by_contradiction : decide v turn ≡ None → On P (differ v turn)
  by_contradiction none = then_on P (refuse_as_differ v turn) (first_in_rank v (filter (is_contradicted v) (txn_numbers v))) (λ t first.
      map_on P (λ r. event.Refuse t (cause.Differ (difference_at v r t) r (answer_place v turn r t (difference_at v r t)))) (contradicted_by v t) (λ r by. each.differs none t r first))

  by_vacancy : On P (new_primary v turn)
  by_vacancy = then_on P (λ r. when (is_none v.primary && is_caught_up v r) (event.NewPrimary r)) (candidate_in v) (λ r candidate.
      when_on P (is_none v.primary && is_caught_up v r) (event.NewPrimary r) (λ both. each.elects r))

  by_waits : new_primary v turn ≡ None → On P (preempt v turn)
  by_waits none = first_of_on P (preemption_at v turn) (replica_numbers v.f) (λ r there. map_on P (λ t. event.Preempt r t) (preempted_next v r) (λ t next. each.preempts none r t))

  -- so it holds of what is due
  pub due_on : On P (due_in v turn)
  due_on =
      first_on P (owed_conviction v turn) _ by_owed (λ a.
      first_on P (convict v turn) _ by_evidence (λ b.
      first_on P (primary_gone v turn) _ by_gone (λ c.
      first_on P (primary_reply v turn) _ by_reply (λ d.
      first_on P (decide v turn) _ (by_votes c) (λ e.
      first_on P (differ v turn) _ (by_contradiction e) (λ g.
      first_on P (new_primary v turn) _ by_vacancy (λ k.
      first_on P (preempt v turn) [] (by_waits k) (λ l. tt))))))))
