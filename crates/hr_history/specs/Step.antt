-- What an entry makes of a view, by the view alone.
use Rattle.std.specs.Prelude.{ℕ, ◌+◌, Bool, true, false, not, ◌&&◌, ◌==◌, if◌then◌else◌, Option, Some, None, List, [], ◌∷◌, ◌++◌, length, map, filter, option_and_then}
use Rattle.hr_rel.specs.declared.answer.Answer.{Answer}
use Rattle.hr_engine.specs.Journal.{Call}
use Rattle.hr_engine.specs.Effects.{Effect, effect_of, next_items, Settling, settling_of}
use Rattle.hr_engine.specs.Effects as does
use Rattle.hr_base.specs.Counters.{shown}
use Rattle.hr_base.specs.Lists.{is_empty, once}
use Rattle.hr_engine.specs.Waits.{next_wait, next_standing, if_all}
use Rattle.hr_history.specs.declared.entry.Entry.{Entry}
use Rattle.hr_history.specs.declared.entry.Event.{Event}
use Rattle.hr_history.specs.declared.entry.Event.TheVariants as event
use Rattle.hr_history.specs.declared.job.Job.{Job}
use Rattle.hr_history.specs.declared.phase.Phase.TheVariants as phase
use Rattle.hr_history.specs.declared.phase.Last.{Last}
use Rattle.hr_history.specs.declared.phase.Fresh.{Fresh}
use Rattle.hr_history.specs.History.{History}
use Rattle.hr_history.specs.ReplicaNumbers.{replica_numbers}
use Rattle.hr_history.specs.Transactions.{asks, next_log, next_phase}
use Rattle.hr_history.specs.Replicas.{any_stmt, next_out, next_convicted, call_told}
use Rattle.hr_history.specs.Primary.{next_primary, next_search_after}
use Rattle.hr_history.specs.Given.{Found, next_given}
use Rattle.hr_history.specs.Attempts.{next_touched, next_preempted, next_places, still_told, told_by, next_dispatched}
use Rattle.hr_history.specs.Turn.{next_replies, next_fresh}
use Rattle.hr_history.specs.View.{View, TxnState, Progress, Attempt, is_fresh, view_of}
use Rattle.hr_history.specs.Processed.{txn_in, phase_in, replica_in, attempt_in, candidate_in, named_in, cycle_in}
use Rattle.hr_history.specs.Jobs.{txn_numbers}

abbrev pub next_answers : ℕ → Effect → List Answer → List Answer
next_answers t effect answers = next_items t (λ stmt answer. answer) effect answers

abbrev pub answers_after : ℕ → Option Call → List Answer → List Answer
answers_after t None answers = answers
answers_after t (Some call) answers = next_answers t (effect_of call) answers

abbrev pub touched_after : ℕ → Option Call → Bool → Bool
touched_after t None was = was
touched_after t (Some call) was = next_touched t (effect_of call) was

abbrev pub next_count : ℕ → Event → ℕ → ℕ
next_count t (event.Begin session txn) n = if txn == t then 0 else n
next_count t (event.Submit txn index stmt) n = if txn == t then n + 1 else n
next_count t _ n = n

abbrev pub begun_by : Event → List TxnState
begun_by (event.Begin session txn) = record { session = session; statements = 0; given = []; phase = phase.Active } ∷ []
begun_by _ = []

-- Whether a replica is lost, how many transactions it has committed, and whether its last commit is in doubt.
pub record Commits : Type 0 where
  pub lost : Bool
  pub position : ℕ
  pub doubt : Bool

abbrev pub next_commits : Settling → Commits → Commits
next_commits does.Counts s = record { lost = s.lost; position = s.position + 1; doubt = s.doubt }
next_commits (does.Loses at_commit) s = record { lost = true; position = s.position; doubt = if s.lost then s.doubt else at_commit }
next_commits (does.Tells told) s =
    record { lost = false; position = if s.doubt && (told == shown (s.position + 1)) then s.position + 1 else s.position; doubt = false }
next_commits does.Keeps s = s

abbrev pub commits_after : Option Call → Commits → Commits
commits_after None s = s
commits_after (Some call) s = next_commits (settling_of call) s

-- what was told just now, if it was, and else what is still told
abbrev pub last_if : Bool → Option Last → Last → Last
last_if false told still = still
last_if true None still = still
last_if true (Some told) still = told

module _ (v : View) where
  abbrev pub out_in : ℕ → Option Job
  out_in r = (replica_in v r).out

  abbrev pub found_in : ℕ → Found
  found_in t = record { out = out_in; primary = v.primary; phase = phase_in v t; logged = length v.log }

  -- the call of replica r's backend that an event tells; which statement a run is of doesn't matter here
  abbrev pub call_in : ℕ → Event → Option Call
  call_in r e = call_told r e out_in (λ t i. any_stmt)

  abbrev pub fresh_after : Event → Option Fresh
  fresh_after e = next_fresh e out_in v.fresh

  -- one transaction, where so many commits were asked for
  abbrev pub txn_after : ℕ → Event → ℕ → TxnState
  txn_after asks e t = record {
    session = (txn_in v t).session;
    statements = next_count t e (txn_in v t).statements;
    given = next_given t e (found_in t) (txn_in v t).given;
    phase = next_phase t e asks (length v.log) (phase_in v t);
  }

  -- Of a reply that was told in the turn before, those are left that are still waited for.
  abbrev pub wait_left : ℕ → ℕ → List ℕ
  wait_left r t =
      let named = named_in (attempt_in v r t).last in
      if is_fresh v.fresh r t then filter (λ u. not (is_empty (attempt_in v r u).answers)) (once named) else named

  abbrev pub standing_left : ℕ → ℕ → Option (List ℕ)
  standing_left r t =
      let cycle = cycle_in (attempt_in v r t).last in
      if is_fresh v.fresh r t then option_and_then (if_all (λ u. not (is_empty (attempt_in v r u).answers))) cycle else cycle

  -- whether a transaction runs at replica r after a call
  abbrev pub runs_after : ℕ → Call → ℕ → Bool
  runs_after r call t = not (is_empty (next_answers t (effect_of call) (attempt_in v r t).answers))

  abbrev pub last_by_call : Bool → ℕ → ℕ → Call → Last
  last_by_call fresh r t call = last_if fresh (told_by t (effect_of call)) (still_told
      (filter (runs_after r call) (next_wait t (effect_of call) (wait_left r t)))
      (option_and_then (if_all (runs_after r call)) (next_standing t (effect_of call) (standing_left r t))))

  -- what the last reply to a transaction tells then: this turn's stands as it was told
  abbrev pub last_after : Event → ℕ → ℕ → Option Call → Last
  last_after e r t None = if is_fresh (fresh_after e) r t then (attempt_in v r t).last else still_told (wait_left r t) (standing_left r t)
  last_after e r t (Some call) = last_by_call (is_fresh (fresh_after e) r t) r t call

  -- one transaction at one replica, where so many entries stood before
  abbrev pub attempt_after : ℕ → Event → ℕ → ℕ → Attempt
  attempt_after place e r t = record {
    answers = answers_after t (call_in r e) (attempt_in v r t).answers;
    places = next_places t (call_in r e) place (attempt_in v r t).places;
    last = last_after e r t (call_in r e);
    touched = touched_after t (call_in r e) (attempt_in v r t).touched;
    preempted = next_preempted r t e (call_in r e) (attempt_in v r t).touched (attempt_in v r t).preempted;
  }

  abbrev pub commits_in : ℕ → Commits
  commits_in r = record { lost = (replica_in v r).lost; position = (replica_in v r).position; doubt = (replica_in v r).doubt }

  abbrev pub progress_after : ℕ → Event → ℕ → Commits → Progress
  progress_after place e r s = record {
    lost = s.lost;
    convicted = next_convicted r e (replica_in v r).convicted;
    position = s.position;
    doubt = s.doubt;
    out = next_out r e (out_in r);
    attempts = map (λ t. (t, attempt_after place e r t)) (next_dispatched r e (map (λ (p : ℕ × Attempt). p.0) (replica_in v r).attempts));
  }

  abbrev pub replica_after : ℕ → Event → ℕ → Progress
  replica_after place e r = progress_after place e r (commits_after (call_in r e) (commits_in r))

-- The view after one more entry, by the view before it, the number of entries before it, and how often a commit was asked
-- for before it.
abbrev pub view_step : View → ℕ → ℕ → Event → View
view_step v place asks e = record {
  f = v.f;
  log = next_log e v.log;
  txns = map (txn_after v asks e) (txn_numbers v) ++ begun_by e;
  replicas = map (replica_after v place e) (replica_numbers v.f);
  primary = next_primary e v.primary;
  search_after = next_search_after e v.primary (candidate_in v) v.search_after;
  replies = next_replies e v.replies;
  fresh = fresh_after v e;
}

-- the step of a history's view
abbrev pub step_of : ℕ → Entry → History → View
step_of f e before = view_step (view_of f before) (length before) (asks before) e.event
