-- What shows that a replica isn't correct.
use Rattle.std.specs.Prelude.{ℕ, zero, suc, Bool, not, ◌&&◌, ◌==◌, Option, Some, None, List, [], ◌∷◌, ◌++◌, length, option_and_then}
use Rattle.std.specs.List.{flat_map}
use Rattle.hr_base.specs.Lists.{has, once, last_of, first_some, when}
use Rattle.hr_engine.specs.Waits.{is_list_of_running, is_sound_deadlock}
use Rattle.hr_engine.specs.declared.reply.RunReply.{RunReply}
use Rattle.hr_engine.specs.declared.reply.RunReply.TheVariants as run
use Rattle.hr_history.specs.declared.evidence.Evidence.{Evidence}
use Rattle.hr_history.specs.declared.evidence.Evidence.TheVariants as evidence
use Rattle.hr_history.specs.declared.phase.Fresh.{Fresh}
use Rattle.hr_history.specs.SameAnswers.{same_answers}
use Rattle.hr_history.specs.Turn.{Turn, Counted}
use Rattle.hr_history.specs.View.{View}
use Rattle.hr_history.specs.Processed.{replica_in, given_in, answers_in, runs_in, wait_in, is_whole}
use Rattle.hr_history.specs.Votes.{difference_at}
use Rattle.hr_history.specs.Jobs.{next_in_log}

-- who can be reached from these by at most n steps from one to those that it waits for
abbrev pub reached : (ℕ → List ℕ) → ℕ → List ℕ → List ℕ
reached waits zero ts = ts
reached waits (suc n) ts = reached waits n (once (ts ++ flat_map waits ts))

-- Whether a Blocked reply to `asker` is sound: it names some others that run, in ascending order, and from none of them
-- does a chain of waits lead to the asker. Where n transactions wait, at most n + 1 steps reach all that any chain does.
abbrev pub is_sound_blocked : (ℕ → Bool) → (ℕ → List ℕ) → ℕ → ℕ → List ℕ → Bool
is_sound_blocked running waits n asker named = is_list_of_running running asker named && not (has (reached waits (suc n) named) asker)

-- the transaction to whose run this replica replied in this turn's call
abbrev pub asker_of : ℕ → Option Fresh → Option ℕ
asker_of r None = None
asker_of r (Some fresh) = when (fresh.replica == r) fresh.txn

abbrev pub bad_reply : (ℕ → Bool) → (ℕ → List ℕ) → ℕ → ℕ → Option RunReply → Option Evidence
bad_reply running waits n t (Some (run.Blocked named)) = when (not (is_sound_blocked running waits n t named)) (evidence.BadBlocked t)
bad_reply running waits n t (Some (run.Deadlock cycle)) = when (not (is_sound_deadlock running waits t cycle)) (evidence.BadDeadlock t)
bad_reply running waits n t _ = None

abbrev pub bad_restart : ℕ → Option Counted → Option Evidence
bad_restart r None = None
bad_restart r (Some bad) = when (bad.replica == r) (evidence.BadRestart bad.count)

module _ (v : View) (r : ℕ) where
  -- the transaction that is next in the log here is whole, and an answer isn't the accepted one
  abbrev pub differs : Option Evidence
  differs = option_and_then (λ t. when (is_whole v r t && not (same_answers (answers_in v r t) (given_in v t))) (evidence.Differs t (difference_at v r t))) (next_in_log v r)

  -- this turn's reply of the replica tells of waits that can't be
  abbrev pub bad_waits : Option Evidence
  bad_waits = option_and_then (λ t. bad_reply (runs_in v r) (wait_in v r) (length (replica_in v r).attempts) t (last_of v.replies)) (asker_of r v.fresh)

  -- The evidence against a replica: the first of these that there is. Its next commit would differ from the log; its
  -- reply in this turn tells of waits that can't be; its restart in this turn told a count that can't be.
  abbrev pub evidence_of : Turn → Option Evidence
  evidence_of turn = first_some (differs ∷ bad_waits ∷ bad_restart r turn.bad_count ∷ [])
