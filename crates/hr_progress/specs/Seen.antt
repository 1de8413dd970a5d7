-- What contracts see of a `View`: the record in which each answer, and each list that is waited for, stands in its place.
use Rattle.std.specs.Prelude.{ℕ, ◌+◌, Bool, not, ◌&&◌, ◌==◌, nat_lt, if◌then◌else◌, Option, Some, None, List, [], ◌∷◌, map, slice_get}
use Rattle.hr_rel.specs.declared.answer.Answer.{Answer}
use Rattle.hr_rel.specs.declared.answer.Answer.TheVariants.{Count}
use Rattle.hr_base.specs.Lists.{is_empty}
use Rattle.hr_engine.specs.declared.reply.RunReply.{RunReply}
use Rattle.hr_engine.specs.declared.reply.RunReply.TheVariants as run
use Rattle.hr_history.specs.declared.phase.Last.{Last}
use Rattle.hr_history.specs.declared.phase.Last.TheVariants as last
use Rattle.hr_history.specs.declared.phase.Fresh.{Fresh}
use Rattle.hr_history.specs.Given as given
use Rattle.hr_history.specs.View as view
use Rattle.hr_moves.specs.Sane.{cut_to}
use Rattle.std.specs.Prelude.{length}
use Rattle.hr_progress.specs.declared.view.View.TheInside.{Inside}
use Rattle.hr_progress.specs.declared.txn.Given.{Given}
use Rattle.hr_progress.specs.declared.attempt.Told.{Told}
use Rattle.hr_progress.specs.Plain.{PlainTxn, PlainAttempt, PlainProgress, PlainView, plain, plain_attempt_in}

abbrev pub done_in : Option RunReply → Option Answer
done_in (Some (run.Done answer)) = Some answer
done_in _ = None

abbrev pub answer_in : Option RunReply → Answer
answer_in (Some (run.Done answer)) = answer
answer_in _ = Count 0

-- the answer at a place among the replies
abbrev pub answer_at : List RunReply → ℕ → Answer
answer_at replies place = answer_in (slice_get replies place)

-- what a reply tells of waits
abbrev pub waits_in : Option RunReply → Last
waits_in (Some (run.Blocked named)) = last.Blocked named
waits_in (Some (run.Deadlock cycle)) = last.Deadlock cycle
waits_in _ = last.Answered

abbrev pub waits_at : List RunReply → ℕ → Last
waits_at replies place = waits_in (slice_get replies place)

-- whether a transaction runs, and began to before this place among the replies
abbrev pub began_before : ℕ → PlainAttempt → Bool
began_before place a = not (is_empty a.answers) && nat_lt a.began place

abbrev pub runs_since : List (ℕ × PlainAttempt) → ℕ → ℕ → Bool
runs_since entries place u = began_before place (plain_attempt_in entries u)

module _ (replies : List RunReply) where
  abbrev pub seen_given : Given → given.Given
  seen_given g = record { answer = answer_at replies g.reply; stamp = g.stamp }

  abbrev pub seen_txn : PlainTxn → view.TxnState
  seen_txn t = record { session = t.session; statements = t.statements; given = map seen_given t.given; phase = t.phase }

  -- The turn's reply stands as it was told; of another those are left that run without a break since.
  abbrev pub seen_last : Bool → List (ℕ × PlainAttempt) → Option ℕ → Last
  seen_last fresh entries None = last.Answered
  seen_last fresh entries (Some place) =
      if fresh && (place + 1 == length replies) then waits_at replies place else cut_to (runs_since entries place) (waits_at replies place)

  abbrev pub seen_attempt : Bool → List (ℕ × PlainAttempt) → PlainAttempt → view.Attempt
  seen_attempt fresh entries a = record {
    answers = map (λ (t : Told). answer_at replies t.reply) a.answers;
    places = map (λ (t : Told). t.at) a.answers;
    last = seen_last fresh entries a.last;
    touched = a.touched;
    preempted = a.preempted;
  }

  abbrev pub seen_entry : Option Fresh → ℕ → List (ℕ × PlainAttempt) → ℕ × PlainAttempt → ℕ × view.Attempt
  seen_entry fresh r entries p = (p.0, seen_attempt (view.is_fresh fresh r p.0) entries p.1)

  abbrev pub seen_replica : Option Fresh → ℕ → PlainProgress → view.Progress
  seen_replica fresh r p = record {
    lost = p.lost;
    convicted = p.convicted;
    position = p.position;
    doubt = p.doubt;
    out = p.out;
    attempts = map (seen_entry fresh r p.attempts) p.attempts;
  }

  -- the first of these replicas has number r
  abbrev pub seen_replicas : Option Fresh → ℕ → List PlainProgress → List view.Progress
  seen_replicas fresh r [] = []
  seen_replicas fresh r (p ∷ ps) = seen_replica fresh r p ∷ seen_replicas fresh (r + 1) ps

abbrev pub seen_plain : PlainView → view.View
seen_plain v = record {
  f = v.f;
  log = v.log;
  txns = map (seen_txn v.replies) v.txns;
  replicas = seen_replicas v.replies v.fresh 0 v.replicas;
  primary = v.primary;
  search_after = v.search_after;
  replies = v.replies;
  fresh = v.fresh;
}

abbrev pub seen : Inside → view.View
seen v = seen_plain (plain v)
