-- Causes of refusals, by what stands at the places that they name.
use Rattle.std.proofs.Common.{◌≡◌, ℕ, ◌≤◌, Option, Some, None, unwrap_or, List, [], length, slice_get, refl, ap, sym, ◌∙◌, subst}
use Rattle.std.specs.Option.{option_map}
use Rattle.hr_base.specs.Lists.{numbered}
use Rattle.hr_rel.specs.declared.answer.Answer.{Answer}
use Rattle.hr_rel.specs.declared.answer.Answer.TheVariants as answer
use Rattle.hr_engine.specs.declared.reply.RunReply.{RunReply}
use Rattle.hr_engine.specs.declared.reply.RunReply.TheVariants as run
use Rattle.hr_history.specs.declared.cause.Cause.{Cause}
use Rattle.hr_history.specs.declared.cause.Cause.TheVariants as cause
use Rattle.hr_history.specs.declared.entry.Event.{Event}
use Rattle.hr_history.specs.declared.entry.Event.TheVariants as event
use Rattle.hr_history.specs.declared.job.JobReply.TheVariants as reply
use Rattle.hr_history.specs.Given.{answers_given, given_to}
use Rattle.hr_history.specs.History.{History}
use Rattle.hr_history.specs.Replies.{cycle_of, answer_of}
use Rattle.hr_history.specs.View.{TxnState, view_of}
use Rattle.hr_history.specs.Processed.{given_in}
use Rattle.hr_history.proofs.StepLemmas.{txn_lookup}
use Rattle.hr_moves.specs.Fits.{IsOpen}
use Rattle.hr_records.proofs.Options.{same_some}
use Rattle.hr_records.proofs.ViewWords.{open_seen}
use Rattle.hr_ledger.specs.Told.{reply_told}
use Rattle.hr_core.specs.Seats.{cycle_in, answer_in, reply_kept, difference}

module _ (rs : List RunReply) where
  placed : (place : ℕ) (r : RunReply) → slice_get rs place ≡ Some r → reply_kept rs (Some place) ≡ Some (Some r)
  placed place r at = ap (option_map (λ (x : RunReply). Some x)) at

  pub reply_placed : (p : Option ℕ) (o : Option RunReply) → option_map (slice_get rs) p ≡ option_map (λ (r : RunReply). Some r) o → reply_kept rs p ≡ Some o
  reply_placed None None h = refl
  reply_placed None (Some r) h = cc h
  reply_placed (Some p) None h = cc h
  reply_placed (Some p) (Some r) h = placed p r (same_some (slice_get rs p) (Some r) h)

  abbrev done : Option Answer → Option RunReply
  done o = option_map (λ (a : Answer). run.Done a) o

  pub answer_placed : (p : Option ℕ) (o : Option Answer) → option_map (slice_get rs) p ≡ option_map (λ (a : Answer). Some (run.Done a)) o → reply_kept rs p ≡ Some (option_map (λ (a : Answer). run.Done a) o)
  answer_placed None None h = refl
  answer_placed None (Some a) h = cc h
  answer_placed (Some p) None h = cc h
  answer_placed (Some p) (Some a) h = placed p (run.Done a) (same_some (slice_get rs p) (Some (run.Done a)) h)

pub answer_done : (o : Option Answer) → answer_in (option_map (λ (a : Answer). run.Done a) o) ≡ unwrap_or o (answer.Count 0)
answer_done None = refl
answer_done (Some a) = refl

pub told_cycle : (e : Option Event) → cycle_in (reply_told e) ≡ cycle_of e
told_cycle None = refl
told_cycle (Some (event.Give r (reply.Ran (run.Done x)))) = refl
told_cycle (Some (event.Give r (reply.Ran (run.Blocked x)))) = refl
told_cycle (Some (event.Give r (reply.Ran (run.Deadlock x)))) = refl
told_cycle (Some (event.Give r (reply.Ran run.Lost))) = refl
told_cycle (Some (event.Give r (reply.Ran run.NoMemory))) = refl
told_cycle (Some (event.Give r (reply.Ended x))) = refl
told_cycle (Some (event.Give r reply.StillLost)) = refl
told_cycle (Some (event.Begin session txn)) = refl
told_cycle (Some (event.Submit txn index stmt)) = refl
told_cycle (Some (event.AskCommit txn)) = refl
told_cycle (Some (event.AskRollback txn)) = refl
told_cycle (Some (event.Take r job)) = refl
told_cycle (Some (event.Restarted r count)) = refl
told_cycle (Some event.Suspect) = refl
told_cycle (Some (event.Decide txn)) = refl
told_cycle (Some (event.Refuse txn c)) = refl
told_cycle (Some (event.Convict r x)) = refl
told_cycle (Some (event.NewPrimary r)) = refl
told_cycle (Some (event.Preempt r txn)) = refl

pub told_answer : (e : Option Event) → answer_in (reply_told e) ≡ answer_of e
told_answer None = refl
told_answer (Some (event.Give r (reply.Ran (run.Done x)))) = refl
told_answer (Some (event.Give r (reply.Ran (run.Blocked x)))) = refl
told_answer (Some (event.Give r (reply.Ran (run.Deadlock x)))) = refl
told_answer (Some (event.Give r (reply.Ran run.Lost))) = refl
told_answer (Some (event.Give r (reply.Ran run.NoMemory))) = refl
told_answer (Some (event.Give r (reply.Ended x))) = refl
told_answer (Some (event.Give r reply.StillLost)) = refl
told_answer (Some (event.Begin session txn)) = refl
told_answer (Some (event.Submit txn index stmt)) = refl
told_answer (Some (event.AskCommit txn)) = refl
told_answer (Some (event.AskRollback txn)) = refl
told_answer (Some (event.Take r job)) = refl
told_answer (Some (event.Restarted r count)) = refl
told_answer (Some event.Suspect) = refl
told_answer (Some (event.Decide txn)) = refl
told_answer (Some (event.Refuse txn c)) = refl
told_answer (Some (event.Convict r x)) = refl
told_answer (Some (event.NewPrimary r)) = refl
told_answer (Some (event.Preempt r txn)) = refl

-- an open transaction's given answers are the history's
pub given_seen : (f t : ℕ) (h : History) → IsOpen (view_of f h) t → given_in (view_of f h) t ≡ answers_given (given_to t h)
given_seen f t h open_ = let born = (open_seen f t h open_).0 in ap (λ (x : TxnState). answers_given x.given) (txn_lookup f t h born.0 born.1)
