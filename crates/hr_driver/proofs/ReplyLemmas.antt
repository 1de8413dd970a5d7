-- A reply that a backend has made is one turn, and its backend stands for the journal with it.
use Rattle.std.proofs.Common.{◌≡◌, ℕ, ◌+◌, ◌*◌, ◌≤◌, ◌∙◌, true, Option, Some, None, Ok, refl, ap, sym, subst}
use Rattle.std.specs.Prelude.{Result, Err}
use Rattle.hr_engine.specs.declared.reply.Lost.{Lost}
use Rattle.hr_engine.specs.declared.reply.RunReply.{RunReply}
use Rattle.hr_engine.specs.declared.reply.RunReply.TheVariants as run
use Rattle.hr_engine.specs.Journal.{Call, Restarted}
use Rattle.hr_engine.specs.Backend.{Standing, Extends, AnswersCanonically}
use Rattle.hr_history.specs.declared.entry.Event.TheVariants as event
use Rattle.hr_history.specs.declared.job.Job.{Job}
use Rattle.hr_history.specs.declared.job.Job.TheVariants as job
use Rattle.hr_history.specs.declared.job.JobReply.{JobReply}
use Rattle.hr_history.specs.declared.job.JobReply.TheVariants as reply
use Rattle.hr_history.specs.Replicas.{out_at, journal_of, call_of, stmt_at}
use Rattle.hr_history.specs.Faithful.{replica_caller, fits_job}
use Rattle.hr_history.proofs.CanonicalLemmas.{canonical_exact}
use Rattle.hr_history.specs.View.{View}
use Rattle.hr_history.specs.Processed.{replica_in}
use Rattle.hr_ledger.specs.Chronicle.{Chronicle, history_in, view_in}
use Rattle.hr_shepherd.proofs.Lent.{out_here}
use Rattle.hr_core.specs.Turns.{HasTurn}
use Rattle.hr_schedule.specs.Choices.{Replies, GiveReply}
use Rattle.hr_driver.specs.Made.{Made, Replied}
use Rattle.hr_driver.proofs.CallLemmas.{tries_over}
use Rattle.hr_driver.proofs.TurnParts.{after_give, beside_give, after_restart, beside_restart}

-- what a backend answers to a run fits the run
pub fits_run : (told : RunReply) (t i : ℕ) → AnswersCanonically told → fits_job (reply.Ran told) (Some (job.Run t i)) ≡ true
fits_run (run.Done a) t i canonical = (canonical_exact a).1 canonical
fits_run (run.Blocked named) t i canonical = refl
fits_run (run.Deadlock cycle) t i canonical = refl
fits_run run.Lost t i canonical = refl
fits_run run.NoMemory t i canonical = refl

module _ (was stands : Standing) (r : ℕ) (c d : Chronicle) where
  replied_by : (told : JobReply) (j : Job) (call : Call) → Extends was stands call → HasTurn (replica_caller r) (event.Give r told) c d → out_at r (history_in c) ≡ Some j
      → call_of (Some j) told (stmt_at (history_in c)) ≡ Some call → Replied was stands r c d
  replied_by told j call extends turn out is = record {
    event = event.Give r told;
    is_reply = refl;
    turn = turn;
    own = λ db stood. subst (stands db) (sym (after_give c d r told j call turn out is)) (extends db (journal_of r (history_in c)) stood);
    others = beside_give c d r told turn;
    tries = λ n q. tries_over c.f (replica_caller r) (event.Give r told) (history_in c) (history_in d) turn.turn n q;
  }

  pub replied : (told : JobReply) (j : Job) (call : Call) → Extends was stands call → (n : ℕ) → n ≡ r → HasTurn (n + 1) (event.Give r told) c d → out_at r (history_in c) ≡ Some j
      → call_of (Some j) told (stmt_at (history_in c)) ≡ Some call → Replied was stands r c d
  replied told j call extends n same has out is = replied_by told j call extends (subst (λ m. HasTurn (m + 1) (event.Give r told) c d) same has) out is

  restarted_by : (count : ℕ) → Extends was stands (Restarted (Ok count)) → HasTurn (replica_caller r) (event.Restarted r count) c d → out_at r (history_in c) ≡ Some job.Restart → Replied was stands r c d
  restarted_by count extends turn out = record {
    event = event.Restarted r count;
    is_reply = refl;
    turn = turn;
    own = λ db stood. subst (stands db) (sym (after_restart c d r count turn out)) (extends db (journal_of r (history_in c)) stood);
    others = beside_restart c d r count turn;
    tries = λ n q. tries_over c.f (replica_caller r) (event.Restarted r count) (history_in c) (history_in d) turn.turn n q;
  }

  pub restarted : (told : Result ℕ Lost) (count : ℕ) → Extends was stands (Restarted told) → told ≡ Ok count → (n : ℕ) → n ≡ r → HasTurn (n + 1) (event.Restarted r count) c d
      → out_at r (history_in c) ≡ Some job.Restart → Replied was stands r c d
  restarted told count extends is n same has out =
      restarted_by count (subst (λ (x : Result ℕ Lost). Extends was stands (Restarted x)) is extends) (subst (λ m. HasTurn (m + 1) (event.Restarted r count) c d) same has) out

  pub still_lost : (told : Result ℕ Lost) (why : Lost) → Extends was stands (Restarted told) → told ≡ Err why → (n : ℕ) → n ≡ r → HasTurn (n + 1) (event.Give r reply.StillLost) c d
      → out_at r (history_in c) ≡ Some job.Restart → Replied was stands r c d
  still_lost told why extends is n same has out =
      replied reply.StillLost job.Restart (Restarted (Err why)) (subst (λ (x : Result ℕ Lost). Extends was stands (Restarted x)) is extends) n same has out refl

  pub made_by : (j : Job) → out_at r (history_in c) ≡ Some j → Replied was stands r c d → Made (GiveReply c.f r) c d
  made_by j out made = record {
    size = made.turn.size;
    made = subst (λ (o : Option Job). Replies c.f r o (history_in c) (history_in d)) (sym out) (made.event, made.is_reply, made.turn.turn);
  }

-- no job is out, and nothing happens
pub unmade : (r : ℕ) (c : Chronicle) → out_at r (history_in c) ≡ None → Made (GiveReply c.f r) c c
unmade r c out = record {
  size = record { f = refl; sessions = refl };
  made = subst (λ (o : Option Job). Replies c.f r o (history_in c) (history_in c)) (sym out) refl;
}

-- the job that is out, as the view shows it
pub out_seen : (s : Chronicle) (r : ℕ) (v : View) (o j : Option Job) → r ≤ 2 * s.f → v ≡ view_in s → o ≡ (replica_in v r).out → o ≡ j → out_at r (history_in s) ≡ j
out_seen s r v o j near seen is_out is = sym (out_here s r near) ∙ sym (ap (λ (w : View). (replica_in w r).out) seen) ∙ sym is_out ∙ is
