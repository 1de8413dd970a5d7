-- What leaves a replica's part as it was.
use Rattle.std.proofs.Common.{◌≡◌, ℕ, ◌*◌, Bool, true, false, ◌==◌, nat_le, Some, None, List, [], ◌∷◌, ◌++◌, refl, ap, ◌∙◌}
use Rattle.std.proofs.lemmas.Bool.{and_parts, eqb-true}
use Rattle.hr_base.proofs.Tests.{if_false}
use Rattle.hr_history.specs.declared.entry.Entry.{Entry}
use Rattle.hr_history.specs.declared.entry.Event.{Event}
use Rattle.hr_history.specs.declared.entry.Event.TheVariants as event
use Rattle.hr_history.specs.declared.job.Job.{Job}
use Rattle.hr_history.specs.declared.job.JobReply.{JobReply}
use Rattle.hr_history.specs.History.{History, is_call}
use Rattle.hr_history.specs.Replicas.{out_at, journal_of, stmt_at, call_if, restart_if, next_journal}
use Rattle.hr_history.specs.Faithful.{Begun, is_replica, replica_caller, is_job, fits_job, is_restart}
use Rattle.hr_history.specs.View.{view_of}
use Rattle.hr_history.specs.Jobs.{job_in}
use Rattle.hr_history.proofs.StepLemmas.{call_allowed}
use Rattle.hr_records.proofs.RuleLemmas.{begun_before}
use Rattle.hr_calls.specs.Callers.{AreOfOthers, AreFollowUps, IsSamePart}

module _ (f s r c : ℕ) (h : History) (other : c ≡ replica_caller r → ⊥) where
  -- who calls for a replica is that replica, so here it is another one
  apart : (q : ℕ) (b : Bool) → (q == r) ≡ b → is_replica f c q ≡ true → (q == r) ≡ false
  apart q false e a = e
  apart q true e a = absurd (other (eqb-true c (replica_caller q) (and_parts (nat_le q (2 * f)) (c == replica_caller q) a).1 ∙ ap replica_caller (eqb-true q r e)))

  caller_of_take : (q : ℕ) (j : Job) → Begun f s (record { caller = c; event = event.Take q j } ∷ h) → (q == r) ≡ false
  caller_of_take q j begun =
      apart q (q == r) refl (and_parts (is_replica f c q) (is_job j (job_in (view_of f h) q)) (call_allowed f s record { caller = c; event = event.Take q j } h begun refl)).0

  caller_of_give : (q : ℕ) (told : JobReply) → Begun f s (record { caller = c; event = event.Give q told } ∷ h) → (q == r) ≡ false
  caller_of_give q told begun =
      apart q (q == r) refl (and_parts (is_replica f c q) (fits_job told (out_at q h)) (call_allowed f s record { caller = c; event = event.Give q told } h begun refl)).0

  caller_of_restart : (q n : ℕ) → Begun f s (record { caller = c; event = event.Restarted q n } ∷ h) → (q == r) ≡ false
  caller_of_restart q n begun =
      apart q (q == r) refl (and_parts (is_replica f c q) (is_restart (out_at q h)) (call_allowed f s record { caller = c; event = event.Restarted q n } h begun refl)).0

  not_told : (q : ℕ) (told : JobReply) → (q == r) ≡ false → next_journal (call_if (q == r) r told (λ p. out_at p h) (stmt_at h)) (journal_of r h) ≡ journal_of r h
  not_told q told e = ap (λ b. next_journal (call_if b r told (λ p. out_at p h) (stmt_at h)) (journal_of r h)) e

  not_restarted : (q n : ℕ) → (q == r) ≡ false → next_journal (restart_if (q == r) r n (λ p. out_at p h)) (journal_of r h) ≡ journal_of r h
  not_restarted q n e = ap (λ b. next_journal (restart_if b r n (λ p. out_at p h)) (journal_of r h)) e

  others_one : (e : Event) → Begun f s (record { caller = c; event = e } ∷ h) → IsSamePart r (record { caller = c; event = e } ∷ h) h
  others_one (event.Begin session txn) begun = record { job = refl; journal = refl }
  others_one (event.Submit txn index stmt) begun = record { job = refl; journal = refl }
  others_one (event.AskCommit txn) begun = record { job = refl; journal = refl }
  others_one (event.AskRollback txn) begun = record { job = refl; journal = refl }
  others_one (event.Take q j) begun = record { job = if_false (q == r) (Some j) (out_at r h) (caller_of_take q j begun); journal = refl }
  others_one (event.Give q told) begun =
      let apart = caller_of_give q told begun in
      record { job = if_false (q == r) None (out_at r h) apart; journal = not_told q told apart }
  others_one (event.Restarted q n) begun =
      let apart = caller_of_restart q n begun in
      record { job = if_false (q == r) None (out_at r h) apart; journal = not_restarted q n apart }
  others_one event.Suspect begun = record { job = refl; journal = refl }
  others_one (event.Decide txn) begun = record { job = refl; journal = refl }
  others_one (event.Refuse txn x) begun = record { job = refl; journal = refl }
  others_one (event.Convict q x) begun = record { job = refl; journal = refl }
  others_one (event.NewPrimary q) begun = record { job = refl; journal = refl }
  others_one (event.Preempt q txn) begun = record { job = refl; journal = refl }

follow_up_one : (r c : ℕ) (e : Event) (h : History) → is_call e ≡ false → IsSamePart r (record { caller = c; event = e } ∷ h) h
follow_up_one r c (event.Begin session txn) h n = cc n
follow_up_one r c (event.Submit txn index stmt) h n = cc n
follow_up_one r c (event.AskCommit txn) h n = cc n
follow_up_one r c (event.AskRollback txn) h n = cc n
follow_up_one r c (event.Take q j) h n = cc n
follow_up_one r c (event.Give q told) h n = cc n
follow_up_one r c (event.Restarted q m) h n = cc n
follow_up_one r c event.Suspect h n = cc n
follow_up_one r c (event.Decide txn) h n = record { job = refl; journal = refl }
follow_up_one r c (event.Refuse txn x) h n = record { job = refl; journal = refl }
follow_up_one r c (event.Convict q x) h n = record { job = refl; journal = refl }
follow_up_one r c (event.NewPrimary q) h n = record { job = refl; journal = refl }
follow_up_one r c (event.Preempt q txn) h n = record { job = refl; journal = refl }

then_same : (r : ℕ) (now middle before : History) → IsSamePart r now middle → IsSamePart r middle before → IsSamePart r now before
then_same r now middle before a b = record { job = a.job ∙ b.job; journal = a.journal ∙ b.journal }

pub others : (f s r : ℕ) (more : List Entry) (h : History) → Begun f s (more ++ h) → AreOfOthers (replica_caller r) more → IsSamePart r (more ++ h) h
others f s r [] h begun are = record { job = refl; journal = refl }
others f s r (e ∷ more) h begun are =
    then_same r (e ∷ more ++ h) (more ++ h) h (others_one f s r e.caller (more ++ h) are.0 e.event begun) (others f s r more h (begun_before f s e (more ++ h) begun) are.1)

pub follow_ups : (r : ℕ) (more : List Entry) (h : History) → AreFollowUps more → IsSamePart r (more ++ h) h
follow_ups r [] h are = record { job = refl; journal = refl }
follow_ups r (e ∷ more) h are = then_same r (e ∷ more ++ h) (more ++ h) h (follow_up_one r e.caller e.event (more ++ h) are.0) (follow_ups r more h are.1)
