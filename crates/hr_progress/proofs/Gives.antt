-- What a reply finds, and what it leaves.
use Rattle.std.proofs.Common.{◌≡◌, ℕ, ◌≤◌, Bool, true, false, ◌||◌, nat_eq, cond, Option, Some, None, List, [], ◌∷◌, map, length, refl, ap, sym, ◌∙◌, subst, arith, IsTrue}
use Rattle.std.specs.Map.{lookup}
use Rattle.std.proofs.lemmas.Bool.{eqb-true}
use Rattle.std.proofs.lemmas.List.{length-map}
use Rattle.hr_base.specs.Lists.{has}
use Rattle.hr_base.proofs.Tests.{eq_turn}
use Rattle.hr_engine.specs.declared.reply.RunReply.{RunReply}
use Rattle.hr_engine.specs.declared.reply.RunReply.TheVariants as run
use Rattle.hr_engine.specs.declared.reply.EndReply.{EndReply}
use Rattle.hr_engine.specs.declared.reply.EndReply.TheVariants as end
use Rattle.hr_history.specs.declared.entry.Event.TheVariants as event
use Rattle.hr_history.specs.declared.job.Job.{Job}
use Rattle.hr_history.specs.declared.job.Job.TheVariants as job
use Rattle.hr_history.specs.declared.job.JobReply.{JobReply}
use Rattle.hr_history.specs.declared.job.JobReply.TheVariants as reply
use Rattle.hr_history.specs.Faithful.{fits_job}
use Rattle.hr_history.specs.View.{View, Progress}
use Rattle.hr_history.specs.Processed.{txn_in, replica_in, runs_in}
use Rattle.hr_moves.specs.Kept.{and_in_order, without}
use Rattle.hr_moves.specs.Sane.{IsSane, IsReplica, HasEntry, MayBeOut}
use Rattle.hr_moves.specs.Moves.{after_give, after_run, after_waits}
use Rattle.hr_progress.specs.Plain.{PlainAttempt, PlainProgress, PlainTxn, PlainView, key, plain_replica_in, to_waiting, with_waiting, with_loss, with_ended, with_commit, with_entry}
use Rattle.hr_progress.specs.Seen.{runs_since, waits_in, seen_txn, seen_plain}
use Rattle.hr_progress.specs.Kept.{is_run, is_run_of, is_wait, IsCounted, ArePlaces, recounted, touched_of}
use Rattle.hr_progress.proofs.Attempted.{touched_more, touched_less, touched_gone}
use Rattle.hr_progress.proofs.Attempts.{processed_entry}
use Rattle.hr_progress.proofs.Parts.{replica_seen}
use Rattle.hr_progress.proofs.Rests.{runs_seen, first_of}
use Rattle.hr_progress.proofs.Sanes.{sane_after}
use Rattle.hr_progress.proofs.Words.{entries_seen}

no : {b : Bool} → b ≡ true → b ≡ false → ⊥
no e d = cc

-- the view after a reply to the job that was out is sane
pub gives_sane : (v : View) (place r : ℕ) (o : Option Job) (told : JobReply) → IsSane v → IsReplica v r → (replica_in v r).out ≡ o → fits_job told o ≡ true → IsSane (after_give v place r o told)
gives_sane v place r o told sane known out fits =
    subst (λ x. IsSane (after_give v place r x told)) out (sane_after v place 0 (event.Give r told) sane (known, subst (λ x. IsTrue (fits_job told x)) (sym out) fits))

pub run_is : (t : ℕ) (o : Option Job) → is_run_of t o ≡ true → (i : ℕ) × (o ≡ Some (job.Run t i))
run_is t (Some (job.Run u i)) e = (i, ap (λ k. Some (job.Run k i)) (eqb-true u t e))
run_is t None e = absurd (no e refl)
run_is t (Some (job.Commit u)) e = absurd (no e refl)
run_is t (Some (job.Rollback u)) e = absurd (no e refl)
run_is t (Some job.Restart) e = absurd (no e refl)

pub runs : (t : ℕ) (o : Option Job) → is_run_of t o ≡ true → is_run o ≡ true
runs t o e = ap is_run (run_is t o e).1

pub waits_are : (v : View) (place r t i : ℕ) (told : RunReply) → is_wait (Some told) ≡ true → after_run v place r t i told ≡ after_waits v r t told (waits_in (Some told))
waits_are v place r t i (run.Blocked named) e = refl
waits_are v place r t i (run.Deadlock cycle) e = refl
waits_are v place r t i (run.Done answer) e = absurd (no e refl)
waits_are v place r t i run.Lost e = absurd (no e refl)
waits_are v place r t i run.NoMemory e = absurd (no e refl)

pub waits_fit : (t i : ℕ) (told : RunReply) → is_wait (Some told) ≡ true → fits_job (reply.Ran told) (Some (job.Run t i)) ≡ true
waits_fit t i (run.Blocked named) e = refl
waits_fit t i (run.Deadlock cycle) e = refl
waits_fit t i (run.Done answer) e = absurd (no e refl)
waits_fit t i run.Lost e = absurd (no e refl)
waits_fit t i run.NoMemory e = absurd (no e refl)

-- an entry that is there is found
found_by : (b : Bool) (t : ℕ) (e : ℕ × PlainAttempt) (es : List (ℕ × PlainAttempt)) → nat_eq t e.0 ≡ b → (has (map key es) t ≡ true → (a : PlainAttempt) × (lookup (nat_eq t) es ≡ Some a)) → (nat_eq e.0 t || has (map key es) t) ≡ true
    → (a : PlainAttempt) × (cond b (Some e.1) (lookup (nat_eq t) es) ≡ Some a)
found_by true t e es same more h = (e.1, refl)
found_by false t e es same more h = more (sym (ap (λ c. c || has (map key es) t) (eq_turn e.0 t ∙ same)) ∙ h)

pub found_entry : (t : ℕ) (es : List (ℕ × PlainAttempt)) → has (map key es) t ≡ true → (a : PlainAttempt) × (lookup (nat_eq t) es ≡ Some a)
found_entry t [] h = absurd (no h refl)
found_entry t (e ∷ es) h = found_by (nat_eq t e.0) t e es refl (λ d. found_entry t es d) h

module _ (p : PlainView) (sane : IsSane (seen_plain p)) (r : ℕ) where
  abbrev its : PlainProgress
  its = plain_replica_in p.replicas r

  pub out_seen : (replica_in (seen_plain p) r).out ≡ its.out
  out_seen = ap (λ (x : Progress). x.out) (replica_seen p r)

  may_be_out : (j : Job) → its.out ≡ Some j → MayBeOut (seen_plain p) r j
  may_be_out j out = sane.out r j (out_seen ∙ out)

  pub entry_at : (t : ℕ) → HasEntry (seen_plain p) r t → (a : PlainAttempt) × (lookup (nat_eq t) its.attempts ≡ Some a)
  entry_at t h = found_entry t its.attempts (sym (ap (λ ks. has ks t) (entries_seen p r)) ∙ h)

  pub known_long : (t : ℕ) → HasEntry (seen_plain p) r t → t ≤ length p.txns
  known_long t h = omega (arith, (sane.known r t h).1, length-map p.txns (seen_txn p.replies))

  -- t is told of waits, or answered, there
  module _ (t i : ℕ) (out : its.out ≡ Some (job.Run t i)) where
    pub has_entry : HasEntry (seen_plain p) r t
    has_entry = (may_be_out (job.Run t i) out).1

    pub few_enough : i ≤ (txn_in (seen_plain p) t).statements
    few_enough = (may_be_out (job.Run t i) out).3

    pub marked : (h : PlainAttempt → PlainAttempt) → ((a : PlainAttempt) → (h a).touched ≡ true) → IsCounted p.txns p.log its → and_in_order t its.touched ≡ touched_of (length p.txns) (with_entry t h its.attempts)
    marked h marks counted =
        let found = entry_at t has_entry in
        ap (and_in_order t) counted.touched ∙ touched_more t (length p.txns) h its.attempts found.0 found.1 marks (sane.known r t has_entry).0 (known_long t has_entry)

    pub counted_waiting : (place : ℕ) → IsCounted p.txns p.log its → IsCounted p.txns p.log (with_waiting t place its)
    counted_waiting place counted = record {
      touched = marked (to_waiting place) (λ a. refl) counted;
      processed = counted.processed ∙ processed_entry t (to_waiting place) (λ a. refl) p.txns p.log its.position its.attempts;
    }

pub counted_loss : (txns : List PlainTxn) (log : List ℕ) (in_doubt : Bool) (q : PlainProgress) → IsCounted txns log (recounted txns log (with_loss in_doubt q))
counted_loss txns log in_doubt q = record { touched = touched_gone (length txns) q.attempts; processed = refl }

pub counted_ended : (txns : List PlainTxn) (log : List ℕ) (t : ℕ) (q : PlainProgress) → IsCounted txns log q → IsCounted txns log (recounted txns log (with_ended t q))
counted_ended txns log t q counted = record { touched = ap (without t) counted.touched ∙ touched_less t (length txns) q.attempts; processed = refl }

pub counted_commit : (txns : List PlainTxn) (log : List ℕ) (t : ℕ) (q : PlainProgress) → IsCounted txns log q → IsCounted txns log (recounted txns log (with_commit t q))
counted_commit txns log t q counted = record { touched = ap (without t) counted.touched ∙ touched_less t (length txns) q.attempts; processed = refl }

-- who runs since an earlier reply runs
pub since_runs : (p : PlainView) (places : ArePlaces p) (r place u : ℕ) → runs_since (plain_replica_in p.replicas r).attempts place u ≡ true → runs_in (seen_plain p) r u ≡ true
since_runs p places r place u h = runs_seen p places r u ∙ first_of _ _ h

-- ---- which job was out

pub still_out : (o : Option Job) → fits_job reply.StillLost o ≡ true → o ≡ Some job.Restart
still_out (Some job.Restart) e = refl
still_out None e = cc
still_out (Some (job.Run t i)) e = cc
still_out (Some (job.Commit t)) e = cc
still_out (Some (job.Rollback t)) e = cc

-- where a reply to an end stands in the history doesn't matter
pub anywhere : (v : View) (m n r : ℕ) (o : Option Job) (told : EndReply) → after_give v m r o (reply.Ended told) ≡ after_give v n r o (reply.Ended told)
anywhere v m n r (Some (job.Commit t)) end.Done = refl
anywhere v m n r (Some (job.Commit t)) end.Lost = refl
anywhere v m n r (Some (job.Rollback t)) end.Done = refl
anywhere v m n r (Some (job.Rollback t)) end.Lost = refl
anywhere v m n r (Some (job.Run t i)) told = refl
anywhere v m n r (Some job.Restart) told = refl
anywhere v m n r None told = refl
