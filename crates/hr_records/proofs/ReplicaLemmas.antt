-- What every history keeps of each replica's part, entry by entry.
use Rattle.std.proofs.Common.{◌≡◌, ◌⊎◌, inl, inr, ℕ, suc, ◌+◌, ◌*◌, ◌<◌, Bool, true, false, ◌==◌, if◌then◌else◌, Option, Some, None, unwrap_or, slice_get, [], ◌∷◌, ◌++◌, length, refl, ap, sym, ◌∙◌, subst, arith, append-nil}
use Rattle.std.proofs.lemmas.Bool.{eqb-true}
use Rattle.hr_base.specs.Lists.{numbered}
use Rattle.hr_rel.specs.declared.stmt.Stmt.{Stmt}
use Rattle.hr_engine.specs.declared.reply.EndReply.{EndReply}
use Rattle.hr_engine.specs.Journal.{Journal}
use Rattle.hr_engine.specs.Attempts.{attempt}
use Rattle.hr_engine.specs.Base.{settled, count}
use Rattle.hr_history.specs.declared.entry.Event.TheVariants as event
use Rattle.hr_history.specs.declared.job.Job.{Job}
use Rattle.hr_history.specs.declared.job.Job.TheVariants as job
use Rattle.hr_history.specs.declared.job.JobReply.{JobReply}
use Rattle.hr_history.specs.declared.job.JobReply.TheVariants as reply
use Rattle.hr_history.specs.History.{History}
use Rattle.hr_history.specs.Transactions.{begun, log, submits, phase_of, is_open}
use Rattle.hr_history.specs.Replicas.{out_at, stmt_at, call_of, call_if, restart_of, restart_if, next_journal, journal_of}
use Rattle.hr_history.specs.View.{view_of}
use Rattle.hr_history.specs.Faithful.{fits_job}
use Rattle.hr_records.specs.ByRule.{IsJobOf}
use Rattle.hr_records.specs.AtReplica.{Begins, AtReplica, AtReplicaAt}
use Rattle.hr_records.specs.Kept.{Kept}
use Rattle.hr_records.proofs.Places.{if_other}
use Rattle.hr_records.proofs.NumberSteps.{open_unlogged}
use Rattle.hr_records.proofs.NumberLemmas.{submits_at_begin}
use Rattle.hr_records.proofs.Allowed.{GoesOn, ran_out}
use Rattle.hr_records.proofs.JobWords.{RunTaken, run_taken, commit_taken, rollback_taken, lost_taken}
use Rattle.hr_records.proofs.ReplicaSteps.{grown, decides, takes, told_run, told_commit, told_rollback, still_lost, is_restarted}

-- a commit or a rollback is replied to
pub ended_out : (x : EndReply) (o : Option Job) → fits_job (reply.Ended x) o ≡ true → (t : ℕ) × ((o ≡ Some (job.Commit t)) ⊎ (o ≡ Some (job.Rollback t)))
ended_out x (Some (job.Run t i)) a = cc
ended_out x (Some (job.Commit t)) a = (t, inl refl)
ended_out x (Some (job.Rollback t)) a = (t, inr refl)
ended_out x (Some job.Restart) a = cc
ended_out x None a = cc

-- a restart is
pub still_out : (o : Option Job) → fits_job reply.StillLost o ≡ true → o ≡ Some job.Restart
still_out (Some (job.Run t i)) a = cc
still_out (Some (job.Commit t)) a = cc
still_out (Some (job.Rollback t)) a = cc
still_out (Some job.Restart) a = refl
still_out None a = cc

stmt_same : (o : Option Stmt) (d : Stmt) → unwrap_or o d ≡ unwrap_or o (unwrap_or o d)
stmt_same None d = refl
stmt_same (Some s) d = refl

module _ (h : History) (k : Kept h) (r : ℕ) where
  abbrev J : Journal
  J = journal_of r h

  its : AtReplicaAt r h
  its = k.replicas r

  pub part_at_begin : (c session txn : ℕ) → txn ≡ length (begun h) + 1 → AtReplicaAt r (record { caller = c; event = event.Begin session txn } ∷ h)
  part_at_begin c session txn next =
      let path : (λ t. submits t h) ≡ (λ t. if txn == t then [] else submits t h) = λ i t. sym (submits_at_begin h k.numbers txn next t) i in
      subst (λ s. AtReplica s (log h) (out_at r h) (journal_of r h)) path its

  unlogged : (txn i t : ℕ) → is_open (phase_of txn h) ≡ true → slice_get (log h) i ≡ Some t → txn ≡ t → ⊥
  unlogged txn i t o at same = open_unlogged (phase_of txn h) (suc i) o (ap (λ u. phase_of u h) same ∙ (k.numbers.logged t (suc i)).1 at)

  pub part_at_submit : (c txn index : ℕ) (stmt : Stmt) → GoesOn txn h → AtReplicaAt r (record { caller = c; event = event.Submit txn index stmt } ∷ h)
  part_at_submit c txn index stmt on =
      grown its (λ t. if txn == t then submits t h ++ stmt ∷ [] else submits t h)
      (λ t. longer (txn == t) t) (λ i t at. sym (if_other txn t _ (submits t h) (unlogged txn i t on.is_open at)))
    where
      longer : (b : Bool) (t : ℕ) → Begins (submits t h) (if b then submits t h ++ stmt ∷ [] else submits t h)
      longer true t = (stmt ∷ [], refl)
      longer false t = ([], append-nil (submits t h))

  pub part_at_decide : (c txn : ℕ) → AtReplicaAt r (record { caller = c; event = event.Decide txn } ∷ h)
  part_at_decide c txn = decides its txn

  module _ (f : ℕ) where
    pub part_at_take : (c q : ℕ) (j : Job) → q < 2 * f + 1 → IsJobOf (view_of f h) q j → AtReplicaAt r (record { caller = c; event = event.Take q j } ∷ h)
    part_at_take c q j lt is = by_test (q == r) refl
      where
        index : (t i : ℕ) → q ≡ r → RunTaken q t i h → i ≡ length (attempt t J) + 1
        index t i same run = elim run.place [
          | inl first ↦ (let l = (k.leads r).leads (first.0 ∙ ap Some same) t first.1 in omega (arith, first.2, l.0))
          | inr later ↦ (later.0 ∙ ap (λ p. length (attempt t (journal_of p h)) + 1) same)
        ]

        of_job : q ≡ r → AtReplica (λ t. submits t h) (log h) (Some j) J
        of_job same =
            takes its j
            (λ t i e. index t i same (run_taken f q h lt t i k.numbers (subst (IsJobOf (view_of f h) q) e is)))
            (λ t e. (let c = commit_taken f q h lt t k.numbers (subst (IsJobOf (view_of f h) q) e is) in
            (subst (λ p. slice_get (log h) (count (journal_of p h)) ≡ Some t) same c.next, subst (λ p. length (attempt t (journal_of p h)) ≡ length (submits t h)) same c.whole)))
            (λ other. subst (λ p. (settled (journal_of p h)).lost ≡ false) same (live_taken j is other))
            (λ e. subst (λ p. (settled (journal_of p h)).lost ≡ true) same (lost_taken f q h lt (subst (IsJobOf (view_of f h) q) e is)))
          where
            live_taken : (x : Job) → IsJobOf (view_of f h) q x → (x ≡ job.Restart → ⊥) → (settled (journal_of q h)).lost ≡ false
            live_taken (job.Run t i) is other = (run_taken f q h lt t i k.numbers is).live
            live_taken (job.Commit t) is other = (commit_taken f q h lt t k.numbers is).live
            live_taken (job.Rollback t) is other = (rollback_taken f q h lt t is).live
            live_taken job.Restart is other = absurd (other refl)

        by_test : (b : Bool) → (q == r) ≡ b → AtReplica (λ t. submits t h) (log h) (if b then Some j else out_at r h) J
        by_test true e = of_job (eqb-true q r e)
        by_test false e = its

  told_now : (told : JobReply) → fits_job told (out_at r h) ≡ true → AtReplica (λ t. submits t h) (log h) None (next_journal (call_of (out_at r h) told (stmt_at h)) J)
  told_now (reply.Ran x) fits =
      let o = ran_out x (out_at r h) fits in
      let t = o.0 in
      let i = o.1 in
      let run = k.numbers.runs r t i o.2 in
      subst (λ p. AtReplica (λ u. submits u h) (log h) None (next_journal (call_of p (reply.Ran x) (stmt_at h)) J)) (sym o.2)
      (told_run its t i o.2 run.1 (stmt_at h t i) (stmt_same (numbered (submits t h) i) _) x)
  told_now (reply.Ended x) fits =
      let o = ended_out x (out_at r h) fits in
      elim o.1 [
        | inl commit ↦ subst (λ p. AtReplica (λ u. submits u h) (log h) None (next_journal (call_of p (reply.Ended x) (stmt_at h)) J)) (sym commit) (told_commit its o.0 commit x)
        | inr rollback ↦ subst (λ p. AtReplica (λ u. submits u h) (log h) None (next_journal (call_of p (reply.Ended x) (stmt_at h)) J)) (sym rollback) (told_rollback its o.0 x)
      ]
  told_now reply.StillLost fits =
      subst (λ p. AtReplica (λ u. submits u h) (log h) None (next_journal (call_of p reply.StillLost (stmt_at h)) J)) (sym (still_out (out_at r h) fits))
      (still_lost its record {})

  pub part_at_give : (c q : ℕ) (told : JobReply) → fits_job told (out_at q h) ≡ true → AtReplicaAt r (record { caller = c; event = event.Give q told } ∷ h)
  part_at_give c q told fits = by_test (q == r) refl
    where
      by_test : (b : Bool) → (q == r) ≡ b → AtReplica (λ t. submits t h) (log h) (if b then None else out_at r h) (next_journal (call_if b r told (λ p. out_at p h) (stmt_at h)) J)
      by_test true e = told_now told (subst (λ p. fits_job told (out_at p h) ≡ true) (eqb-true q r e) fits)
      by_test false e = its

  pub part_at_restarted : (c q n : ℕ) → out_at q h ≡ Some job.Restart → AtReplicaAt r (record { caller = c; event = event.Restarted q n } ∷ h)
  part_at_restarted c q n out = by_test (q == r) refl
    where
      by_test : (b : Bool) → (q == r) ≡ b → AtReplica (λ t. submits t h) (log h) (if b then None else out_at r h) (next_journal (restart_if b r n (λ p. out_at p h)) J)
      by_test true e =
          subst (λ o. AtReplica (λ u. submits u h) (log h) None (next_journal (restart_of o n) J)) (sym (subst (λ p. out_at p h ≡ Some job.Restart) (eqb-true q r e) out))
          (is_restarted its n)
      by_test false e = its
