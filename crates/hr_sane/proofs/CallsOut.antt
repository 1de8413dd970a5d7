-- The call that an event tells is that of the job that is out.
use Rattle.std.proofs.Common.{◌≡◌, ℕ, Bool, true, false, ◌==◌, if◌then◌else◌, Option, Some, None, refl, ap, subst}
use Rattle.hr_rel.specs.declared.stmt.Stmt.{Stmt}
use Rattle.hr_engine.specs.Journal.{Call, Ran, Committed, RolledBack, Restarted}
use Rattle.hr_history.specs.declared.entry.Event.{Event}
use Rattle.hr_history.specs.declared.entry.Event.TheVariants as event
use Rattle.hr_history.specs.declared.job.Job.{Job}
use Rattle.hr_history.specs.declared.job.Job.TheVariants as job
use Rattle.hr_history.specs.declared.job.JobReply.{JobReply}
use Rattle.hr_history.specs.declared.job.JobReply.TheVariants as reply
use Rattle.hr_history.specs.Replicas.{any_stmt, next_out, call_of, call_if, restart_of, restart_if}
use Rattle.hr_history.specs.View.{View}
use Rattle.hr_history.specs.Step.{out_in, call_in}
use Rattle.hr_records.proofs.Options.{same_some}

-- a call of the job's kind, and of its transaction
abbrev pub IsCallOf : Job → Call → Type 0
IsCallOf (job.Run t i) (Ran u stmt told) = t ≡ u
IsCallOf (job.Commit t) (Committed u told) = t ≡ u
IsCallOf (job.Rollback t) (RolledBack u told) = t ≡ u
IsCallOf job.Restart (Restarted told) = Unit {0}
IsCallOf _ _ = ⊥

-- The job that was out, and is out no more.
pub record IsReplied (v : View) (r : ℕ) (e : Event) (c : Call) : Type 0 where
  pub job : Job
  pub out : out_in v r ≡ Some job
  pub its : IsCallOf job c
  pub free : next_out r e (out_in v r) ≡ None

by_reply : (o : Option Job) (told : JobReply) (stmt : ℕ → ℕ → Stmt) (c : Call) → call_of o told stmt ≡ Some c → (j : Job) × (o ≡ Some j) × IsCallOf j c
by_reply (Some (job.Run t i)) (reply.Ran told) stmt c e = (job.Run t i, refl, subst (IsCallOf (job.Run t i)) (same_some _ c e) refl)
by_reply (Some (job.Commit t)) (reply.Ended told) stmt c e = (job.Commit t, refl, subst (IsCallOf (job.Commit t)) (same_some _ c e) refl)
by_reply (Some (job.Rollback t)) (reply.Ended told) stmt c e = (job.Rollback t, refl, subst (IsCallOf (job.Rollback t)) (same_some _ c e) refl)
by_reply (Some job.Restart) reply.StillLost stmt c e = (job.Restart, refl, subst (IsCallOf job.Restart) (same_some _ c e) tt)
by_reply _ _ stmt c e = cc

by_restart : (o : Option Job) (count : ℕ) (c : Call) → restart_of o count ≡ Some c → (j : Job) × (o ≡ Some j) × IsCallOf j c
by_restart (Some job.Restart) count c e = (job.Restart, refl, subst (IsCallOf job.Restart) (same_some _ c e) tt)
by_restart _ count c e = cc

module _ (v : View) (r : ℕ) (c : Call) where
  reply_if : (b : Bool) (q : ℕ) (told : JobReply) → (q == r) ≡ b → call_if b r told (out_in v) (λ t i. any_stmt) ≡ Some c → IsReplied v r (event.Give q told) c
  reply_if true q told e d =
      let it = by_reply (out_in v r) told (λ t i. any_stmt) c d in
      record { job = it.0; out = it.1; its = it.2; free = ap (λ b. if b then None else out_in v r) e }
  reply_if false q told e d = cc d

  restart_by : (b : Bool) (q count : ℕ) → (q == r) ≡ b → restart_if b r count (out_in v) ≡ Some c → IsReplied v r (event.Restarted q count) c
  restart_by true q count e d =
      let it = by_restart (out_in v r) count c d in
      record { job = it.0; out = it.1; its = it.2; free = ap (λ b. if b then None else out_in v r) e }
  restart_by false q count e d = cc d

  pub replied : (e : Event) → call_in v r e ≡ Some c → IsReplied v r e c
  replied (event.Give q told) d = reply_if (q == r) q told refl d
  replied (event.Restarted q count) d = restart_by (q == r) q count refl d
  replied _ d = cc d
