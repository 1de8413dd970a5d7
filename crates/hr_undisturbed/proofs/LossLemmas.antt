-- A replica whose journal is exact never tells that it is lost.
use Rattle.std.proofs.Common.{◌≡◌, ℕ, ◌*◌, ◌<◌, Bool, true, false, ◌&&◌, ◌==◌, Option, Some, None, [], ◌∷◌, refl, ap, sym, ◌∙◌, subst, arith}
use Rattle.std.proofs.lemmas.Bool.{eqb-true, ne_eqb}
use Rattle.hr_base.proofs.Tests.{and_false}
use Rattle.hr_rel.specs.declared.stmt.Stmt.{Stmt}
use Rattle.hr_engine.specs.declared.reply.RunReply.TheVariants as run
use Rattle.hr_engine.specs.declared.reply.EndReply.TheVariants as end
use Rattle.hr_engine.specs.Journal.{Call, Journal}
use Rattle.hr_engine.specs.Exact.{Exact}
use Rattle.hr_history.specs.declared.entry.Event.{Event}
use Rattle.hr_history.specs.declared.entry.Event.TheVariants as event
use Rattle.hr_history.specs.declared.job.Job.{Job}
use Rattle.hr_history.specs.declared.job.Job.TheVariants as job
use Rattle.hr_history.specs.declared.job.JobReply.{JobReply}
use Rattle.hr_history.specs.declared.job.JobReply.TheVariants as reply
use Rattle.hr_history.specs.History.{History}
use Rattle.hr_history.specs.Replicas.{out_at, journal_of, stmt_at, call_at, call_of, call_if, next_journal, tells_loss}
use Rattle.hr_history.specs.Faithful.{Begun, fits_job}
use Rattle.hr_history.proofs.StepLemmas.{call_allowed}
use Rattle.hr_records.proofs.Allowed.{give_allowed, ran_out}
use Rattle.hr_records.proofs.RuleLemmas.{begun_before}
use Rattle.hr_complete.specs.Undisturbed.{is_loss_of, HasNone}
use Rattle.hr_schedule.specs.Claims.{Conflict}

module _ (conflict : Conflict) where
  exact_before : (call : Option Call) (j : Journal) → Exact conflict (next_journal call j) → Exact conflict j
  exact_before None j exact = exact
  exact_before (Some call) j exact = exact.0

  -- an exact reply to the job that is out tells of no loss
  no_loss : (out : Option Job) (told : JobReply) (stmt : ℕ → ℕ → Stmt) (j : Journal) → fits_job told out ≡ true → Exact conflict (next_journal (call_of out told stmt) j) → tells_loss told ≡ false
  no_loss out (reply.Ran (run.Done answer)) stmt j fits exact = refl
  no_loss out (reply.Ran (run.Blocked named)) stmt j fits exact = refl
  no_loss out (reply.Ran (run.Deadlock cycle)) stmt j fits exact = refl
  no_loss out (reply.Ran run.NoMemory) stmt j fits exact = refl
  no_loss out (reply.Ran run.Lost) stmt j fits exact =
      let of_run = ran_out run.Lost out fits in
      let now : Exact conflict (next_journal (call_of (Some (job.Run of_run.0 of_run.1)) (reply.Ran run.Lost) stmt) j) = subst (λ o. Exact conflict (next_journal (call_of o (reply.Ran run.Lost) stmt) j)) of_run.2 exact in
      absurd now.1
  no_loss out (reply.Ended end.Done) stmt j fits exact = refl
  no_loss None (reply.Ended end.Lost) stmt j fits exact = cc
  no_loss (Some (job.Run t i)) (reply.Ended end.Lost) stmt j fits exact = cc
  no_loss (Some (job.Commit t)) (reply.Ended end.Lost) stmt j fits exact = absurd exact.1
  no_loss (Some (job.Rollback t)) (reply.Ended end.Lost) stmt j fits exact = absurd exact.1
  no_loss (Some job.Restart) (reply.Ended end.Lost) stmt j fits exact = cc
  no_loss None reply.StillLost stmt j fits exact = cc
  no_loss (Some (job.Run t i)) reply.StillLost stmt j fits exact = cc
  no_loss (Some (job.Commit t)) reply.StillLost stmt j fits exact = cc
  no_loss (Some (job.Rollback t)) reply.StillLost stmt j fits exact = cc
  no_loss (Some job.Restart) reply.StillLost stmt j fits exact = absurd exact.1

  module _ (f s c r : ℕ) (h : History) where
    given : (q : ℕ) (told : JobReply) → Begun f s (record { caller = c; event = event.Give q told } ∷ h) → Exact conflict (journal_of r (record { caller = c; event = event.Give q told } ∷ h)) → (tells_loss told && (q == r)) ≡ false
    given q told b exact = by_test (q == r) refl
      where
        fits : fits_job told (out_at q h) ≡ true
        fits = (give_allowed f s c h q told (call_allowed f s record { caller = c; event = event.Give q told } h b refl)).1

        by_test : (mine : Bool) → (q == r) ≡ mine → (tells_loss told && (q == r)) ≡ false
        by_test false e = and_false (tells_loss told) (q == r) e
        by_test true e =
            let its : Exact conflict (next_journal (call_of (out_at r h) told (stmt_at h)) (journal_of r h)) = subst (λ b. Exact conflict (next_journal (call_if b r told (λ p. out_at p h) (stmt_at h)) (journal_of r h))) e exact in
            ap (λ b. b && (q == r)) (no_loss (out_at r h) told (stmt_at h) (journal_of r h) (ap (λ p. fits_job told (out_at p h)) (sym (eqb-true q r e)) ∙ fits) its)

    no_loss_by : (e : Event) → Begun f s (record { caller = c; event = e } ∷ h) → Exact conflict (journal_of r (record { caller = c; event = e } ∷ h)) → is_loss_of r e ≡ false
    no_loss_by (event.Give q told) b exact = given q told b exact
    no_loss_by _ b exact = refl

  pub never_lost : (f s r : ℕ) (h : History) → Begun f s h → Exact conflict (journal_of r h) → HasNone (is_loss_of r) h
  never_lost f s r [] b exact = tt
  never_lost f s r (e ∷ h) b exact =
      (never_lost f s r h (begun_before f s e h b) (exact_before (call_at r e.event h) (journal_of r h) exact), no_loss_by f s e.caller r h e.event b exact)

-- there is no replica with such a number
no_loss_outside : (f s c r : ℕ) (e : Event) (h : History) → 2 * f < r → Begun f s (record { caller = c; event = e } ∷ h) → is_loss_of r e ≡ false
no_loss_outside f s c r (event.Give q told) h outside b =
    let within = (give_allowed f s c h q told (call_allowed f s record { caller = c; event = event.Give q told } h b refl)).0 in
    and_false (tells_loss told) (q == r) (ne_eqb q r (λ same. absurd (omega (arith, outside, within, same))))
no_loss_outside f s c r _ h outside b = refl

pub none_outside : (f s r : ℕ) (h : History) → 2 * f < r → Begun f s h → HasNone (is_loss_of r) h
none_outside f s r [] outside b = tt
none_outside f s r (e ∷ h) outside b = (none_outside f s r h outside (begun_before f s e h b), no_loss_outside f s e.caller r e.event h outside b)
