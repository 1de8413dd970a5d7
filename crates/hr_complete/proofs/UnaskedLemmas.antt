-- The primary's Deadlock, or want of memory, is no reply to a transaction whose commit was asked for.
use Rattle.std.proofs.Common.{◌≡◌, ◌⊎◌, inl, inr, ℕ, ◌+◌, ◌≤◌, Bool, true, false, ◌==◌, if◌then◌else◌, Some, List, [], ◌∷◌, ◌++◌, length, refl, ap, sym, ◌∙◌, subst, arith}
use Rattle.std.proofs.lemmas.Bool.{false_from_ne_true}
use Rattle.hr_engine.specs.declared.reply.RunReply.{RunReply}
use Rattle.hr_history.specs.declared.cause.CauseAt.{CauseAt}
use Rattle.hr_history.specs.declared.cause.CauseAt.TheVariants as cause
use Rattle.hr_history.specs.declared.entry.Entry.{Entry}
use Rattle.hr_history.specs.declared.entry.Event.{Event}
use Rattle.hr_history.specs.declared.entry.Event.TheVariants as event
use Rattle.hr_history.specs.declared.job.Job.TheVariants as job
use Rattle.hr_history.specs.declared.job.JobReply.TheVariants as reply
use Rattle.hr_history.specs.declared.phase.Phase.{Phase}
use Rattle.hr_history.specs.declared.phase.Phase.TheVariants as phase
use Rattle.hr_history.specs.History.{History, is_call}
use Rattle.hr_history.specs.Transactions.{begun, log, submits, phase_of, is_asked}
use Rattle.hr_history.specs.Given.{given_to}
use Rattle.hr_history.specs.Faithful.{Begun}
use Rattle.hr_records.specs.Kept.{Kept}
use Rattle.hr_records.proofs.Places.{numbered_some}
use Rattle.hr_records.proofs.NumberSteps.{not_both, asked_balance}
use Rattle.hr_records.proofs.RuleLemmas.{begun_before, begun_until}
use Rattle.hr_records.proofs.KeptLemmas.{kept}
use Rattle.hr_calls.specs.Callers.{AreFollowUps}
use Rattle.hr_causes.specs.Causes.{PrimaryReplied}
use Rattle.hr_causes.proofs.ReplyLemmas.{memory_shown, deadlock_shown}
use Rattle.hr_complete.specs.Undisturbed.{IsPrimarysReply}

if_asked : (b : Bool) (p q : Phase) → is_asked p ≡ false → is_asked (if b then p else q) ≡ true → is_asked q ≡ true
if_asked true p q never a = absurd (not_both (is_asked p) a never)
if_asked false p q never a = a

-- what follows from a call asks for no commit
asked_before : (c t : ℕ) (e : Event) (h : History) → is_call e ≡ false → is_asked (phase_of t (record { caller = c; event = e } ∷ h)) ≡ true → is_asked (phase_of t h) ≡ true
asked_before c t (event.Decide u) h n a = if_asked (u == t) (phase.Logged (length (log h) + 1)) (phase_of t h) refl a
asked_before c t (event.Refuse u x) h n a = if_asked (u == t) phase.Refused (phase_of t h) refl a
asked_before c t (event.Convict r x) h n a = a
asked_before c t (event.NewPrimary r) h n a = a
asked_before c t (event.Preempt r u) h n a = a
asked_before c t (event.Begin session u) h n a = cc n
asked_before c t (event.Submit u index stmt) h n a = cc n
asked_before c t (event.AskCommit u) h n a = cc n
asked_before c t (event.AskRollback u) h n a = cc n
asked_before c t (event.Take r j) h n a = cc n
asked_before c t (event.Give r told) h n a = cc n
asked_before c t (event.Restarted r k) h n a = cc n
asked_before c t event.Suspect h n a = cc n

asked_at_call : (t : ℕ) (more : List Entry) (h : History) → AreFollowUps more → is_asked (phase_of t (more ++ h)) ≡ true → is_asked (phase_of t h) ≡ true
asked_at_call t [] h are a = a
asked_at_call t (e ∷ more) h are a = asked_at_call t more h are.1 (asked_before e.caller t e.event (more ++ h) are.0 a)

-- a run that is out at the primary is of a statement that has no answer yet
unasked_by : (f s t at r : ℕ) (told : RunReply) (older h : History) → Begun f s h → PrimaryReplied t at r told older h → is_asked (phase_of t h) ≡ true → ⊥
unasked_by f s t at r told older h b was a =
    let place = (was.stands).stands in
    let call : Entry = record { caller = place.caller; event = event.Give r (reply.Ran told) } in
    let whole : Begun f s (place.more ++ call ∷ older) = subst (Begun f s) (sym place.whole) b in
    let k = kept f s older (begun_before f s call older (begun_until f s place.more (call ∷ older) whole)) in
    let was_asked : is_asked (phase_of t older) ≡ true = asked_at_call t place.more (call ∷ older) (was.stands).last (ap (λ x. is_asked (phase_of t x)) place.whole ∙ a) in
    let out = k.numbers.runs r t was.index was.out in
    let session = numbered_some (begun older) t out.0 in
    let balance = asked_balance (phase_of t older) (length (submits t older)) (length (given_to t older)) _ was_asked (k.numbers.balance t session.0 session.1) in
    absurd (omega (arith, balance, out.1, (k.replicas r).runs t was.index was.out, ((k.leads r).leads was.primary t was.was_open).0))

-- in every history
pub unasked : (f s c t : ℕ) (x : CauseAt) (h : History) → Begun f s (record { caller = c; event = event.Refuse t x } ∷ h) → IsPrimarysReply x → is_asked (phase_of t h) ≡ true → ⊥
unasked f s c t x h b (inl it) a =
    let shown = deadlock_shown f s c t it.0 h (subst (λ y. Begun f s (record { caller = c; event = event.Refuse t y } ∷ h)) it.1 b) in
    unasked_by f s t it.0 shown.replica _ shown.older h (begun_before f s record { caller = c; event = event.Refuse t x } h b) shown.replied a
unasked f s c t x h b (inr it) a =
    let shown = memory_shown f s c t it.0 h (subst (λ y. Begun f s (record { caller = c; event = event.Refuse t y } ∷ h)) it.1 b) in
    unasked_by f s t it.0 shown.replica _ shown.older h (begun_before f s record { caller = c; event = event.Refuse t x } h b) shown.replied a

pub never_asked : (f s c t : ℕ) (x : CauseAt) (h : History) → Begun f s (record { caller = c; event = event.Refuse t x } ∷ h) → IsPrimarysReply x → is_asked (phase_of t h) ≡ false
never_asked f s c t x h b is = false_from_ne_true (is_asked (phase_of t h)) (unasked f s c t x h b is)
