-- What is known of a closed transaction stands: its phase, its statements and its answers.
use Rattle.std.proofs.Common.{◌≡◌, ◌⊎◌, inl, inr, ℕ, Bool, true, false, if◌then◌else◌, ◌==◌, Some, ◌∷◌, refl, ap, sym, ◌∙◌}
use Rattle.hr_engine.specs.declared.reply.RunReply.TheVariants as run
use Rattle.hr_history.specs.declared.entry.Entry.{Entry}
use Rattle.hr_history.specs.declared.entry.Event.{Event}
use Rattle.hr_history.specs.declared.entry.Event.TheVariants as event
use Rattle.hr_history.specs.declared.job.Job.TheVariants as job
use Rattle.hr_history.specs.declared.phase.Phase.{Phase}
use Rattle.hr_history.specs.declared.phase.Phase.TheVariants as phase
use Rattle.hr_history.specs.declared.job.JobReply.{JobReply}
use Rattle.hr_history.specs.declared.job.JobReply.TheVariants as reply
use Rattle.hr_history.specs.History.{History}
use Rattle.hr_history.specs.Transactions.{begun, submits, phase_of, is_open}
use Rattle.hr_history.specs.Replicas.{out_at}
use Rattle.hr_history.specs.Given.{given_to}
use Rattle.hr_history.specs.Faithful.{Begun, fits_job}
use Rattle.hr_history.proofs.StepLemmas.{call_allowed}
use Rattle.hr_records.specs.Kept.{Kept}
use Rattle.hr_records.proofs.Places.{same_or_not, if_other}
use Rattle.hr_records.proofs.NumberSteps.{not_both}
use Rattle.hr_records.proofs.NumberLemmas.{phase_at_begin, submits_at_begin, given_at_begin}
use Rattle.hr_records.proofs.Allowed.{begin_allowed, submit_allowed, give_allowed, may_go_on, ran_out}
use Rattle.hr_records.proofs.RuleLemmas.{by_rule, asked_is_open}
use Rattle.hr_records.proofs.ViewWords.{txn_born, open_seen}
use Rattle.hr_records.proofs.KeptLemmas.{decided_asked}
use Rattle.hr_records.proofs.GiveLemmas.{is_given, given_where, given_not, no_more}

pub open_other : (t u : ℕ) (h : History) → is_open (phase_of t h) ≡ true → is_open (phase_of u h) ≡ false → t ≡ u → ⊥
open_other t u h o closed same = not_both (is_open (phase_of u h)) (ap (λ x. is_open (phase_of x h)) (sym same) ∙ o) closed

never : (b : Bool) → (b ≡ true → ⊥) → b ≡ false
never true n = absurd (n refl)
never false n = refl

not_given : (u i r : ℕ) (h : History) → out_at r h ≡ Some (job.Run u i) → (t : ℕ) → is_open (phase_of t h) ≡ false → (u ≡ t) ⊎ (u ≡ t → ⊥) → is_given t r h ≡ false
not_given u i r h out t closed (inl same) =
    never (is_given t r h) (λ is. not_both (is_open (phase_of t h)) (given_where t i r h (out ∙ ap (λ x. Some (job.Run x i)) same) is).2 closed)
not_given u i r h out t closed (inr other) = given_not t u i r h out other

given_frozen : (c r : ℕ) (told : JobReply) (h : History) (t : ℕ) → is_open (phase_of t h) ≡ false → fits_job told (out_at r h) ≡ true → given_to t (record { caller = c; event = event.Give r told } ∷ h) ≡ given_to t h
given_frozen c r (reply.Ran (run.Done a)) h t closed fits =
    let o = ran_out (run.Done a) (out_at r h) fits in
    no_more (is_given t r h) _ (given_to t h) (not_given o.0 o.1 r h o.2 t closed (same_or_not o.0 t))
given_frozen c r (reply.Ran (run.Blocked named)) h t closed fits = refl
given_frozen c r (reply.Ran (run.Deadlock cycle)) h t closed fits = refl
given_frozen c r (reply.Ran run.Lost) h t closed fits = refl
given_frozen c r (reply.Ran run.NoMemory) h t closed fits = refl
given_frozen c r (reply.Ended x) h t closed fits = refl
given_frozen c r reply.StillLost h t closed fits = refl

module _ (f s c : ℕ) (h : History) (k : Kept h) where
  frozen_by : (e : Event) → Begun f s (record { caller = c; event = e } ∷ h) → (t : ℕ) → is_open (phase_of t h) ≡ false
      → (submits t (record { caller = c; event = e } ∷ h) ≡ submits t h) × (given_to t (record { caller = c; event = e } ∷ h) ≡ given_to t h)
  frozen_by (event.Begin session txn) begun t closed =
      let a = begin_allowed f s c h session txn (call_allowed f s record { caller = c; event = event.Begin session txn } h begun refl) in
      (submits_at_begin h k.numbers txn a.0 t, given_at_begin h k.numbers txn a.0 t)
  frozen_by (event.Submit txn index stmt) begun t closed =
      let a = submit_allowed f s c h txn index stmt (call_allowed f s record { caller = c; event = event.Submit txn index stmt } h begun refl) in
      (if_other txn t _ (submits t h) (open_other txn t h (a.0).is_open closed), refl)
  frozen_by (event.Give r told) begun t closed =
      let a = give_allowed f s c h r told (call_allowed f s record { caller = c; event = event.Give r told } h begun refl) in
      (refl, given_frozen c r told h t closed a.1)
  frozen_by (event.AskCommit txn) begun t closed = (refl, refl)
  frozen_by (event.AskRollback txn) begun t closed = (refl, refl)
  frozen_by (event.Take r j) begun t closed = (refl, refl)
  frozen_by (event.Restarted r n) begun t closed = (refl, refl)
  frozen_by event.Suspect begun t closed = (refl, refl)
  frozen_by (event.Decide txn) begun t closed = (refl, refl)
  frozen_by (event.Refuse txn x) begun t closed = (refl, refl)
  frozen_by (event.Convict r x) begun t closed = (refl, refl)
  frozen_by (event.NewPrimary r) begun t closed = (refl, refl)
  frozen_by (event.Preempt r txn) begun t closed = (refl, refl)

pub frozen : (f s : ℕ) (e : Entry) (h : History) → Kept h → Begun f s (e ∷ h) → (t : ℕ) → is_open (phase_of t h) ≡ false → (submits t (e ∷ h) ≡ submits t h) × (given_to t (e ∷ h) ≡ given_to t h)
frozen f s e h k begun t closed = frozen_by f s e.caller h k e.event begun t closed

-- a transaction that is closed keeps its phase
asked_only : (txn t : ℕ) (h : History) (p : Phase) → is_open (phase_of txn h) ≡ true → is_open (phase_of t h) ≡ false → (if txn == t then p else phase_of t h) ≡ phase_of t h
asked_only txn t h p o closed = if_other txn t p (phase_of t h) (λ same. not_both (is_open (phase_of t h)) (ap (λ x. is_open (phase_of x h)) (sym same) ∙ o) closed)

module _ (f s c : ℕ) (h : History) (k : Kept h) where
  closed_stays : (e : Event) → Begun f s (record { caller = c; event = e } ∷ h) → (t : ℕ) → is_open (phase_of t h) ≡ false → phase_of t (record { caller = c; event = e } ∷ h) ≡ phase_of t h
  closed_stays (event.Begin session txn) b t closed =
      phase_at_begin h k.numbers txn (begin_allowed f s c h session txn (call_allowed f s record { caller = c; event = event.Begin session txn } h b refl)).0 t
  closed_stays (event.Submit txn index stmt) b t closed = refl
  closed_stays (event.AskCommit txn) b t closed =
      asked_only txn t h _ (may_go_on f c txn h (call_allowed f s record { caller = c; event = event.AskCommit txn } h b refl)).is_open closed
  closed_stays (event.AskRollback txn) b t closed =
      asked_only txn t h phase.RolledBack (may_go_on f c txn h (call_allowed f s record { caller = c; event = event.AskRollback txn } h b refl)).is_open closed
  closed_stays (event.Take r j) b t closed = refl
  closed_stays (event.Give r told) b t closed = refl
  closed_stays (event.Restarted r n) b t closed = refl
  closed_stays event.Suspect b t closed = refl
  closed_stays (event.Decide txn) b t closed =
      let rule = by_rule f s record { caller = c; event = event.Decide txn } h b refl in
      asked_only txn t h _ (asked_is_open (phase_of txn h) (decided_asked f txn h (txn_born f txn h rule.0) rule.1)) closed
  closed_stays (event.Refuse txn x) b t closed =
      asked_only txn t h phase.Refused (open_seen f txn h (by_rule f s record { caller = c; event = event.Refuse txn x } h b refl).0).1 closed
  closed_stays (event.Convict r x) b t closed = refl
  closed_stays (event.NewPrimary r) b t closed = refl
  closed_stays (event.Preempt r txn) b t closed = refl

pub phase_stands : (f s : ℕ) (e : Entry) (h : History) → Kept h → Begun f s (e ∷ h) → (t : ℕ) → is_open (phase_of t h) ≡ false → phase_of t (e ∷ h) ≡ phase_of t h
phase_stands f s e h k begun t closed = closed_stays f s e.caller h k e.event begun t closed
