-- The log, the phases and the given answers, after an event.
use Rattle.std.proofs.Common.{◌≡◌, ◌↔◌, inl, inr, ℕ, ◌+◌, ◌≤◌, Bool, true, false, ◌&&◌, ◌==◌, if◌then◌else◌, Option, Some, None, List, [], ◌∷◌, ◌++◌, length, refl, ap, sym, ◌∙◌, arith, length-append, IsTrue}
use Rattle.std.proofs.lemmas.Bool.{and_parts, eqb-true, eq-eqb}
use Rattle.hr_base.specs.Lists.{numbered}
use Rattle.hr_engine.specs.declared.reply.RunReply.TheVariants as run
use Rattle.hr_history.specs.declared.entry.Event.{Event}
use Rattle.hr_history.specs.declared.entry.Event.TheVariants as event
use Rattle.hr_history.specs.declared.job.Job.{Job}
use Rattle.hr_history.specs.declared.job.Job.TheVariants as job
use Rattle.hr_history.specs.declared.job.JobReply.TheVariants as reply
use Rattle.hr_history.specs.declared.phase.Phase.{Phase}
use Rattle.hr_history.specs.declared.phase.Phase.TheVariants as phase
use Rattle.hr_history.specs.Transactions.{is_open, next_log, next_phase}
use Rattle.hr_history.specs.Primary.{is_some_of}
use Rattle.hr_history.specs.Given.{Given, next_given, is_run_of}
use Rattle.hr_history.specs.View.{View, TxnState}
use Rattle.hr_history.specs.Processed.{txn_in, phase_in}
use Rattle.hr_history.specs.Step.{out_in, found_in, next_count}
use Rattle.hr_records.proofs.Places.{numbered_front, numbered_more, numbered_end}
use Rattle.hr_records.proofs.NumberSteps.{same_place, open_unlogged}
use Rattle.hr_moves.specs.Sane.{IsSane, IsKnown}
use Rattle.hr_moves.specs.Fits.{Fits}
use Rattle.hr_sane.proofs.Next.{true_false, was_unknown}

pub log_grows : (e : Event) (log : List ℕ) → length log ≤ length (next_log e log)
log_grows (event.Decide t) log = omega (arith, length-append log (t ∷ []))
log_grows _ log = omega arith

-- a phase that isn't a place in the log
abbrev pub Unlogged : Phase → Type 0
Unlogged p = (place : ℕ) → p ≡ phase.Logged place → ⊥

abbrev pub AtPlace : Phase → List ℕ → ℕ → ℕ → Type 0
AtPlace p log t place = (p ≡ phase.Logged place) ↔ (numbered log place ≡ Some t)

-- where one that wasn't decided goes to a phase that isn't a decision, or stays
changed_by : (b : Bool) (x p : Phase) (log : List ℕ) (t place : ℕ) → Unlogged x → (b ≡ true → Unlogged p) → AtPlace p log t place → AtPlace (if b then x else p) log t place
changed_by true x p log t place un was at = (λ h. absurd (un place h), λ h. absurd (was refl place (at.1 h)))
changed_by false x p log t place un was at = at

active_unlogged : Unlogged phase.Active
active_unlogged place h = open_unlogged phase.Active place refl h

asked_unlogged : (n : ℕ) → Unlogged (phase.Asked n)
asked_unlogged n place h = open_unlogged (phase.Asked n) place refl h

back_unlogged : Unlogged phase.RolledBack
back_unlogged place h = cc h

pub refused_unlogged : Unlogged phase.Refused
refused_unlogged place h = cc h

module _ (v : View) (sane : IsSane v) where
  -- an open one that is this one
  opened : (u t : ℕ) → IsTrue (is_open (phase_in v u)) → (u == t) ≡ true → Unlogged (phase_in v t)
  opened u t o e place h = open_unlogged (phase_in v u) place o (ap (phase_in v) (eqb-true u t e) ∙ h)

  decided_by : (b : Bool) (u t place : ℕ) → (u == t) ≡ b → IsTrue (is_open (phase_in v u)) → AtPlace (if b then phase.Logged (length v.log + 1) else phase_in v t) (v.log ++ u ∷ []) t place
  decided_by true u t place e o = (
    λ h. numbered_end v.log u place (sym (same_place (length v.log + 1) place h)) ∙ ap Some (eqb-true u t e),
    λ h. elim (numbered_more v.log u place t h) [
      | inl old ↦ absurd (opened u t o e place ((sane.logged t place).1 old))
      | inr new ↦ ap phase.Logged (sym new.0)
    ],
  )
  decided_by false u t place e o = (
    λ h. numbered_front v.log (u ∷ []) place t ((sane.logged t place).0 h),
    λ h. elim (numbered_more v.log u place t h) [
      | inl old ↦ (sane.logged t place).1 old
      | inr new ↦ absurd (true_false (eq-eqb u t new.1) e)
    ],
  )

  pub logged_next : (e : Event) (t place asks : ℕ) → Fits v e → AtPlace (next_phase t e asks (length v.log) (phase_in v t)) (next_log e v.log) t place
  logged_next (event.Begin session u) t place asks fits = changed_by (u == t) phase.Active (phase_in v t) v.log t place active_unlogged unknown (sane.logged t place)
    where
      unknown : (u == t) ≡ true → Unlogged (phase_in v t)
      unknown e x h =
          let same : u ≡ t = eqb-true u t e in
          let past : IsKnown v t → ⊥ = λ known. omega (arith, fits, same, known.1) in
          refused_unlogged x (sym (ap (λ (y : TxnState). y.phase) (was_unknown v t past)) ∙ h)
  logged_next (event.AskCommit u) t place asks fits = changed_by (u == t) (phase.Asked (asks + 1)) (phase_in v t) v.log t place (asked_unlogged (asks + 1)) (λ e. opened u t fits e) (sane.logged t place)
  logged_next (event.AskRollback u) t place asks fits = changed_by (u == t) phase.RolledBack (phase_in v t) v.log t place back_unlogged (λ e. opened u t fits e) (sane.logged t place)
  logged_next (event.Decide u) t place asks fits = decided_by (u == t) u t place refl fits
  logged_next (event.Refuse u cause) t place asks fits = changed_by (u == t) phase.Refused (phase_in v t) v.log t place refused_unlogged (λ e. opened u t fits e) (sane.logged t place)
  logged_next (event.Submit u index stmt) t place asks fits = sane.logged t place
  logged_next (event.Take q j) t place asks fits = sane.logged t place
  logged_next (event.Give q told) t place asks fits = sane.logged t place
  logged_next (event.Restarted q count) t place asks fits = sane.logged t place
  logged_next event.Suspect t place asks fits = sane.logged t place
  logged_next (event.Convict q x) t place asks fits = sane.logged t place
  logged_next (event.NewPrimary q) t place asks fits = sane.logged t place
  logged_next (event.Preempt q u) t place asks fits = sane.logged t place

  -- ---- given answers

  none_or_same : (b : Bool) (given : List Given) (n : ℕ) → length given ≤ n → length (if b then [] else given) ≤ (if b then 0 else n)
  none_or_same true given n h = omega arith
  none_or_same false given n h = h

  one_or_same : (b : Bool) (n m : ℕ) → n ≤ m → n ≤ (if b then m + 1 else m)
  one_or_same true n m h = omega (arith, h)
  one_or_same false n m h = h

  its_statement : (t n : ℕ) (o : Option Job) → is_run_of t n o ≡ true → o ≡ Some (job.Run t n)
  its_statement t n (Some (job.Run u k)) h = let both = and_parts (u == t) (k == n) h in λ i. Some (job.Run (eqb-true u t both.0 i) (eqb-true k n both.1 i))
  its_statement t n (Some (job.Commit u)) h = cc h
  its_statement t n (Some (job.Rollback u)) h = cc h
  its_statement t n (Some job.Restart) h = cc h
  its_statement t n None h = cc h

  more_by : (b : Bool) (t q : ℕ) (g : Given) → (is_run_of t (length (txn_in v t).given + 1) (out_in v q) && is_some_of q v.primary && is_open (phase_in v t)) ≡ b
      → length (if b then (txn_in v t).given ++ g ∷ [] else (txn_in v t).given) ≤ (txn_in v t).statements
  more_by true t q g e =
      let run = (and_parts _ (is_some_of q v.primary) (and_parts _ (is_open (phase_in v t)) e).0).0 in
      let may = sane.out q (job.Run t (length (txn_in v t).given + 1)) (its_statement t _ (out_in v q) run) in
      omega (arith, length-append (txn_in v t).given (g ∷ []), may.3)
  more_by false t q g e = sane.given t

  pub given_next : (e : Event) (t : ℕ) → length (next_given t e (found_in v t) (txn_in v t).given) ≤ next_count t e (txn_in v t).statements
  given_next (event.Begin session u) t = none_or_same (u == t) (txn_in v t).given (txn_in v t).statements (sane.given t)
  given_next (event.Submit u index stmt) t = one_or_same (u == t) (length (txn_in v t).given) (txn_in v t).statements (sane.given t)
  given_next (event.Give q (reply.Ran (run.Done answer))) t = more_by (is_run_of t (length (txn_in v t).given + 1) (out_in v q) && is_some_of q v.primary && is_open (phase_in v t)) t q record { answer = answer; stamp = length v.log } refl
  given_next (event.Give q (reply.Ran (run.Blocked named))) t = sane.given t
  given_next (event.Give q (reply.Ran (run.Deadlock cycle))) t = sane.given t
  given_next (event.Give q (reply.Ran run.Lost)) t = sane.given t
  given_next (event.Give q (reply.Ran run.NoMemory)) t = sane.given t
  given_next (event.Give q (reply.Ended told)) t = sane.given t
  given_next (event.Give q reply.StillLost) t = sane.given t
  given_next _ t = sane.given t
