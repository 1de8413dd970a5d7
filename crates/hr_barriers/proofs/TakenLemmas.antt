-- While a statement with a stamp is out at a replica, there is such a place of the log.
use Rattle.std.proofs.Common.{◌≡◌, ◌⊎◌, inl, inr, ⊎_elim, ℕ, suc, ◌+◌, ◌*◌, ◌<◌, ◌≤◌, Bool, true, false, not, ◌&&◌, ◌||◌, ◌==◌, if◌then◌else◌, Option, Some, None, slice_get, List, [], ◌∷◌, ◌++◌, length, refl, ap, sym, ◌∙◌, subst, arith}
use Rattle.std.proofs.lemmas.Bool.{and_parts, or_cases, eqb-true, eq-eqb, leb-true, not-true}
use Rattle.hr_base.specs.Lists.{numbered}
use Rattle.hr_base.proofs.Tests.{if_false}
use Rattle.hr_engine.specs.declared.reply.RunReply.TheVariants as run
use Rattle.hr_history.specs.declared.entry.Event.{Event}
use Rattle.hr_history.specs.declared.entry.Event.TheVariants as event
use Rattle.hr_history.specs.declared.job.Job.{Job}
use Rattle.hr_history.specs.declared.job.Job.TheVariants as job
use Rattle.hr_history.specs.declared.job.JobReply.{JobReply}
use Rattle.hr_history.specs.declared.job.JobReply.TheVariants as reply
use Rattle.hr_history.specs.declared.phase.Phase.{Phase}
use Rattle.hr_history.specs.declared.phase.Phase.TheVariants as phase
use Rattle.hr_history.specs.History.{History, is_call}
use Rattle.hr_history.specs.Transactions.{log, phase_of, is_open, is_logged}
use Rattle.hr_history.specs.Primary.{primary_of, is_some_of}
use Rattle.hr_history.specs.Replicas.{out_at, journal_of, stmt_at, call_if, restart_if, next_journal}
use Rattle.hr_history.specs.Given.{Given, given_to, is_run_of}
use Rattle.hr_history.specs.View.{view_of}
use Rattle.hr_history.specs.Processed.{phase_in, replica_in, txn_in, answers_in, is_committed, processed_in}
use Rattle.hr_history.specs.Jobs.{may_go_on, is_stamped_by}
use Rattle.hr_history.specs.Faithful.{Begun}
use Rattle.hr_history.proofs.StepLemmas.{call_allowed}
use Rattle.hr_records.specs.ByRule.{IsJobOf}
use Rattle.hr_records.specs.Kept.{Kept}
use Rattle.hr_records.proofs.Options.{some_none, same_some}
use Rattle.hr_records.proofs.Places.{numbered_born, numbered_more}
use Rattle.hr_records.proofs.Allowed.{begin_allowed, take_allowed}
use Rattle.hr_records.proofs.RuleLemmas.{begun_before, nothing_due}
use Rattle.hr_records.proofs.NumberSteps.{not_both}
use Rattle.hr_records.proofs.NumberLemmas.{given_at_begin}
use Rattle.hr_records.proofs.GiveLemmas.{is_given}
use Rattle.hr_records.proofs.JobWords.{primary_is}
use Rattle.hr_records.proofs.LeadLemmas.{none_for_gone, refused_all}
use Rattle.hr_records.proofs.ViewWords.{txn_born, phase_seen, given_seen, position_seen}
use Rattle.hr_records.proofs.KeptLemmas.{kept}
use Rattle.hr_serial.proofs.PrefixLemmas.{at_prefix}
use Rattle.hr_barriers.proofs.WindowLemmas.{Window, window_stands, late, of_open, of_logged}

logged_place : (p : Phase) → is_logged p ≡ true → (place : ℕ) × (p ≡ phase.Logged place)
logged_place phase.Active e = cc e
logged_place (phase.Asked n) e = cc e
logged_place (phase.Logged n) e = (n, refl)
logged_place phase.RolledBack e = cc e
logged_place phase.Refused e = cc e

stamp_low : (m : ℕ) (o : Option Given) (g : Given) → o ≡ Some g → is_stamped_by m o ≡ true → g.stamp ≤ m
stamp_low m o g e is = leb-true g.stamp m (sym (ap (is_stamped_by m) e) ∙ is)

-- where it is taken
pub window_taken : (f s r t i : ℕ) (g : Given) (h : History) → Begun f s h → Kept h → r < 2 * f + 1 → IsJobOf (view_of f h) r (job.Run t i) → numbered (given_to t h) i ≡ Some g → Window r t g.stamp h
window_taken f s r t i g h b k lt is at = let born = txn_born f t h is.rule.1 in elim is.rule.2 [
  | inl first ↦ absurd (omega (arith, first.2, (numbered_born (given_to t h) i g at).1, ap (λ (x : List Given). length x) (given_seen f t h born)))
  | inr later ↦ (
      let v = view_of f h in
      let open_or = is_open (phase_in v t) || (is_logged (phase_in v t) && not (is_committed v r t)) in
      let stamp = is_stamped_by (processed_in v r) (slice_get (txn_in v t).given (length (answers_in v r t))) in
      let two = and_parts (open_or && stamp) (may_go_on v r t) later.1 in
      let one = and_parts open_or stamp two.0 in
      let index : i ≡ suc (length (answers_in v r t)) = omega (arith, later.2) in
      let there : slice_get (txn_in v t).given (length (answers_in v r t)) ≡ Some g = ap (λ (l : List Given). slice_get l (length (answers_in v r t))) (given_seen f t h born) ∙ ap (numbered (given_to t h)) (sym index) ∙ at in
      let low = stamp_low (processed_in v r) (slice_get (txn_in v t).given (length (answers_in v r t))) g there one.1 in
      elim (or_cases (is_open (phase_in v t)) (is_logged (phase_in v t) && not (is_committed v r t)) one.0) [
        | inl o ↦ of_open f s r t i g h b k lt born at low (ap is_open (sym (phase_seen f t h born)) ∙ o) (at_prefix h k r).within
        | inr waiting ↦ (
            let parts = and_parts (is_logged (phase_in v t)) (not (is_committed v r t)) waiting in
            let its = logged_place (phase_of t h) (ap is_logged (sym (phase_seen f t h born)) ∙ parts.0) in
            let after = late f s r t i g h b k lt born at (phase_in v t) its.0 (replica_in v r).position (phase_seen f t h born ∙ its.1) (not-true (is_committed v r t) parts.1) in
            of_logged f s r t i g h b k lt born at low its.0 its.1 (omega (arith, after, position_seen f r h lt)))
      ])
]

-- AND AS LONG AS IT IS OUT
abbrev pub Windows : ℕ → History → Type 0
Windows r h = (t i : ℕ) (g : Given) → out_at r h ≡ Some (job.Run t i) → numbered (given_to t h) i ≡ Some g → Window r t g.stamp h

pub new_by : (x : Bool) (xs : List Given) (y g : Given) (i : ℕ) → numbered (if x then xs ++ y ∷ [] else xs) i ≡ Some g → (numbered xs i ≡ Some g) ⊎ ((x ≡ true) × (i ≡ length xs + 1) × (y ≡ g))
new_by false xs y g i e = inl e
new_by true xs y g i e = ⊎_elim (λ (old : numbered xs i ≡ Some g). inl old) (λ (new : (i ≡ length xs + 1) × (y ≡ g)). inr (refl, new.0, new.1)) (numbered_more xs y i g e)

module _ (f s c r : ℕ) (h : History) (k : Kept h) (before : Windows r h) where
  -- no primary gives what is out elsewhere, and has no stamp
  not_given_elsewhere : (e : Event) → is_call e ≡ true → Begun f s (record { caller = c; event = e } ∷ h) → (q t i : ℕ) → (q == r) ≡ false → out_at r h ≡ Some (job.Run t i) → is_given t q h ≡ true → i ≡ length (given_to t h) + 1 → ⊥
  not_given_elsewhere e call b q t i apart out is index =
      let two = and_parts (is_run_of t (length (given_to t h) + 1) (out_at q h) && is_some_of q (primary_of h)) (is_open (phase_of t h)) is in
      let lead = primary_is q (primary_of h) (and_parts (is_run_of t (length (given_to t h) + 1) (out_at q h)) (is_some_of q (primary_of h)) two.0).1 in
      elim ((k.leads r).ahead t i out two.1) [
        | inl small ↦ omega (arith, small, index)
        | inr (inl mine) ↦ not_both (q == r) (eq-eqb q r (same_some q r (sym lead ∙ mine))) apart
        | inr (inr gone) ↦ refused_all f h (none_for_gone f h (nothing_due f s record { caller = c; event = e } h b call)) gone t (k.numbers.runs r t i out).0 two.1
      ]

  stays : (e : Event) → Begun f s (record { caller = c; event = e } ∷ h) → journal_of r (record { caller = c; event = e } ∷ h) ≡ journal_of r h → (t i : ℕ) (g : Given) → out_at r h ≡ Some (job.Run t i) → numbered (given_to t h) i ≡ Some g
      → Window r t g.stamp (record { caller = c; event = e } ∷ h)
  stays e b same t i g out at = window_stands f s r t g.stamp record { caller = c; event = e } h b k same (before t i g out at)

  elsewhere : (q : ℕ) (told : JobReply) → (q == r) ≡ false → Begun f s (record { caller = c; event = event.Give q told } ∷ h) → Windows r (record { caller = c; event = event.Give q told } ∷ h)
  elsewhere q told apart b t i g out at = by_told told b at
    where
      was_out : out_at r h ≡ Some (job.Run t i)
      was_out = sym (if_false (q == r) None (out_at r h) apart) ∙ out

      same : (told : JobReply) → journal_of r (record { caller = c; event = event.Give q told } ∷ h) ≡ journal_of r h
      same told = ap (λ x. next_journal (call_if x r told (λ p. out_at p h) (stmt_at h)) (journal_of r h)) apart

      by_told : (told : JobReply) → Begun f s (record { caller = c; event = event.Give q told } ∷ h) → numbered (given_to t (record { caller = c; event = event.Give q told } ∷ h)) i ≡ Some g → Window r t g.stamp (record { caller = c; event = event.Give q told } ∷ h)
      by_told (reply.Ran (run.Done a)) b at =
          ⊎_elim (λ (old : numbered (given_to t h) i ≡ Some g). stays (event.Give q (reply.Ran (run.Done a))) b (same (reply.Ran (run.Done a))) t i g was_out old)
          (λ (new : (is_given t q h ≡ true) × (i ≡ length (given_to t h) + 1) × (record { answer = a; stamp = length (log h) } ≡ g)).
          absurd (not_given_elsewhere (event.Give q (reply.Ran (run.Done a))) refl b q t i apart was_out new.0 new.1))
          (new_by (is_given t q h) (given_to t h) record { answer = a; stamp = length (log h) } g i at)
      by_told (reply.Ran (run.Blocked named)) b at = stays (event.Give q (reply.Ran (run.Blocked named))) b (same (reply.Ran (run.Blocked named))) t i g was_out at
      by_told (reply.Ran (run.Deadlock cycle)) b at = stays (event.Give q (reply.Ran (run.Deadlock cycle))) b (same (reply.Ran (run.Deadlock cycle))) t i g was_out at
      by_told (reply.Ran run.Lost) b at = stays (event.Give q (reply.Ran run.Lost)) b (same (reply.Ran run.Lost)) t i g was_out at
      by_told (reply.Ran run.NoMemory) b at = stays (event.Give q (reply.Ran run.NoMemory)) b (same (reply.Ran run.NoMemory)) t i g was_out at
      by_told (reply.Ended x) b at = stays (event.Give q (reply.Ended x)) b (same (reply.Ended x)) t i g was_out at
      by_told reply.StillLost b at = stays (event.Give q reply.StillLost) b (same reply.StillLost) t i g was_out at

  nothing_out : {X : Type 0} (x : Bool) (t i : ℕ) → x ≡ true → (if x then None else out_at r h) ≡ Some (job.Run t i) → X
  nothing_out true t i e out = absurd (some_none (job.Run t i) (sym out))
  nothing_out false t i e out = cc e

  at_give : (q : ℕ) (told : JobReply) (here : Bool) → (q == r) ≡ here → Begun f s (record { caller = c; event = event.Give q told } ∷ h) → Windows r (record { caller = c; event = event.Give q told } ∷ h)
  at_give q told true e b t i g out at = nothing_out (q == r) t i e out
  at_give q told false e b t i g out at = elsewhere q told e b t i g out at

  at_restarted : (q n : ℕ) (here : Bool) → (q == r) ≡ here → Begun f s (record { caller = c; event = event.Restarted q n } ∷ h) → Windows r (record { caller = c; event = event.Restarted q n } ∷ h)
  at_restarted q n true e b t i g out at = nothing_out (q == r) t i e out
  at_restarted q n false e b t i g out at =
      stays (event.Restarted q n) b (ap (λ x. next_journal (restart_if x r n (λ p. out_at p h)) (journal_of r h)) e) t i g (sym (if_false (q == r) None (out_at r h) e) ∙ out) at

  at_take : (q : ℕ) (j : Job) (here : Bool) → (q == r) ≡ here → Begun f s (record { caller = c; event = event.Take q j } ∷ h) → Windows r (record { caller = c; event = event.Take q j } ∷ h)
  at_take q j false e b t i g out at = stays (event.Take q j) b refl t i g (sym (if_false (q == r) (Some j) (out_at r h) e) ∙ out) at
  at_take q j true e b t i g out at =
      let a = take_allowed f s c h q j (call_allowed f s record { caller = c; event = event.Take q j } h b refl) in
      let it = eqb-true q r e in
      let its : j ≡ job.Run t i = same_some j (job.Run t i) (sym (ap (λ x. if x then Some j else out_at r h) e) ∙ out) in
      window_stands f s r t g.stamp record { caller = c; event = event.Take q j } h b k refl
      (window_taken f s r t i g h (begun_before f s record { caller = c; event = event.Take q j } h b) k (subst (λ x. x < 2 * f + 1) it a.0)
      (subst (λ x. IsJobOf (view_of f h) x (job.Run t i)) it (subst (IsJobOf (view_of f h) q) its a.1)) at)

  step : (e : Event) → Begun f s (record { caller = c; event = e } ∷ h) → Windows r (record { caller = c; event = e } ∷ h)
  step (event.Take q j) b = at_take q j (q == r) refl b
  step (event.Give q told) b = at_give q told (q == r) refl b
  step (event.Restarted q n) b = at_restarted q n (q == r) refl b
  step (event.Begin session txn) b = λ t i g out at.
      let a = begin_allowed f s c h session txn (call_allowed f s record { caller = c; event = event.Begin session txn } h b refl) in
      stays (event.Begin session txn) b refl t i g out (ap (λ l. numbered l i) (sym (given_at_begin h k.numbers txn a.0 t)) ∙ at)
  step (event.Submit txn index x) b = λ t i g out at. stays (event.Submit txn index x) b refl t i g out at
  step (event.AskCommit txn) b = λ t i g out at. stays (event.AskCommit txn) b refl t i g out at
  step (event.AskRollback txn) b = λ t i g out at. stays (event.AskRollback txn) b refl t i g out at
  step event.Suspect b = λ t i g out at. stays event.Suspect b refl t i g out at
  step (event.Decide txn) b = λ t i g out at. stays (event.Decide txn) b refl t i g out at
  step (event.Refuse txn x) b = λ t i g out at. stays (event.Refuse txn x) b refl t i g out at
  step (event.Convict q x) b = λ t i g out at. stays (event.Convict q x) b refl t i g out at
  step (event.NewPrimary q) b = λ t i g out at. stays (event.NewPrimary q) b refl t i g out at
  step (event.Preempt q txn) b = λ t i g out at. stays (event.Preempt q txn) b refl t i g out at

pub windows : (f s r : ℕ) (h : History) → Begun f s h → Windows r h
windows f s r [] b = λ t i g out at. absurd (some_none (job.Run t i) (sym out))
windows f s r (e ∷ h) b = step f s e.caller r h (kept f s h (begun_before f s e h b)) (windows f s r h (begun_before f s e h b)) e.event b
