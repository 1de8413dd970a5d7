-- The primary holds the whole log: each of it is committed there or whole.
use Rattle.std.proofs.Common.{◌≡◌, ◌⊎◌, inl, inr, ℕ, suc, ◌+◌, ◌*◌, ◌<◌, ◌≤◌, Bool, true, false, not, ◌&&◌, ◌||◌, ◌==◌, if◌then◌else◌, Option, Some, None, [], ◌∷◌, ◌++◌, length, refl, ap, sym, ◌∙◌, subst, arith, length-append}
use Rattle.std.proofs.lemmas.Bool.{and_parts, or_cases, eqb-true, eq-eqb}
use Rattle.hr_base.proofs.Tests.{and_false, or_second}
use Rattle.hr_engine.specs.Journal.{Call, Ran, Committed, RolledBack}
use Rattle.hr_engine.specs.Attempts.{attempt, statements}
use Rattle.hr_engine.specs.Base.{settled, count}
use Rattle.hr_engine.specs.declared.reply.RunReply.TheVariants as run
use Rattle.hr_engine.specs.declared.reply.EndReply.TheVariants as end
use Rattle.hr_engine.proofs.AttemptLaws.{attempt-done_other, attempt-committed_other, attempt-rolled_back_other}
use Rattle.hr_history.specs.declared.entry.Event.{Event}
use Rattle.hr_history.specs.declared.entry.Event.TheVariants as event
use Rattle.hr_history.specs.declared.job.Job.{Job}
use Rattle.hr_history.specs.declared.job.Job.TheVariants as job
use Rattle.hr_history.specs.declared.job.JobReply.{JobReply}
use Rattle.hr_history.specs.declared.job.JobReply.TheVariants as reply
use Rattle.hr_history.specs.declared.phase.Phase.{Phase}
use Rattle.hr_history.specs.declared.phase.Phase.TheVariants as phase
use Rattle.hr_history.specs.History.{History}
use Rattle.hr_history.specs.Transactions.{begun, log, submits, phase_of, is_open, is_asked, is_ended}
use Rattle.hr_history.specs.Primary.{primary_of, is_some_of, other_than}
use Rattle.hr_history.specs.Replicas.{out_at, journal_of, stmt_at, call_if, call_of, restart_if, next_journal, tells_loss}
use Rattle.hr_history.specs.Attempts.{is_preempted, is_touched, unless_ended}
use Rattle.hr_history.specs.Turn.{turn_of}
use Rattle.hr_history.specs.View.{view_of}
use Rattle.hr_history.specs.Processed.{phase_in, attempt_in, replica_in}
use Rattle.hr_history.specs.Given.{given_to}
use Rattle.hr_history.specs.Faithful.{Begun, fits_job}
use Rattle.hr_history.proofs.StepLemmas.{call_allowed}
use Rattle.hr_records.specs.ByRule.{IsElected, GivesWay, IsJobOf}
use Rattle.hr_records.specs.Numbers.{IsBorn}
use Rattle.hr_records.specs.Kept.{Kept}
use Rattle.hr_records.proofs.Options.{some_none, same_some}
use Rattle.hr_records.proofs.PrimaryWords.{other_is}
use Rattle.hr_records.proofs.Places.{same_or_not, if_other, if_same, numbered_born, numbered_some}
use Rattle.hr_records.proofs.NumberSteps.{not_both, same_place, asked_balance}
use Rattle.hr_records.proofs.NumberLemmas.{phase_at_begin, submits_at_begin}
use Rattle.hr_records.proofs.Allowed.{begin_allowed, submit_allowed, take_allowed, give_allowed, restart_allowed}
use Rattle.hr_records.proofs.RuleLemmas.{begun_before, by_rule, asked_is_open}
use Rattle.hr_records.proofs.ViewWords.{txn_born, phase_seen, preempted_seen, position_seen}
use Rattle.hr_records.proofs.KeptLemmas.{kept, decided_asked}
use Rattle.hr_barriers.proofs.WholeWords.{IsHeld, Holds, same_log, no_other, elected, taken, more_preempted, replied}

abbrev pub HoldsAt : ℕ → History → Type 0
HoldsAt r h = Holds r (primary_of h) (λ t. phase_of t h) (count (journal_of r h)) (λ t. length (attempt t (journal_of r h))) (λ t. length (submits t h)) (λ t. is_preempted r t h) (out_at r h)

not_ended : (p : Phase) (place : ℕ) → p ≡ phase.Logged place → is_ended p ≡ true → ⊥
not_ended p place e is = no_end (sym (ap is_ended e) ∙ is)
  where
    no_end : is_ended (phase.Logged place) ≡ true → ⊥
    no_end x = cc x

-- of two phases by a test, the one that isn't Logged isn't what is Logged
unlogged : (u t : ℕ) (p q : Phase) (place : ℕ) → ((n : ℕ) → p ≡ phase.Logged n → ⊥) → (if u == t then p else q) ≡ phase.Logged place → q ≡ phase.Logged place
unlogged u t p q place never e = elim (same_or_not u t) [ inl same ↦ absurd (never place (sym (if_same u t p q same) ∙ e)) | inr other ↦ sym (if_other u t p q other) ∙ e ]

module _ (f s c r : ℕ) (h : History) (k : Kept h) (g : HoldsAt r h) where
  -- WHAT r REPLIES
  abbrev Own : JobReply → Option Call → Type 0
  Own told call = Holds r (if tells_loss told then other_than r (primary_of h) else primary_of h) (λ t. phase_of t h) (count (next_journal call (journal_of r h)))
      (λ t. length (attempt t (next_journal call (journal_of r h)))) (λ t. length (submits t h)) (λ t. unless_ended t call (is_preempted r t h)) None

  gone : {X : Type 0} → other_than r (primary_of h) ≡ Some r → X
  gone is = absurd (not_both (r == r) (eq-eqb r r refl) (other_is r r (primary_of h) is).1)

  ran_done : (u i : ℕ) (a : _) → out_at r h ≡ Some (job.Run u i) → Own (reply.Ran (run.Done a)) (Some (Ran u (stmt_at h u i) (run.Done a)))
  ran_done u i a out = replied (λ is t place e. of (same_or_not t u) place e (g.whole is t place e))
    where
      of : {t : ℕ} → (t ≡ u) ⊎ (t ≡ u → ⊥) → (place : ℕ) → phase_of t h ≡ phase.Logged place → IsHeld place (count (journal_of r h)) (length (attempt t (journal_of r h))) (length (submits t h)) (is_preempted r t h)
          → IsHeld place (count (journal_of r h)) (length (attempt t (Ran u (stmt_at h u i) (run.Done a) ∷ journal_of r h))) (length (submits t h)) (is_preempted r t h)
      of either place e (inl le) = inl le
      of {t} (inl same) place e (inr all) =
          let out_t : out_at r h ≡ Some (job.Run t i) = out ∙ ap (λ x. Some (job.Run x i)) (sym same) in
          absurd (omega (arith, all.0, (k.replicas r).runs t i out_t, (k.numbers.runs r t i out_t).1))
      of {t} (inr other) place e (inr all) = inr (ap (λ l. length l) (attempt-done_other (journal_of r h) u (stmt_at h u i) a t other) ∙ all.0, all.1)

  committed : (u : ℕ) → out_at r h ≡ Some (job.Commit u) → Own (reply.Ended end.Done) (Some (Committed u end.Done))
  committed u out = replied (λ is t place e. of (same_or_not t u) place e (g.whole is t place e))
    where
      more : count (Committed u end.Done ∷ journal_of r h) ≡ count (journal_of r h) + 1
      more = length-append (settled (journal_of r h)).commits (statements (attempt u (journal_of r h)) ∷ [])

      of : {t : ℕ} → (t ≡ u) ⊎ (t ≡ u → ⊥) → (place : ℕ) → phase_of t h ≡ phase.Logged place → IsHeld place (count (journal_of r h)) (length (attempt t (journal_of r h))) (length (submits t h)) (is_preempted r t h)
          → IsHeld place (count (Committed u end.Done ∷ journal_of r h)) (length (attempt t (Committed u end.Done ∷ journal_of r h))) (length (submits t h)) (unless_ended t (Some (Committed u end.Done)) (is_preempted r t h))
      of either place e (inl le) = inl (omega (arith, le, more))
      of {t} (inl same) place e (inr all) =
          let next = ((k.replicas r).commits u out).0 in
          let its = same_place place (suc (count (journal_of r h))) (sym e ∙ ap (λ x. phase_of x h) same ∙ (k.numbers.logged u (suc (count (journal_of r h)))).1 next) in
          inl (omega (arith, its, more))
      of {t} (inr other) place e (inr all) =
          inr (ap (λ l. length l) (attempt-committed_other (journal_of r h) u t other) ∙ all.0, and_false (not (t == u)) (is_preempted r t h) all.1)

  rolled_back : (u : ℕ) → out_at r h ≡ Some (job.Rollback u) → Own (reply.Ended end.Done) (Some (RolledBack u end.Done))
  rolled_back u out = replied (λ is t place e. of (same_or_not t u) place e (g.whole is t place e))
    where
      of : {t : ℕ} → (t ≡ u) ⊎ (t ≡ u → ⊥) → (place : ℕ) → phase_of t h ≡ phase.Logged place → IsHeld place (count (journal_of r h)) (length (attempt t (journal_of r h))) (length (submits t h)) (is_preempted r t h)
          → IsHeld place (count (journal_of r h)) (length (attempt t (RolledBack u end.Done ∷ journal_of r h))) (length (submits t h)) (unless_ended t (Some (RolledBack u end.Done)) (is_preempted r t h))
      of either place e (inl le) = inl le
      of {t} (inl same) place e (inr all) = absurd (not_both (is_preempted r t h) (g.rolls t place (out ∙ ap (λ x. Some (job.Rollback x)) (sym same)) e) all.1)
      of {t} (inr other) place e (inr all) = inr (ap (λ l. length l) (attempt-rolled_back_other (journal_of r h) u t other) ∙ all.0, and_false (not (t == u)) (is_preempted r t h) all.1)

  own : (told : JobReply) (j : Option Job) → out_at r h ≡ j → fits_job told j ≡ true → Own told (call_of j told (stmt_at h))
  own (reply.Ran (run.Done a)) (Some (job.Run u i)) out fits = ran_done u i a out
  own (reply.Ran (run.Blocked named)) (Some (job.Run u i)) out fits = replied g.whole
  own (reply.Ran (run.Deadlock cycle)) (Some (job.Run u i)) out fits = replied g.whole
  own (reply.Ran run.NoMemory) (Some (job.Run u i)) out fits = replied g.whole
  own (reply.Ran run.Lost) (Some (job.Run u i)) out fits = replied (λ is t place e. gone is)
  own (reply.Ended end.Done) (Some (job.Commit u)) out fits = committed u out
  own (reply.Ended end.Done) (Some (job.Rollback u)) out fits = rolled_back u out
  own (reply.Ended end.Lost) (Some (job.Commit u)) out fits = replied (λ is t place e. gone is)
  own (reply.Ended end.Lost) (Some (job.Rollback u)) out fits = replied (λ is t place e. gone is)
  own reply.StillLost (Some job.Restart) out fits = replied (λ is t place e. gone is)
  own _ _ out fits = cc fits

  -- of the reply of replica q, where that is r, and where it isn't
  abbrev Given : JobReply → Option ℕ → Bool → Type 0
  Given told primary here = Holds r primary (λ t. phase_of t h) (count (next_journal (call_if here r told (λ p. out_at p h) (stmt_at h)) (journal_of r h)))
      (λ t. length (attempt t (next_journal (call_if here r told (λ p. out_at p h) (stmt_at h)) (journal_of r h)))) (λ t. length (submits t h))
      (λ t. unless_ended t (call_if here r told (λ p. out_at p h) (stmt_at h)) (is_preempted r t h)) (if here then None else out_at r h)

  still_primary : (q : ℕ) (b : Bool) → (if b then other_than q (primary_of h) else primary_of h) ≡ Some r → primary_of h ≡ Some r
  still_primary q true is = (other_is q r (primary_of h) is).0
  still_primary q false is = is

  at_give : (q : ℕ) (told : JobReply) (here : Bool) → (q == r) ≡ here → fits_job told (out_at q h) ≡ true → HoldsAt r (record { caller = c; event = event.Give q told } ∷ h)
  at_give q told false e fits =
      subst (Given told (if tells_loss told then other_than q (primary_of h) else primary_of h)) (sym e) (no_other g (if tells_loss told then other_than q (primary_of h) else primary_of h) (still_primary q (tells_loss told)))
  at_give q told true e fits =
      let it = eqb-true q r e in
      subst (λ x. HoldsAt r (record { caller = c; event = event.Give x told } ∷ h)) (sym it)
      (subst (Given told (if tells_loss told then other_than r (primary_of h) else primary_of h)) (sym (eq-eqb r r refl)) (own told (out_at r h) refl (ap (λ x. fits_job told (out_at x h)) (sym it) ∙ fits)))

  abbrev AfterRestart : ℕ → Bool → Type 0
  AfterRestart n here = Holds r (primary_of h) (λ t. phase_of t h) (count (next_journal (restart_if here r n (λ p. out_at p h)) (journal_of r h)))
      (λ t. length (attempt t (next_journal (restart_if here r n (λ p. out_at p h)) (journal_of r h)))) (λ t. length (submits t h))
      (λ t. unless_ended t (restart_if here r n (λ p. out_at p h)) (is_preempted r t h)) (if here then None else out_at r h)

  at_restarted : (q n : ℕ) (here : Bool) → (q == r) ≡ here → out_at q h ≡ Some job.Restart → HoldsAt r (record { caller = c; event = event.Restarted q n } ∷ h)
  at_restarted q n false e out = subst (AfterRestart n) (sym e) g
  at_restarted q n true e out =
      let lost = (k.replicas r).lost (ap (λ x. out_at x h) (sym (eqb-true q r e)) ∙ out) in
      subst (AfterRestart n) (sym e) (replied (λ is t place d. absurd (not_both (settled (journal_of r h)).lost lost ((k.leads r).live is))))

  -- WHAT r IS GIVEN
  at_take : (q : ℕ) (j : Job) (here : Bool) → (q == r) ≡ here → q < 2 * f + 1 → IsJobOf (view_of f h) q j → HoldsAt r (record { caller = c; event = event.Take q j } ∷ h)
  at_take q j here e lt is =
      subst (λ b. Holds r (primary_of h) (λ t. phase_of t h) (count (journal_of r h)) (λ t. length (attempt t (journal_of r h))) (λ t. length (submits t h)) (λ t. is_preempted r t h) (if b then Some j else out_at r h)) (sym e) (by_test here e)
    where
      rolls : q ≡ r → (t place : ℕ) → j ≡ job.Rollback t → phase_of t h ≡ phase.Logged place → is_preempted r t h ≡ true
      rolls it t place same logged = subst (λ x. is_preempted x t h ≡ true) it (of (subst (IsJobOf (view_of f h) q) same is))
        where
          of : IsJobOf (view_of f h) q (job.Rollback t) → is_preempted q t h ≡ true
          of its =
              let rule = its.rule in
              let born = txn_born f t h rule.1 in
              elim (or_cases (is_ended (phase_in (view_of f h) t)) (attempt_in (view_of f h) q t).preempted (and_parts (attempt_in (view_of f h) q t).touched (is_ended (phase_in (view_of f h) t) || (attempt_in (view_of f h) q t).preempted) rule.2).1) [
                | inl ended ↦ absurd (not_ended (phase_in (view_of f h) t) place (phase_seen f t h born ∙ logged) ended)
                | inr was ↦ sym (preempted_seen f q h lt t) ∙ was
              ]

      by_test : (b : Bool) → (q == r) ≡ b → Holds r (primary_of h) (λ t. phase_of t h) (count (journal_of r h)) (λ t. length (attempt t (journal_of r h))) (λ t. length (submits t h)) (λ t. is_preempted r t h) (if b then Some j else out_at r h)
      by_test false d = g
      by_test true d = taken g j (rolls (eqb-true q r d))

  -- WHAT BECOMES OF TRANSACTIONS
  at_submit : (txn index : ℕ) (x : _) → is_open (phase_of txn h) ≡ true → HoldsAt r (record { caller = c; event = event.Submit txn index x } ∷ h)
  at_submit txn index x o = same_log g (λ t. phase_of t h) (λ t. length (submits t (record { caller = c; event = event.Submit txn index x } ∷ h))) (λ t place e. (e, ap (λ l. length l) (if_other txn t (submits t h ++ x ∷ []) (submits t h) (apart t place e))))
    where
      apart : (t place : ℕ) → phase_of t h ≡ phase.Logged place → txn ≡ t → ⊥
      apart t place e same = not_both (is_open (phase_of txn h)) o (ap (λ u. is_open (phase_of u h)) same ∙ ap is_open e)

  at_decide : (txn : ℕ) → IsBorn (length (begun h)) txn → is_asked (phase_of txn h) ≡ true → HoldsAt r (record { caller = c; event = event.Decide txn } ∷ h)
  at_decide txn born asked = record { whole = λ is t place e. held is t place e (same_or_not txn t); rolls = λ t place out e. rolls t place out e (same_or_not txn t) }
    where
      o : is_open (phase_of txn h) ≡ true
      o = asked_is_open (phase_of txn h) asked

      its : primary_of h ≡ Some r → (length (attempt txn (journal_of r h)) ≡ length (submits txn h)) × (is_preempted r txn h ≡ false)
      its is =
          let session = numbered_some (begun h) txn born in
          let l = (k.leads r).leads is txn o in
          (l.0 ∙ sym (asked_balance (phase_of txn h) (length (submits txn h)) (length (given_to txn h)) _ asked (k.numbers.balance txn session.0 session.1)), l.1)

      held : primary_of h ≡ Some r → (t place : ℕ) → phase_of t (record { caller = c; event = event.Decide txn } ∷ h) ≡ phase.Logged place → (txn ≡ t) ⊎ (txn ≡ t → ⊥)
          → IsHeld place (count (journal_of r h)) (length (attempt t (journal_of r h))) (length (submits t h)) (is_preempted r t h)
      held is t place e (inl same) = inr (subst (λ x. (length (attempt x (journal_of r h)) ≡ length (submits x h)) × (is_preempted r x h ≡ false)) same (its is))
      held is t place e (inr other) = g.whole is t place (sym (if_other txn t (phase.Logged (length (log h) + 1)) (phase_of t h) other) ∙ e)

      rolls : (t place : ℕ) → out_at r h ≡ Some (job.Rollback t) → phase_of t (record { caller = c; event = event.Decide txn } ∷ h) ≡ phase.Logged place → (txn ≡ t) ⊎ (txn ≡ t → ⊥) → is_preempted r t h ≡ true
      rolls t place out e (inl same) = elim ((k.leads r).rolls_back t out) [
        | inl closed ↦ absurd (not_both (is_open (phase_of t h)) (ap (λ x. is_open (phase_of x h)) (sym same) ∙ o) closed)
        | inr was ↦ was
      ]
      rolls t place out e (inr other) = g.rolls t place out (sym (if_other txn t (phase.Logged (length (log h) + 1)) (phase_of t h) other) ∙ e)

  at_new : (q : ℕ) → IsElected (view_of f h) (turn_of h) q → HoldsAt r (record { caller = c; event = event.NewPrimary q } ∷ h)
  at_new q is = elected g (Some q) (λ e t place logged. all (same_some q r e) t place logged)
    where
      all : q ≡ r → (t place : ℕ) → phase_of t h ≡ phase.Logged place → place ≤ count (journal_of r h)
      all e t place logged =
          let caught = eqb-true (replica_in (view_of f h) q).position (length (log h)) is.caught_up in
          let position = sym (position_seen f q h is.replica) ∙ caught in
          omega (arith, (numbered_born (log h) place t ((k.numbers.logged t place).0 logged)).1, ap (λ x. count (journal_of x h)) (sym e) ∙ position)

  at_preempt : (q txn : ℕ) → GivesWay (view_of f h) q txn → HoldsAt r (record { caller = c; event = event.Preempt q txn } ∷ h)
  at_preempt q txn is = by_test (q == r) refl
    where
      by_test : (b : Bool) → (q == r) ≡ b → HoldsAt r (record { caller = c; event = event.Preempt q txn } ∷ h)
      by_test false e =
          subst (λ b. Holds r (primary_of h) (λ t. phase_of t h) (count (journal_of r h)) (λ t. length (attempt t (journal_of r h))) (λ t. length (submits t h))
          (λ t. (b && (txn == t) && is_touched t (journal_of r h)) || is_preempted r t h) (out_at r h)) (sym e) g
      by_test true e =
          more_preempted g (λ t. ((q == r) && (txn == t) && is_touched t (journal_of r h)) || is_preempted r t h)
          (λ lead. not_both (is_some_of q (primary_of h)) (ap (is_some_of q) lead ∙ e) is.secondary)
          (λ t was. or_second ((q == r) && (txn == t) && is_touched t (journal_of r h)) (is_preempted r t h) was)

  step : (e : Event) → Begun f s (record { caller = c; event = e } ∷ h) → HoldsAt r (record { caller = c; event = e } ∷ h)
  step (event.Begin session txn) b =
      let a = begin_allowed f s c h session txn (call_allowed f s record { caller = c; event = event.Begin session txn } h b refl) in
      same_log g (λ t. phase_of t (record { caller = c; event = event.Begin session txn } ∷ h)) (λ t. length (submits t (record { caller = c; event = event.Begin session txn } ∷ h)))
      (λ t place e. (sym (phase_at_begin h k.numbers txn a.0 t) ∙ e, ap (λ l. length l) (submits_at_begin h k.numbers txn a.0 t)))
  step (event.Submit txn index x) b = at_submit txn index x (submit_allowed f s c h txn index x (call_allowed f s record { caller = c; event = event.Submit txn index x } h b refl)).0.is_open
  step (event.AskCommit txn) b = same_log g (λ t. phase_of t (record { caller = c; event = event.AskCommit txn } ∷ h)) (λ t. length (submits t h)) (λ t place e. (unlogged txn t _ (phase_of t h) place (λ n x. cc x) e, refl))
  step (event.AskRollback txn) b = same_log g (λ t. phase_of t (record { caller = c; event = event.AskRollback txn } ∷ h)) (λ t. length (submits t h)) (λ t place e. (unlogged txn t phase.RolledBack (phase_of t h) place (λ n x. cc x) e, refl))
  step (event.Refuse txn x) b = same_log g (λ t. phase_of t (record { caller = c; event = event.Refuse txn x } ∷ h)) (λ t. length (submits t h)) (λ t place e. (unlogged txn t phase.Refused (phase_of t h) place (λ n y. cc y) e, refl))
  step (event.Take q j) b = let a = take_allowed f s c h q j (call_allowed f s record { caller = c; event = event.Take q j } h b refl) in at_take q j (q == r) refl a.0 a.1
  step (event.Give q told) b = at_give q told (q == r) refl (give_allowed f s c h q told (call_allowed f s record { caller = c; event = event.Give q told } h b refl)).1
  step (event.Restarted q n) b = at_restarted q n (q == r) refl (restart_allowed f s c h q n (call_allowed f s record { caller = c; event = event.Restarted q n } h b refl)).1
  step event.Suspect b = no_other g None (λ is. absurd (some_none r (sym is)))
  step (event.Decide txn) b =
      let rule = by_rule f s record { caller = c; event = event.Decide txn } h b refl in
      let born = txn_born f txn h rule.0 in
      at_decide txn born (decided_asked f txn h born rule.1)
  step (event.Convict q x) b = no_other g (other_than q (primary_of h)) (λ is. (other_is q r (primary_of h) is).0)
  step (event.NewPrimary q) b = at_new q (by_rule f s record { caller = c; event = event.NewPrimary q } h b refl)
  step (event.Preempt q txn) b = at_preempt q txn (by_rule f s record { caller = c; event = event.Preempt q txn } h b refl)

pub holds : (f s r : ℕ) (h : History) → Begun f s h → HoldsAt r h
holds f s r [] b = record { whole = λ is t place e. absurd (unborn place e); rolls = λ t place o e. absurd (some_none (job.Rollback t) (sym o)) }
  where
    unborn : (place : ℕ) → phase.Active ≡ phase.Logged place → ⊥
    unborn place e = cc e
holds f s r (e ∷ h) b = step f s e.caller r h (kept f s h (begun_before f s e h b)) (holds f s r h (begun_before f s e h b)) e.event b
