-- A session that waits has an open transaction: one whose commit is asked for, or that has a statement without an answer.
use Rattle.std.proofs.Common.{◌≡◌, inl, inr, ℕ, ◌+◌, ◌==◌, Bool, true, false, ◌&&◌, if◌then◌else◌, Some, List, [], ◌∷◌, ◌++◌, length, length-append, refl, ap, sym, ◌∙◌, subst, arith}
use Rattle.std.proofs.lemmas.Bool.{eq-eqb, ne_eqb}
use Rattle.hr_engine.specs.declared.reply.RunReply.TheVariants as run
use Rattle.hr_history.specs.declared.entry.Event.{Event}
use Rattle.hr_history.specs.declared.entry.Event.TheVariants as event
use Rattle.hr_history.specs.declared.job.JobReply.{JobReply}
use Rattle.hr_history.specs.declared.job.JobReply.TheVariants as reply
use Rattle.hr_history.specs.declared.phase.Phase.{Phase}
use Rattle.hr_history.specs.declared.phase.Phase.TheVariants as phase
use Rattle.hr_history.specs.declared.reply.Reply.{Reply}
use Rattle.hr_history.specs.declared.reply.Reply.TheVariants as told
use Rattle.hr_history.specs.History.{History}
use Rattle.hr_history.specs.Transactions.{begun, session_of, submits, log, asks, phase_of, is_open, is_asked}
use Rattle.hr_history.specs.Given.{Given, given_to}
use Rattle.hr_history.specs.Primary.{is_some_of}
use Rattle.hr_history.specs.Replicas.{out_at}
use Rattle.hr_history.specs.Replies.{ReplyState, NothingAsked, Waiting, Replied, reply_to, reply_if, is_waiting, is_of, gives_to, cause_told}
use Rattle.hr_history.specs.Faithful.{Begun, fits_job}
use Rattle.hr_history.proofs.StepLemmas.{call_allowed}
use Rattle.hr_records.specs.Numbers.{IsBalanced}
use Rattle.hr_records.specs.Kept.{Kept}
use Rattle.hr_records.proofs.Options.{same_some}
use Rattle.hr_records.proofs.Places.{same_or_not, if_same, if_other, numbered_front}
use Rattle.hr_records.proofs.NumberSteps.{not_both, settled_balance}
use Rattle.hr_records.proofs.NumberLemmas.{phase_at_begin, submits_at_begin, given_at_begin, not_replied}
use Rattle.hr_records.proofs.GiveLemmas.{is_given, given_not, no_more}
use Rattle.hr_records.proofs.Allowed.{GoesOn, begin_allowed, submit_allowed, give_allowed, may_go_on, ran_out}
use Rattle.hr_records.proofs.KeptLemmas.{kept}
use Rattle.hr_records.proofs.RuleLemmas.{begun_before}
use Rattle.hr_schedule.specs.Sessions.{IsPending, HasPending}

carry : (t : ℕ) (h now : History) → phase_of t now ≡ phase_of t h → given_to t now ≡ given_to t h → submits t now ≡ submits t h → IsPending t h → IsPending t now
carry t h now p g s pending = record {
  is_open = ap is_open p ∙ pending.is_open;
  owed = elim pending.owed [ inl asked ↦ inl (ap is_asked p ∙ asked) | inr less ↦ inr (omega (arith, less, ap (λ (l : List Given). length l) g, ap (λ l. length l) s)) ];
}

replied : (r : Reply) (x : ReplyState) → is_waiting (reply_if true r x) ≡ true → ⊥
replied r NothingAsked w = cc
replied r Waiting w = cc
replied r (Replied first) w = cc

-- a reply to others leaves who waits
waits_on : (b : Bool) (r : Reply) (x : ReplyState) → is_waiting (reply_if b r x) ≡ true → (b ≡ false) × (is_waiting x ≡ true)
waits_on true r x w = absurd (replied r x w)
waits_on false r x w = (refl, sym (ap is_waiting (not_replied r x)) ∙ w)

and_false : (a b : Bool) → a ≡ true → (a && b) ≡ false → b ≡ false
and_false true b e no_both = no_both
and_false false b e no_both = cc

module _ (f s c : ℕ) (h : History) (k : Kept h) (before : (q : ℕ) → is_waiting (reply_to q h) ≡ true → HasPending q h) where
  its_session : (t q p : ℕ) → session_of t h ≡ Some q → session_of t h ≡ Some p → q ≡ p
  its_session t q p a b = same_some q p (sym a ∙ b)

  -- the transaction of another session, or of this one where it isn't the same
  another : (t txn q : ℕ) → session_of t h ≡ Some q → is_of q txn h ≡ false → txn ≡ t → ⊥
  another t txn q its not_its same = not_both (is_of q txn h) (ap (λ u. is_of q u h) same ∙ ap (is_some_of q) its ∙ eq-eqb q q refl) not_its

  other_session : (txn : ℕ) (on : GoesOn txn h) (q : ℕ) → (q ≡ on.session → ⊥) → is_of q txn h ≡ false
  other_session txn on q other = ap (is_some_of q) on.its ∙ ne_eqb q on.session other

  step_submit : (txn index : ℕ) (stmt : _) → GoesOn txn h → (q : ℕ) → is_waiting (if is_of q txn h then Waiting else reply_to q h) ≡ true
      → HasPending q (record { caller = c; event = event.Submit txn index stmt } ∷ h)
  step_submit txn index stmt on q w = elim (same_or_not q on.session) [
    | inl same ↦
        let even : length (submits txn h) ≡ length (given_to txn h) =
        settled_balance (phase_of txn h) (length (submits txn h)) (length (given_to txn h)) on.is_open
        (subst (IsBalanced (phase_of txn h) (length (submits txn h)) (length (given_to txn h))) on.idle (k.numbers.balance txn on.session on.its)) in
        let more : length (if txn == txn then submits txn h ++ stmt ∷ [] else submits txn h) ≡ length (submits txn h) + 1 =
        ap (λ l. length l) (if_same txn txn (submits txn h ++ stmt ∷ []) (submits txn h) refl) ∙ length-append (submits txn h) (stmt ∷ []) in
        (txn, on.its ∙ ap Some (sym same), record { is_open = on.is_open; owed = inr (omega (arith, even, more)) })
    | inr other ↦
        let not_its = other_session txn on q other in
        let p = before q (sym (ap (λ b. is_waiting (if b then Waiting else reply_to q h)) not_its) ∙ w) in
        (p.0, p.1, carry p.0 h (record { caller = c; event = event.Submit txn index stmt } ∷ h) refl refl (if_other txn p.0 _ (submits p.0 h) (another p.0 txn q p.1 not_its)) p.2)
  ]

  step_ask : (txn : ℕ) → GoesOn txn h → (q : ℕ) → is_waiting (if is_of q txn h then Waiting else reply_to q h) ≡ true
      → HasPending q (record { caller = c; event = event.AskCommit txn } ∷ h)
  step_ask txn on q w = elim (same_or_not q on.session) [
    | inl same ↦
        let now : (if txn == txn then phase.Asked (asks h + 1) else phase_of txn h) ≡ phase.Asked (asks h + 1) = if_same txn txn _ (phase_of txn h) refl in
        (txn, on.its ∙ ap Some (sym same), record { is_open = ap is_open now; owed = inl (ap is_asked now) })
    | inr other ↦
        let not_its = other_session txn on q other in
        let p = before q (sym (ap (λ b. is_waiting (if b then Waiting else reply_to q h)) not_its) ∙ w) in
        (p.0, p.1, carry p.0 h (record { caller = c; event = event.AskCommit txn } ∷ h) (if_other txn p.0 _ (phase_of p.0 h) (another p.0 txn q p.1 not_its)) refl refl p.2)
  ]

  step_rollback : (txn : ℕ) → GoesOn txn h → (q : ℕ) → is_waiting (reply_to q h) ≡ true → HasPending q (record { caller = c; event = event.AskRollback txn } ∷ h)
  step_rollback txn on q w =
      let p = before q w in
      let apart : txn ≡ p.0 → ⊥ = λ same.
      not_both (is_waiting (reply_to q h)) w (ap (λ x. is_waiting (reply_to x h)) (its_session p.0 q on.session p.1 (ap (λ u. session_of u h) (sym same) ∙ on.its)) ∙ on.idle) in
      (p.0, p.1, carry p.0 h (record { caller = c; event = event.AskRollback txn } ∷ h) (if_other txn p.0 phase.RolledBack (phase_of p.0 h) apart) refl refl p.2)

  -- a decision or a refusal of txn, which leaves it in this phase
  step_end : (txn : ℕ) (now : History) (end : Phase) (r : Reply) (q : ℕ) → is_waiting (reply_if (is_of q txn h) r (reply_to q h)) ≡ true
      → ((t : ℕ) → session_of t now ≡ session_of t h) → ((t : ℕ) → phase_of t now ≡ (if txn == t then end else phase_of t h))
      → ((t : ℕ) → given_to t now ≡ given_to t h) → ((t : ℕ) → submits t now ≡ submits t h) → HasPending q now
  step_end txn now end r q w sessions phases givens statements =
      let on = waits_on (is_of q txn h) r (reply_to q h) w in
      let p = before q on.1 in
      (p.0, sessions p.0 ∙ p.1, carry p.0 h now (phases p.0 ∙ if_other txn p.0 end (phase_of p.0 h) (another p.0 txn q p.1 on.0)) (givens p.0) (statements p.0) p.2)

  step_done : (r : ℕ) (a : _) → fits_job (reply.Ran (run.Done a)) (out_at r h) ≡ true → (q : ℕ) → is_waiting (reply_if (gives_to q r (out_at r h) h) (told.Answered a) (reply_to q h)) ≡ true
      → HasPending q (record { caller = c; event = event.Give r (reply.Ran (run.Done a)) } ∷ h)
  step_done r a fits q w =
      let on = waits_on (gives_to q r (out_at r h) h) (told.Answered a) (reply_to q h) w in
      let p = before q on.1 in
      let o = ran_out (run.Done a) (out_at r h) fits in
      let both : (is_of q o.0 h && is_given o.0 r h) ≡ false = sym (ap (λ (j : _). gives_to q r j h) o.2) ∙ on.0 in
      let none : is_given p.0 r h ≡ false = elim (same_or_not o.0 p.0) [
        | inl same ↦ ap (λ u. is_given u r h) (sym same) ∙ and_false (is_of q o.0 h) (is_given o.0 r h) (ap (λ u. is_of q u h) same ∙ ap (is_some_of q) p.1 ∙ eq-eqb q q refl) both
        | inr other ↦ given_not p.0 o.0 o.1 r h o.2 other
      ] in
      (p.0, p.1, carry p.0 h (record { caller = c; event = event.Give r (reply.Ran (run.Done a)) } ∷ h) refl (no_more (is_given p.0 r h) _ (given_to p.0 h) none) refl p.2)

  same_as_before : (now : History) → ((t : ℕ) → session_of t now ≡ session_of t h) → ((t : ℕ) → phase_of t now ≡ phase_of t h) → ((t : ℕ) → given_to t now ≡ given_to t h)
      → ((t : ℕ) → submits t now ≡ submits t h) → (q : ℕ) → is_waiting (reply_to q h) ≡ true → HasPending q now
  same_as_before now sessions phases givens statements q w =
      let p = before q w in
      (p.0, sessions p.0 ∙ p.1, carry p.0 h now (phases p.0) (givens p.0) (statements p.0) p.2)

  step_give : (r : ℕ) (x : JobReply) → fits_job x (out_at r h) ≡ true → (q : ℕ) → is_waiting (reply_to q (record { caller = c; event = event.Give r x } ∷ h)) ≡ true
      → HasPending q (record { caller = c; event = event.Give r x } ∷ h)
  step_give r (reply.Ran (run.Done a)) fits q w = step_done r a fits q w
  step_give r (reply.Ran (run.Blocked named)) fits q w = same_as_before _ (λ t. refl) (λ t. refl) (λ t. refl) (λ t. refl) q w
  step_give r (reply.Ran (run.Deadlock cycle)) fits q w = same_as_before _ (λ t. refl) (λ t. refl) (λ t. refl) (λ t. refl) q w
  step_give r (reply.Ran run.Lost) fits q w = same_as_before _ (λ t. refl) (λ t. refl) (λ t. refl) (λ t. refl) q w
  step_give r (reply.Ran run.NoMemory) fits q w = same_as_before _ (λ t. refl) (λ t. refl) (λ t. refl) (λ t. refl) q w
  step_give r (reply.Ended x) fits q w = same_as_before _ (λ t. refl) (λ t. refl) (λ t. refl) (λ t. refl) q w
  step_give r reply.StillLost fits q w = same_as_before _ (λ t. refl) (λ t. refl) (λ t. refl) (λ t. refl) q w

  step : (e : Event) → Begun f s (record { caller = c; event = e } ∷ h) → (q : ℕ) → is_waiting (reply_to q (record { caller = c; event = e } ∷ h)) ≡ true
      → HasPending q (record { caller = c; event = e } ∷ h)
  step (event.Begin session txn) b q w =
      let a = begin_allowed f s c h session txn (call_allowed f s record { caller = c; event = event.Begin session txn } h b refl) in
      let p = before q w in
      (p.0, numbered_front (begun h) (session ∷ []) p.0 q p.1, carry p.0 h (record { caller = c; event = event.Begin session txn } ∷ h) (phase_at_begin h k.numbers txn a.0 p.0) (given_at_begin h k.numbers txn a.0 p.0) (submits_at_begin h k.numbers txn a.0 p.0) p.2)
  step (event.Submit txn index stmt) b q w =
      step_submit txn index stmt (submit_allowed f s c h txn index stmt (call_allowed f s record { caller = c; event = event.Submit txn index stmt } h b refl)).0 q w
  step (event.AskCommit txn) b q w = step_ask txn (may_go_on f c txn h (call_allowed f s record { caller = c; event = event.AskCommit txn } h b refl)) q w
  step (event.AskRollback txn) b q w = step_rollback txn (may_go_on f c txn h (call_allowed f s record { caller = c; event = event.AskRollback txn } h b refl)) q w
  step (event.Give r x) b q w = step_give r x (give_allowed f s c h r x (call_allowed f s record { caller = c; event = event.Give r x } h b refl)).1 q w
  step (event.Decide txn) b q w = step_end txn _ (phase.Logged (length (log h) + 1)) (told.Committed (length (log h) + 1)) q w (λ t. refl) (λ t. refl) (λ t. refl) (λ t. refl)
  step (event.Refuse txn x) b q w = step_end txn _ phase.Refused (told.Refused (cause_told txn x h)) q w (λ t. refl) (λ t. refl) (λ t. refl) (λ t. refl)
  step (event.Take r j) b q w = same_as_before _ (λ t. refl) (λ t. refl) (λ t. refl) (λ t. refl) q w
  step (event.Restarted r n) b q w = same_as_before _ (λ t. refl) (λ t. refl) (λ t. refl) (λ t. refl) q w
  step event.Suspect b q w = same_as_before _ (λ t. refl) (λ t. refl) (λ t. refl) (λ t. refl) q w
  step (event.Convict r x) b q w = same_as_before _ (λ t. refl) (λ t. refl) (λ t. refl) (λ t. refl) q w
  step (event.NewPrimary r) b q w = same_as_before _ (λ t. refl) (λ t. refl) (λ t. refl) (λ t. refl) q w
  step (event.Preempt r txn) b q w = same_as_before _ (λ t. refl) (λ t. refl) (λ t. refl) (λ t. refl) q w

pub waits_for : (f s : ℕ) (h : History) → Begun f s h → (q : ℕ) → is_waiting (reply_to q h) ≡ true → HasPending q h
waits_for f s [] b q w = cc
waits_for f s (e ∷ h) b q w =
    let earlier = begun_before f s e h b in
    step f s e.caller h (kept f s h earlier) (waits_for f s h earlier) e.event b q w
