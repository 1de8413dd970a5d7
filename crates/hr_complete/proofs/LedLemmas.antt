-- A primary that is correct, never lost and never suspected stays.
use Rattle.std.proofs.Common.{◌≡◌, inl, inr, ⊎_elim, ℕ, ◌+◌, ◌*◌, ◌<◌, Bool, true, false, ◌&&◌, ◌||◌, ◌==◌, if◌then◌else◌, Option, Some, None, [], ◌∷◌, length, refl, ap, sym, ◌∙◌, subst, arith}
use Rattle.std.proofs.lemmas.Bool.{eqb-true}
use Rattle.hr_rel.specs.Database.{Database}
use Rattle.hr_history.specs.declared.cause.CauseAt.{CauseAt}
use Rattle.hr_history.specs.declared.cause.CauseAt.TheVariants as cause
use Rattle.hr_history.specs.declared.cause.Why.TheVariants as why
use Rattle.hr_history.specs.declared.entry.Entry.{Entry}
use Rattle.hr_history.specs.declared.entry.Event.{Event}
use Rattle.hr_history.specs.declared.entry.Event.TheVariants as event
use Rattle.hr_history.specs.declared.evidence.Evidence.{Evidence}
use Rattle.hr_history.specs.declared.evidence.Evidence.TheVariants as evidence
use Rattle.hr_history.specs.History.{History}
use Rattle.hr_history.specs.Replicas.{journal_of, call_at, is_convicted, tells_loss}
use Rattle.hr_history.specs.Primary.{primary_of, is_some_of, other_than}
use Rattle.hr_history.specs.Turn.{Gone, gone_if, turn_of, went}
use Rattle.hr_history.specs.View.{view_of}
use Rattle.hr_history.specs.Faithful.{Begun, Correct}
use Rattle.hr_records.specs.ByRule.{HasEvidence}
use Rattle.hr_records.proofs.Options.{some_none}
use Rattle.hr_records.proofs.RuleLemmas.{begun_before, by_rule}
use Rattle.hr_serial.specs.Serial.{LiarsAreAtMost}
use Rattle.hr_serial.proofs.SerialLemmas.{rigorous_before, fewer_before, few_throughout}
use Rattle.hr_barriers.proofs.ProcessedLemmas.{primary_within}
use Rattle.hr_convictions.proofs.CountLemmas.{restart_never}
use Rattle.hr_convictions.proofs.ReplyLemmas.{blocked_never, deadlock_never}
use Rattle.hr_convictions.proofs.DifferLemmas.{differs_never}
use Rattle.hr_convictions.proofs.OwedLemmas.{contradicted_never, refused_as}
use Rattle.hr_complete.specs.Undisturbed.{IsUndisturbed, IsLed, IsPrimarysReply}

-- PREMISES
pub undisturbed_led : (f : ℕ) (db : Database) (h : History) → IsUndisturbed f db h → IsLed f db h
undisturbed_led f db h is = record {
  correct = is.correct 0 (omega arith);
  few = ([], omega arith, λ r lt none. is.correct r lt);
  not_lost = is.not_lost 0;
  unsuspected = is.unsuspected;
}

led_before : (f : ℕ) (db : Database) (e : Entry) (h : History) → IsLed f db (e ∷ h) → IsLed f db h
led_before f db e h is = record {
  correct = rigorous_before db (call_at 0 e.event h) (journal_of 0 h) is.correct;
  few = fewer_before f f db e h is.few;
  not_lost = (is.not_lost).0;
  unsuspected = (is.unsuspected).0;
}

undisturbed_before : (f : ℕ) (db : Database) (e : Entry) (h : History) → IsUndisturbed f db (e ∷ h) → IsUndisturbed f db h
undisturbed_before f db e h is = record {
  correct = λ r lt. rigorous_before db (call_at r e.event h) (journal_of r h) (is.correct r lt);
  not_lost = λ r. (is.not_lost r).0;
  unsuspected = (is.unsuspected).0;
}

-- NO CONVICTION
-- no correct replica is convicted, whatever the evidence
never_convicted : (f s c r : ℕ) (x : Evidence) (db : Database) (h : History) → Begun f s (record { caller = c; event = event.Convict r x } ∷ h) → Correct db h r → LiarsAreAtMost f f db h → ⊥
never_convicted f s c r (evidence.Contradicted t i) db h b correct few = contradicted_never f s c r t i db h b correct few
never_convicted f s c r (evidence.Differs t i) db h b correct few = differs_never f s c r t i db h b correct (few_throughout f db h few)
never_convicted f s c r (evidence.BadBlocked t) db h b correct few = blocked_never f s c r t db h b correct
never_convicted f s c r (evidence.BadDeadlock t) db h b correct few = deadlock_never f s c r t db h b correct
never_convicted f s c r (evidence.BadRestart n) db h b correct few = restart_never f s c r n db h b correct

-- who is convicted is a replica of the hall
convicted_within : (f s c r : ℕ) (x : Evidence) (h : History) → Begun f s (record { caller = c; event = event.Convict r x } ∷ h) → r < 2 * f + 1
convicted_within f s c r x h b = by_case (by_rule f s record { caller = c; event = event.Convict r x } h b refl)
  where
    by_case : HasEvidence (view_of f h) (turn_of h) r x → r < 2 * f + 1
    by_case (inl by) = by.0
    by_case (inr owed) = primary_within f s r h (begun_before f s record { caller = c; event = event.Convict r x } h b) owed.2

unconvicted_by : (f s c r : ℕ) (e : Event) (db : Database) (h : History) → Begun f s (record { caller = c; event = e } ∷ h) → IsUndisturbed f db h → is_convicted r h ≡ false
    → is_convicted r (record { caller = c; event = e } ∷ h) ≡ false
unconvicted_by f s c r (event.Convict q x) db h b is rest = absurd (never_convicted f s c q x db h b (is.correct q (convicted_within f s c q x h b)) (undisturbed_led f db h is).few)
unconvicted_by f s c r _ db h b is rest = rest

pub unconvicted : (f s r : ℕ) (db : Database) (h : History) → Begun f s h → IsUndisturbed f db h → is_convicted r h ≡ false
unconvicted f s r db [] b is = refl
unconvicted f s r db (e ∷ h) b is =
    unconvicted_by f s e.caller r e.event db h b (undisturbed_before f db e h is) (unconvicted f s r db h (begun_before f s e h b) (undisturbed_before f db e h is))

-- THE PRIMARY STAYS
-- replica 0 is the primary, and in this turn none went
abbrev pub Stays : History → Type 0
Stays h = (primary_of h ≡ Some 0) × (went h ≡ None)

still : (q : ℕ) (b x : Bool) → (q == 0) ≡ b → (x && b) ≡ false → ((if x then other_than q (Some 0) else Some 0) ≡ Some 0) × ((x && is_some_of q (Some 0)) ≡ false)
still q true true e d = cc d
still q b false e d = (refl, refl)
still q false true e d = (ap (λ y. if y then None else Some 0) e, e)

module _ (f s c : ℕ) (db : Database) (h : History) (is : IsLed f db h) (was : Stays h) where
  replied : (q : ℕ) (told : _) → (tells_loss told && (q == 0)) ≡ false → Stays (record { caller = c; event = event.Give q told } ∷ h)
  replied q told none =
      let now = still q (q == 0) (tells_loss told) refl none in (
        ap (λ o. if tells_loss told then other_than q o else o) was.0 ∙ now.0,
        ap (λ o. gone_if (tells_loss told && is_some_of q o) q why.Lost (length h)) was.0 ∙ ap (λ b. gone_if b q why.Lost (length h)) now.1,
      )

  another : (q : ℕ) (x : Evidence) → (q == 0) ≡ false → Stays (record { caller = c; event = event.Convict q x } ∷ h)
  another q x other = (
    ap (other_than q) was.0 ∙ ap (λ y. if y then None else Some 0) other,
    ap (λ o. if is_some_of q o then Some record { from = q; why = why.Convicted; at = length h } else went h) was.0
        ∙ ap (λ y. if y then Some record { from = q; why = why.Convicted; at = length h } else went h) other
        ∙ was.1,
  )

  stays_by : (e : Event) → Begun f s (record { caller = c; event = e } ∷ h) → IsLed f db (record { caller = c; event = e } ∷ h) → Stays (record { caller = c; event = e } ∷ h)
  stays_by (event.Give q told) b now = replied q told (now.not_lost).1
  stays_by event.Suspect b now = absurd (never (now.unsuspected).1)
    where
      never : true ≡ false → ⊥
      never e = cc e
  stays_by (event.Convict q x) b now = by_test (q == 0) refl
    where
      by_test : (y : Bool) → (q == 0) ≡ y → Stays (record { caller = c; event = event.Convict q x } ∷ h)
      by_test true e = absurd (never_convicted f s c q x db h b (subst (Correct db h) (sym (eqb-true q 0 e)) is.correct) is.few)
      by_test false e = another q x e
  stays_by (event.NewPrimary q) b now = absurd (some_none 0 (sym was.0 ∙ (by_rule f s record { caller = c; event = event.NewPrimary q } h b refl).vacant))
  stays_by (event.Decide txn) b now = was
  stays_by (event.Refuse txn x) b now = was
  stays_by (event.Preempt q txn) b now = was
  stays_by (event.Begin session txn) b now = (was.0, refl)
  stays_by (event.Submit txn index stmt) b now = (was.0, refl)
  stays_by (event.AskCommit txn) b now = (was.0, refl)
  stays_by (event.AskRollback txn) b now = (was.0, refl)
  stays_by (event.Take q j) b now = (was.0, refl)
  stays_by (event.Restarted q n) b now = (was.0, refl)

pub stays : (f s : ℕ) (db : Database) (h : History) → Begun f s h → IsLed f db h → Stays h
stays f s db [] b is = (refl, refl)
stays f s db (e ∷ h) b is =
    let before = led_before f db e h is in
    stays_by f s e.caller db h before (stays f s db h (begun_before f s e h b) before) e.event b is

-- WHY IT REFUSES
pub for_reply : (f s c t : ℕ) (x : CauseAt) (db : Database) (h : History) → Begun f s (record { caller = c; event = event.Refuse t x } ∷ h) → IsLed f db h → IsPrimarysReply x
for_reply f s c t (cause.Deadlock at) db h b is = inl (at, refl)
for_reply f s c t (cause.PrimaryMemory at) db h b is = inr (at, refl)
for_reply f s c t (cause.PrimaryChanged from because at) db h b is =
    let e : Entry = record { caller = c; event = event.Refuse t (cause.PrimaryChanged from because at) } in
    absurd (some_none _ (sym (by_rule f s e h b refl).1 ∙ (stays f s db h (begun_before f s e h b) is).1))
for_reply f s c t (cause.Differ index by at) db h b is =
    let e : Entry = record { caller = c; event = event.Refuse t (cause.Differ index by at) } in
    absurd (refused_as f s c t index by at 0 db h b (stays f s db h (begun_before f s e h b) is).0 is.correct is.few)
