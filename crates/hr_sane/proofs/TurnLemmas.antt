-- What a turn keeps, one entry later.
use Rattle.std.proofs.Common.{◌≡◌, ℕ, ◌+◌, ◌*◌, ◌<◌, not, if◌then◌else◌, ◌∷◌, length, refl, ap, sym}
use Rattle.hr_base.specs.Lists.{when}
use Rattle.hr_engine.specs.Base.{count}
use Rattle.hr_history.specs.declared.entry.Entry.{Entry}
use Rattle.hr_history.specs.declared.entry.Event.{Event}
use Rattle.hr_history.specs.declared.entry.Event.TheVariants as event
use Rattle.hr_history.specs.History.{History, is_call}
use Rattle.hr_history.specs.Replicas.{journal_of}
use Rattle.hr_history.specs.Turn.{went, bad_count, next_went, next_bad_count, is_sound_count, turn_of}
use Rattle.hr_history.specs.View.{view_of}
use Rattle.hr_history.specs.Processed.{replica_in}
use Rattle.hr_history.specs.Faithful.{Begun}
use Rattle.hr_history.proofs.StepLemmas.{replica_lookup, call_allowed}
use Rattle.hr_records.proofs.Allowed.{restart_allowed}
use Rattle.hr_moves.specs.TurnSteps.{is_sound_at, went_after, bad_count_after, turn_step}

-- a count is sound by the view where it is by the journal
pub sound_same : (f r told : ℕ) (h : History) → r < 2 * f + 1 → is_sound_count told (journal_of r h) ≡ is_sound_at told (replica_in (view_of f h) r)
sound_same f r told h lt = sym (ap (is_sound_at told) (replica_lookup f r h lt))

went_same : (f : ℕ) (e : Event) (h : History) → next_went e h (went h) ≡ went_after (view_of f h) (length h) e (went h)
went_same f (event.Give q told) h = refl
went_same f event.Suspect h = refl
went_same f (event.Convict q x) h = refl
went_same f (event.Begin session txn) h = refl
went_same f (event.Submit txn index stmt) h = refl
went_same f (event.AskCommit txn) h = refl
went_same f (event.AskRollback txn) h = refl
went_same f (event.Take q j) h = refl
went_same f (event.Restarted q count) h = refl
went_same f (event.Decide txn) h = refl
went_same f (event.Refuse txn cause) h = refl
went_same f (event.NewPrimary q) h = refl
went_same f (event.Preempt q t) h = refl

bad_same : (f s c : ℕ) (e : Event) (h : History) → Begun f s (record { caller = c; event = e } ∷ h) → next_bad_count e h (bad_count h) ≡ bad_count_after (view_of f h) e (bad_count h)
bad_same f s c (event.Restarted q told) h start =
    let lt = (restart_allowed f s c h q told (call_allowed f s record { caller = c; event = event.Restarted q told } h start refl)).0 in
    ap (λ b. when (not b) record { replica = q; count = told }) (sound_same f q told h lt)
bad_same f s c (event.Give q told) h start = refl
bad_same f s c event.Suspect h start = refl
bad_same f s c (event.Convict q x) h start = refl
bad_same f s c (event.Begin session txn) h start = refl
bad_same f s c (event.Submit txn index stmt) h start = refl
bad_same f s c (event.AskCommit txn) h start = refl
bad_same f s c (event.AskRollback txn) h start = refl
bad_same f s c (event.Take q j) h start = refl
bad_same f s c (event.Decide txn) h start = refl
bad_same f s c (event.Refuse txn cause) h start = refl
bad_same f s c (event.NewPrimary q) h start = refl
bad_same f s c (event.Preempt q t) h start = refl

pub turn_same : (f s : ℕ) (e : Entry) (h : History) → Begun f s (e ∷ h) → turn_of (e ∷ h) ≡ turn_step (view_of f h) (turn_of h) (length h) e.event
turn_same f s e h start = λ i. record {
  start = if is_call e.event then length h else (turn_of h).start;
  went = went_same f e.event h i;
  bad_count = bad_same f s e.caller e.event h start i;
  owed = (turn_of (e ∷ h)).owed;
}
