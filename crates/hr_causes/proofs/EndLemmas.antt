-- A transaction ends once.
use Rattle.std.proofs.Common.{◌≡◌, ℕ, ◌+◌, Bool, true, false, List, [], ◌∷◌, ◌++◌, length, refl, ap, sym, ◌∙◌}
use Rattle.std.proofs.lemmas.Bool.{eqb-true}
use Rattle.hr_history.specs.declared.entry.Entry.{Entry}
use Rattle.hr_history.specs.declared.entry.Event.{Event}
use Rattle.hr_history.specs.declared.entry.Event.TheVariants as event
use Rattle.hr_history.specs.declared.phase.Phase.TheVariants as phase
use Rattle.hr_history.specs.History.{History}
use Rattle.hr_history.specs.Transactions.{phase_of, is_open, log}
use Rattle.hr_history.specs.Faithful.{Begun}
use Rattle.hr_history.proofs.StepLemmas.{call_allowed}
use Rattle.hr_records.proofs.Places.{if_same}
use Rattle.hr_records.proofs.NumberSteps.{not_both}
use Rattle.hr_records.proofs.Allowed.{may_go_on}
use Rattle.hr_records.proofs.RuleLemmas.{begun_before, by_rule, asked_is_open}
use Rattle.hr_records.proofs.ViewWords.{txn_born, open_seen}
use Rattle.hr_records.proofs.KeptLemmas.{kept, decided_asked}
use Rattle.hr_records.proofs.Closed.{phase_stands}
use Rattle.hr_causes.specs.Endings.{ends}

module _ (f s c t : ℕ) (h : History) where
  -- what ends was open
  was_open_by : (e : Event) → Begun f s (record { caller = c; event = e } ∷ h) → ends t e ≡ true → is_open (phase_of t h) ≡ true
  was_open_by (event.AskRollback txn) b is =
      ap (λ u. is_open (phase_of u h)) (sym (eqb-true txn t is)) ∙ (may_go_on f c txn h (call_allowed f s record { caller = c; event = event.AskRollback txn } h b refl)).is_open
  was_open_by (event.Decide txn) b is =
      let rule = by_rule f s record { caller = c; event = event.Decide txn } h b refl in
      ap (λ u. is_open (phase_of u h)) (sym (eqb-true txn t is)) ∙ asked_is_open (phase_of txn h) (decided_asked f txn h (txn_born f txn h rule.0) rule.1)
  was_open_by (event.Refuse txn x) b is =
      ap (λ u. is_open (phase_of u h)) (sym (eqb-true txn t is)) ∙ (open_seen f txn h (by_rule f s record { caller = c; event = event.Refuse txn x } h b refl).0).1
  was_open_by _ b is = cc is

  -- and isn't any more
  is_closed_by : (e : Event) → ends t e ≡ true → is_open (phase_of t (record { caller = c; event = e } ∷ h)) ≡ false
  is_closed_by (event.AskRollback txn) is = ap is_open (if_same txn t phase.RolledBack (phase_of t h) (eqb-true txn t is))
  is_closed_by (event.Decide txn) is = ap is_open (if_same txn t (phase.Logged (length (log h) + 1)) (phase_of t h) (eqb-true txn t is))
  is_closed_by (event.Refuse txn x) is = ap is_open (if_same txn t phase.Refused (phase_of t h) (eqb-true txn t is))
  is_closed_by _ is = cc is

-- what isn't open never is again
pub stays_closed : (f s t : ℕ) (more : List Entry) (h : History) → Begun f s (more ++ h) → is_open (phase_of t h) ≡ false → is_open (phase_of t (more ++ h)) ≡ false
stays_closed f s t [] h b closed = closed
stays_closed f s t (e ∷ more) h b closed =
    let b_before = begun_before f s e (more ++ h) b in
    let before = stays_closed f s t more h b_before closed in
    ap is_open (phase_stands f s e (more ++ h) (kept f s (more ++ h) b_before) b t before) ∙ before

-- so what is open was
pub opened_before : (f s t : ℕ) (more : List Entry) (h : History) → Begun f s (more ++ h) → is_open (phase_of t (more ++ h)) ≡ true → is_open (phase_of t h) ≡ true
opened_before f s t more h b o = by_test (is_open (phase_of t h)) refl
  where
    by_test : (x : Bool) → is_open (phase_of t h) ≡ x → is_open (phase_of t h) ≡ true
    by_test true e = e
    by_test false e = absurd (not_both (is_open (phase_of t (more ++ h))) o (stays_closed f s t more h b e))

pub once : (f s t : ℕ) (last first : Entry) (more : List Entry) (h : History) → Begun f s (last ∷ more ++ first ∷ h) → ends t first.event ≡ true → ends t last.event ≡ false
once f s t last first more h b is = by_test (ends t last.event) refl
  where
    b_before : Begun f s (more ++ first ∷ h)
    b_before = begun_before f s last (more ++ first ∷ h) b

    closed : is_open (phase_of t (more ++ first ∷ h)) ≡ false
    closed = stays_closed f s t more (first ∷ h) b_before (is_closed_by f s first.caller t h first.event is)

    by_test : (x : Bool) → ends t last.event ≡ x → ends t last.event ≡ false
    by_test false e = e
    by_test true e = absurd (not_both (is_open (phase_of t (more ++ first ∷ h))) (was_open_by f s last.caller t (more ++ first ∷ h) last.event b e) closed)
