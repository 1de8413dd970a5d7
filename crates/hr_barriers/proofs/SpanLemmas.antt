-- Spans grow, and a decided transaction's is one less than its place.
use Rattle.std.proofs.Common.{◌≡◌, inl, inr, ℕ, ◌+◌, ◌≤◌, Bool, true, false, [], ◌∷◌, length, refl, ap, sym, ◌∙◌, arith}
use Rattle.hr_history.specs.declared.entry.Entry.{Entry}
use Rattle.hr_history.specs.declared.entry.Event.{Event}
use Rattle.hr_history.specs.declared.entry.Event.TheVariants as event
use Rattle.hr_history.specs.declared.phase.Phase.TheVariants as phase
use Rattle.hr_history.specs.History.{History}
use Rattle.hr_history.specs.Transactions.{log, phase_of, is_open}
use Rattle.hr_history.specs.Faithful.{Begun}
use Rattle.hr_records.specs.Kept.{Kept}
use Rattle.hr_records.proofs.Places.{same_or_not, if_same, if_other}
use Rattle.hr_records.proofs.NumberSteps.{open_unlogged, same_place}
use Rattle.hr_records.proofs.RuleLemmas.{begun_before}
use Rattle.hr_records.proofs.KeptLemmas.{kept}
use Rattle.hr_records.proofs.Closed.{phase_stands}
use Rattle.hr_barriers.specs.Stamps.{span}
use Rattle.hr_barriers.proofs.StampLemmas.{span_open, span_closed, log_longer}

pub span_grows : (f s t : ℕ) (e : Entry) (h : History) → Begun f s (e ∷ h) → Kept h → span t h ≤ span t (e ∷ h)
span_grows f s t e h b k = by_before (is_open (phase_of t h)) refl
  where
    by_now : (now : Bool) → is_open (phase_of t (e ∷ h)) ≡ now → is_open (phase_of t h) ≡ true → span t h ≤ span t (e ∷ h)
    by_now true now was = omega (arith, span_open t h was, span_open t (e ∷ h) now, log_longer e.caller e.event h)
    by_now false now was = omega (arith, span_open t h was, span_closed t e h true was now)

    by_before : (was : Bool) → is_open (phase_of t h) ≡ was → span t h ≤ span t (e ∷ h)
    by_before true was = by_now (is_open (phase_of t (e ∷ h))) refl was
    by_before false was = omega (arith, span_closed t e h false was (ap is_open (phase_stands f s e h k b t was) ∙ was))

-- who is decided now has the next place
decided_by : (c t : ℕ) (e : Event) (h : History) (place : ℕ) → is_open (phase_of t h) ≡ true → phase_of t (record { caller = c; event = e } ∷ h) ≡ phase.Logged place → place ≡ length (log h) + 1
decided_by c t (event.Decide txn) h place o is = elim (same_or_not txn t) [
  | inl same ↦ same_place place (length (log h) + 1) (sym is ∙ if_same txn t (phase.Logged (length (log h) + 1)) (phase_of t h) same)
  | inr other ↦ absurd (open_unlogged (phase_of t h) place o (sym (if_other txn t (phase.Logged (length (log h) + 1)) (phase_of t h) other) ∙ is))
]
decided_by c t (event.Begin session txn) h place o is = elim (same_or_not txn t) [
  | inl same ↦ absurd (open_unlogged phase.Active place refl (sym (if_same txn t phase.Active (phase_of t h) same) ∙ is))
  | inr other ↦ absurd (open_unlogged (phase_of t h) place o (sym (if_other txn t phase.Active (phase_of t h) other) ∙ is))
]
decided_by c t (event.AskCommit txn) h place o is = elim (same_or_not txn t) [
  | inl same ↦ absurd (open_unlogged _ place refl (sym (if_same txn t _ (phase_of t h) same) ∙ is))
  | inr other ↦ absurd (open_unlogged (phase_of t h) place o (sym (if_other txn t _ (phase_of t h) other) ∙ is))
]
decided_by c t (event.AskRollback txn) h place o is = elim (same_or_not txn t) [
  | inl same ↦ absurd (no_rollback (sym (if_same txn t phase.RolledBack (phase_of t h) same) ∙ is))
  | inr other ↦ absurd (open_unlogged (phase_of t h) place o (sym (if_other txn t phase.RolledBack (phase_of t h) other) ∙ is))
]
  where
    no_rollback : phase.RolledBack ≡ phase.Logged place → ⊥
    no_rollback x = cc x
decided_by c t (event.Refuse txn x) h place o is = elim (same_or_not txn t) [
  | inl same ↦ absurd (no_refusal (sym (if_same txn t phase.Refused (phase_of t h) same) ∙ is))
  | inr other ↦ absurd (open_unlogged (phase_of t h) place o (sym (if_other txn t phase.Refused (phase_of t h) other) ∙ is))
]
  where
    no_refusal : phase.Refused ≡ phase.Logged place → ⊥
    no_refusal y = cc y
decided_by c t _ h place o is = absurd (open_unlogged (phase_of t h) place o is)

pub logged_span : (f s t place : ℕ) (h : History) → Begun f s h → phase_of t h ≡ phase.Logged place → place ≡ span t h + 1
logged_span f s t place [] b is = absurd (open_unlogged phase.Active place refl is)
logged_span f s t place (e ∷ h) b is = by_before (is_open (phase_of t h)) refl (λ was. logged_span f s t place h (begun_before f s e h b) was)
  where
    by_before : (was : Bool) → is_open (phase_of t h) ≡ was → (phase_of t h ≡ phase.Logged place → place ≡ span t h + 1) → place ≡ span t (e ∷ h) + 1
    by_before true was rest = omega (arith, decided_by e.caller t e.event h place was is, span_closed t e h true was (ap is_open is))
    by_before false was rest =
        let stay = phase_stands f s e h (kept f s h (begun_before f s e h b)) b t was in
        omega (arith, rest (sym stay ∙ is), span_closed t e h false was (ap is_open stay ∙ was))
