-- A session's last try has begun its latest transaction, which alone of its transactions may be open.
use Rattle.std.proofs.Common.{◌≡◌, ◌⊎◌, inl, inr, ℕ, zero, suc, ◌+◌, Bool, true, false, cond, ◌&&◌, not, Option, Some, None, List, [], ◌∷◌, ◌++◌, length, refl, ap, sym, ◌∙◌}
use Rattle.std.specs.Prelude.{nat_le}
use Rattle.hr_base.specs.Lists.{last_of, numbered}
use Rattle.hr_history.specs.declared.entry.Event.{Event}
use Rattle.hr_history.specs.declared.entry.Event.TheVariants as event
use Rattle.hr_history.specs.declared.phase.Phase.{Phase}
use Rattle.hr_history.specs.History.{History}
use Rattle.hr_history.specs.Transactions.{begun, session_of, phase_of, is_open}
use Rattle.hr_history.specs.Faithful.{Begun, has_open}
use Rattle.hr_history.proofs.StepLemmas.{call_allowed}
use Rattle.hr_records.specs.Kept.{Kept}
use Rattle.hr_records.proofs.Options.{same_some, some_none}
use Rattle.hr_records.proofs.Places.{same_or_not, if_same, if_other, numbered_front, numbered_more, numbered_end}
use Rattle.hr_records.proofs.NumberSteps.{not_both}
use Rattle.hr_records.proofs.NumberLemmas.{phase_at_begin}
use Rattle.hr_records.proofs.Closed.{phase_stands}
use Rattle.hr_records.proofs.Allowed.{begin_allowed, none_open}
use Rattle.hr_records.proofs.KeptLemmas.{kept}
use Rattle.hr_records.proofs.RuleLemmas.{begun_before}
use Rattle.hr_schedule.specs.declared.attempt.Try.{Try}
use Rattle.hr_schedule.specs.Sessions.{IsLast}
use Rattle.hr_schedule.specs.Tries.{is_refused, try_after, tries_of, last_try}

last_end : (xs : List Try) (x : Try) → last_of (xs ++ x ∷ []) ≡ Some x
last_end [] x = refl
last_end (y ∷ []) x = refl
last_end (y ∷ z ∷ xs) x = last_end (z ∷ xs) x

pub try_txn : (retries : ℕ) (last : Option Try) (phases : ℕ → Phase) (t : ℕ) → (try_after retries last phases t).txn ≡ t
try_txn retries None phases t = refl
try_txn retries (Some last) phases t =
    by_case (is_refused (phases last.txn) && nat_le last.number retries) record { block = last.block; number = last.number + 1; txn = t } record { block = last.block + 1; number = 1; txn = t } refl refl
  where
    by_case : (b : Bool) (again fresh : Try) → again.txn ≡ t → fresh.txn ≡ t → (cond {A = Try} b again fresh).txn ≡ t
    by_case true again fresh e k = e
    by_case false again fresh e k = k

module _ (f s c retries q : ℕ) (h : History) (k : Kept h) (before : IsLast retries q h) where
  -- the entry begins no transaction
  module _ (now : History) (same_tries : last_try retries q now ≡ last_try retries q h) (sessions : (t : ℕ) → session_of t now ≡ session_of t h)
      (closed_stays : (t : ℕ) → is_open (phase_of t h) ≡ false → is_open (phase_of t now) ≡ false) where
    open_before : (t : ℕ) (b : Bool) → is_open (phase_of t h) ≡ b → is_open (phase_of t now) ≡ true → is_open (phase_of t h) ≡ true
    open_before t true e o = e
    open_before t false e o = absurd (not_both (is_open (phase_of t now)) o (closed_stays t e))

    same : IsLast retries q now
    same = record {
      its = λ x e. sessions x.txn ∙ before.its x (sym same_tries ∙ e);
      latest = λ t its o.
          let l = before.latest t (sym (sessions t) ∙ its) (open_before t (is_open (phase_of t h)) refl o) in
          (l.0, same_tries ∙ l.1, l.2);
    }

  module _ (session txn : ℕ) (b : Begun f s (record { caller = c; event = event.Begin session txn } ∷ h)) where
    a : (txn ≡ length (begun h) + 1) × (not (has_open session h) ≡ true)
    a = begin_allowed f s c h session txn (call_allowed f s record { caller = c; event = event.Begin session txn } h b refl)

    now : History
    now = record { caller = c; event = event.Begin session txn } ∷ h

    next : Try
    next = try_after retries (last_try retries q h) (λ t. phase_of t h) txn

    open_then : (t : ℕ) → is_open (phase_of t (record { caller = c; event = event.Begin session txn } ∷ h)) ≡ true → is_open (phase_of t h) ≡ true
    open_then t o = ap is_open (sym (phase_at_begin h k.numbers txn a.0 t)) ∙ o

    by_session : (session ≡ q) ⊎ (session ≡ q → ⊥) → IsLast retries q (record { caller = c; event = event.Begin session txn } ∷ h)
    by_session (inl same_one) =
        let tries_now : last_try retries q (record { caller = c; event = event.Begin session txn } ∷ h) ≡ Some (try_after retries (last_try retries q h) (λ t. phase_of t h) txn) =
        ap last_of (if_same session q (tries_of retries q h ++ try_after retries (last_try retries q h) (λ t. phase_of t h) txn ∷ []) (tries_of retries q h) same_one)
        ∙ last_end (tries_of retries q h) (try_after retries (last_try retries q h) (λ t. phase_of t h) txn) in
        let its_txn = try_txn retries (last_try retries q h) (λ t. phase_of t h) txn in
        record {
          its = λ x e.
              let is_next = same_some (try_after retries (last_try retries q h) (λ t. phase_of t h) txn) x (sym tries_now ∙ e) in
              numbered_end (begun h) session x.txn (ap (λ (y : Try). y.txn) (sym is_next) ∙ its_txn ∙ a.0) ∙ ap Some same_one;
          latest = λ t its o. elim (numbered_more (begun h) session t q its) [
            | inl old ↦ absurd (none_open session t h a.1 (old ∙ ap Some (sym same_one)) (open_then t o))
            | inr new ↦ (try_after retries (last_try retries q h) (λ u. phase_of u h) txn, tries_now, its_txn ∙ a.0 ∙ sym new.0)
          ];
        }
    by_session (inr other) =
        let tries_now : last_try retries q (record { caller = c; event = event.Begin session txn } ∷ h) ≡ last_try retries q h =
        ap last_of (if_other session q (tries_of retries q h ++ try_after retries (last_try retries q h) (λ t. phase_of t h) txn ∷ []) (tries_of retries q h) other) in
        record {
          its = λ x e. numbered_front (begun h) (session ∷ []) x.txn q (before.its x (sym tries_now ∙ e));
          latest = λ t its o. elim (numbered_more (begun h) session t q its) [
            | inl old ↦ let l = before.latest t old (open_then t o) in (l.0, tries_now ∙ l.1, l.2)
            | inr new ↦ absurd (other new.1)
          ];
        }

  step : (e : Event) → Begun f s (record { caller = c; event = e } ∷ h) → ((t : ℕ) → is_open (phase_of t h) ≡ false → is_open (phase_of t (record { caller = c; event = e } ∷ h)) ≡ false)
      → IsLast retries q (record { caller = c; event = e } ∷ h)
  step (event.Begin session txn) b stays = by_session session txn b (same_or_not session q)
  step (event.Submit txn index stmt) b stays = same _ refl (λ t. refl) stays
  step (event.AskCommit txn) b stays = same _ refl (λ t. refl) stays
  step (event.AskRollback txn) b stays = same _ refl (λ t. refl) stays
  step (event.Take r j) b stays = same _ refl (λ t. refl) stays
  step (event.Give r x) b stays = same _ refl (λ t. refl) stays
  step (event.Restarted r n) b stays = same _ refl (λ t. refl) stays
  step event.Suspect b stays = same _ refl (λ t. refl) stays
  step (event.Decide txn) b stays = same _ refl (λ t. refl) stays
  step (event.Refuse txn x) b stays = same _ refl (λ t. refl) stays
  step (event.Convict r x) b stays = same _ refl (λ t. refl) stays
  step (event.NewPrimary r) b stays = same _ refl (λ t. refl) stays
  step (event.Preempt r txn) b stays = same _ refl (λ t. refl) stays

nobody : (t q : ℕ) → numbered [] t ≡ Some q → ⊥
nobody zero q at = some_none q (sym at)
nobody (suc n) q at = some_none q (sym at)

pub last_is : (f s retries q : ℕ) (h : History) → Begun f s h → IsLast retries q h
last_is f s retries q [] b = record { its = λ x e. absurd (some_none x (sym e)); latest = λ t its o. absurd (nobody t q its) }
last_is f s retries q (e ∷ h) b =
    let earlier = begun_before f s e h b in
    let k = kept f s h earlier in
    step f s e.caller retries q h k (last_is f s retries q h earlier) e.event b (λ t closed. ap is_open (phase_stands f s e h k b t closed) ∙ closed)
