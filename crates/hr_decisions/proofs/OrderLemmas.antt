-- The order of decisions.
use Rattle.std.proofs.Common.{◌≡◌, ◌⊎◌, inl, inr, ℕ, zero, suc, ◌+◌, ◌<◌, ◌≤◌, Bool, true, false, not, nat_le, Some, List, [], ◌∷◌, ◌++◌, length, refl, ap, sym, ◌∙◌, arith}
use Rattle.std.proofs.lemmas.List.{append-nil}
use Rattle.std.proofs.lemmas.Bool.{leb-true, leb-false}
use Rattle.hr_base.specs.Lists.{numbered}
use Rattle.hr_history.specs.declared.entry.Entry.{Entry}
use Rattle.hr_history.specs.declared.entry.Event.{Event}
use Rattle.hr_history.specs.declared.entry.Event.TheVariants as event
use Rattle.hr_history.specs.declared.phase.Phase.TheVariants as phase
use Rattle.hr_history.specs.History.{History}
use Rattle.hr_history.specs.Transactions.{begun, session_of, log, phase_of, is_open}
use Rattle.hr_history.specs.Faithful.{Begun, has_open}
use Rattle.hr_history.proofs.StepLemmas.{call_allowed}
use Rattle.hr_records.specs.AtReplica.{Begins}
use Rattle.hr_records.specs.Numbers.{NumbersAt}
use Rattle.hr_records.specs.Kept.{Kept}
use Rattle.hr_records.proofs.Options.{some_none, same_some}
use Rattle.hr_records.proofs.Places.{numbered_born, numbered_front, numbered_more, numbered_some}
use Rattle.hr_records.proofs.NumberSteps.{open_unlogged}
use Rattle.hr_records.proofs.Beginnings.{begins_chain}
use Rattle.hr_records.proofs.Allowed.{begin_allowed, none_open}
use Rattle.hr_records.proofs.RuleLemmas.{begun_before, begun_until}
use Rattle.hr_records.proofs.KeptLemmas.{kept}
use Rattle.hr_records.proofs.Closed.{phase_stands}
use Rattle.hr_decisions.specs.Order.{WasDecided, HasNotBegun, IsLater, AreOf}

-- the log only grows
log_grows_by : (c : ℕ) (e : Event) (h : History) → Begins (log h) (log (record { caller = c; event = e } ∷ h))
log_grows_by c (event.Decide t) h = (t ∷ [], refl)
log_grows_by c (event.Begin session txn) h = ([], append-nil (log h))
log_grows_by c (event.Submit txn index stmt) h = ([], append-nil (log h))
log_grows_by c (event.AskCommit txn) h = ([], append-nil (log h))
log_grows_by c (event.AskRollback txn) h = ([], append-nil (log h))
log_grows_by c (event.Take r j) h = ([], append-nil (log h))
log_grows_by c (event.Give r told) h = ([], append-nil (log h))
log_grows_by c (event.Restarted r n) h = ([], append-nil (log h))
log_grows_by c event.Suspect h = ([], append-nil (log h))
log_grows_by c (event.Refuse txn x) h = ([], append-nil (log h))
log_grows_by c (event.Convict r x) h = ([], append-nil (log h))
log_grows_by c (event.NewPrimary r) h = ([], append-nil (log h))
log_grows_by c (event.Preempt r txn) h = ([], append-nil (log h))

log_grows : (more : List Entry) (h : History) → Begins (log h) (log (more ++ h))
log_grows [] h = ([], append-nil (log h))
log_grows (e ∷ more) h = begins_chain (log h) (log (more ++ h)) (log (e ∷ more ++ h)) (log_grows more h) (log_grows_by e.caller e.event (more ++ h))

-- a place in a list that goes on is one of its beginning, or comes later
place_or_later : (xs ys all : List ℕ) (p t : ℕ) → xs ++ ys ≡ all → numbered all p ≡ Some t → (numbered xs p ≡ Some t) ⊎ (length xs < p)
place_or_later xs ys all p t e at = by_test (le_or_later (nat_le p (length xs)) refl)
  where
    le_or_later : (b : Bool) → nat_le p (length xs) ≡ b → (p ≤ length xs) ⊎ (length xs < p)
    le_or_later true b = inl (leb-true p (length xs) b)
    le_or_later false b = inr (omega (arith, leb-false p (length xs) b))

    by_test : (p ≤ length xs) ⊎ (length xs < p) → (numbered xs p ≡ Some t) ⊎ (length xs < p)
    by_test (inr later) = inr later
    by_test (inl le) = inl (found (numbered_some xs p ((numbered_born all p t at).0, le)))
      where
        found : (x : ℕ) × (numbered xs p ≡ Some x) → numbered xs p ≡ Some t
        found w = w.1 ∙ ap Some (same_some w.0 t (sym (numbered_front xs ys p w.0 w.1) ∙ ap (λ l. numbered l p) e ∙ at))

pub later : (f s t u place : ℕ) (more : List Entry) (h : History) → Begun f s (more ++ h) → WasDecided u place h → HasNotBegun t h → WasDecided u place (more ++ h) × IsLater t place (more ++ h)
later f s t u place more h b decided unborn = (stays, comes_later)
  where
    before : NumbersAt h
    before = (kept f s h (begun_until f s more h b)).numbers

    now : NumbersAt (more ++ h)
    now = (kept f s (more ++ h) b).numbers

    grows : Begins (log h) (log (more ++ h))
    grows = log_grows more h

    at : numbered (log h) place ≡ Some u
    at = (before.logged u place).0 decided

    stays : WasDecided u place (more ++ h)
    stays = (now.logged u place).1 (ap (λ l. numbered l place) (sym grows.1) ∙ numbered_front (log h) grows.0 place u at)

    comes_later : IsLater t place (more ++ h)
    comes_later its e = elim (place_or_later (log h) grows.0 (log (more ++ h)) its t grows.1 ((now.logged t its).0 e)) [
      | inl old ↦ absurd (open_unlogged phase.Active its refl (sym (before.unborn t (λ born. absurd (omega (arith, unborn, born.1)))).0 ∙ (before.logged t its).1 old))
      | inr new ↦ omega (arith, new, (numbered_born (log h) place u at).1)
    ]

module _ (f s c : ℕ) (h : History) (k : Kept h) where
  -- both were the session's before, or the later one begins now and the earlier one is closed
  earlier_by : (e : Event) → Begun f s (record { caller = c; event = e } ∷ h) → (q t u : ℕ) → AreOf q t u (record { caller = c; event = e } ∷ h) → t < u
      → AreOf q t u h ⊎ (is_open (phase_of t h) ≡ false) × (is_open (phase_of u h) ≡ true)
  earlier_by (event.Begin session txn) b q t u are lt =
      by_cases (numbered_more (begun h) session t q are.0) (numbered_more (begun h) session u q are.1)
    where
      a : (txn ≡ length (begun h) + 1) × (not (has_open session h) ≡ true)
      a = begin_allowed f s c h session txn (call_allowed f s record { caller = c; event = event.Begin session txn } h b refl)

      closed : (b : Bool) → is_open (phase_of t h) ≡ b → session_of t h ≡ Some session → is_open (phase_of t h) ≡ false
      closed true o its = absurd (none_open session t h a.1 its o)
      closed false o its = o

      by_cases : (numbered (begun h) t ≡ Some q) ⊎ ((t ≡ length (begun h) + 1) × (session ≡ q)) → (numbered (begun h) u ≡ Some q) ⊎ ((u ≡ length (begun h) + 1) × (session ≡ q))
          → AreOf q t u h ⊎ (is_open (phase_of t h) ≡ false) × (is_open (phase_of u h) ≡ true)
      by_cases (inl x) (inl y) = inl (x, y)
      by_cases (inl x) (inr y) =
          inr (closed (is_open (phase_of t h)) refl (x ∙ ap Some (sym y.1)), ap is_open (k.numbers.unborn u (λ born. absurd (omega (arith, y.0, born.1)))).0)
      by_cases (inr x) (inl y) = absurd (omega (arith, x.0, lt, (numbered_born (begun h) u q y).1))
      by_cases (inr x) (inr y) = absurd (omega (arith, x.0, y.0, lt))
  earlier_by (event.Submit txn index stmt) b q t u are lt = inl are
  earlier_by (event.AskCommit txn) b q t u are lt = inl are
  earlier_by (event.AskRollback txn) b q t u are lt = inl are
  earlier_by (event.Take r j) b q t u are lt = inl are
  earlier_by (event.Give r told) b q t u are lt = inl are
  earlier_by (event.Restarted r n) b q t u are lt = inl are
  earlier_by event.Suspect b q t u are lt = inl are
  earlier_by (event.Decide txn) b q t u are lt = inl are
  earlier_by (event.Refuse txn x) b q t u are lt = inl are
  earlier_by (event.Convict r x) b q t u are lt = inl are
  earlier_by (event.NewPrimary r) b q t u are lt = inl are
  earlier_by (event.Preempt r txn) b q t u are lt = inl are

-- The session's earlier transaction is closed, and its later one has a later place.
record InOrder (h : History) (q t u : ℕ) : Type 0 where
  closed : is_open (phase_of t h) ≡ false
  comes_later : (place its : ℕ) → WasDecided t place h → WasDecided u its h → place < its

ordered : (f s : ℕ) (h : History) → Begun f s h → (q t u : ℕ) → AreOf q t u h → t < u → InOrder h q t u
ordered f s [] b q t u are lt = absurd (nobody t are.0)
  where
    nobody : (t : ℕ) → numbered [] t ≡ Some q → ⊥
    nobody zero e = some_none q (sym e)
    nobody (suc n) e = some_none q (sym e)
ordered f s (e ∷ h) b q t u are lt = by_before (earlier_by f s e.caller h k e.event b q t u are lt) (λ old. ordered f s h (begun_before f s e h b) q t u old lt)
  where
    k : Kept h
    k = kept f s h (begun_before f s e h b)

    now : NumbersAt (e ∷ h)
    now = (kept f s (e ∷ h) b).numbers

    next : is_open (phase_of t h) ≡ false → ((place its : ℕ) → WasDecided t place h → WasDecided u its h → place < its) → InOrder (e ∷ h) q t u
    next closed old_order = record {
      closed = ap is_open stays ∙ closed;
      comes_later = λ place its first second. place_of place its (sym stays ∙ first) second;
    }
      where
        stays : phase_of t (e ∷ h) ≡ phase_of t h
        stays = phase_stands f s e h k b t closed

        grows : Begins (log h) (log (e ∷ h))
        grows = log_grows_by e.caller e.event h

        place_of : (place its : ℕ) → WasDecided t place h → WasDecided u its (e ∷ h) → place < its
        place_of place its first second = elim (place_or_later (log h) grows.0 (log (e ∷ h)) its u grows.1 ((now.logged u its).0 second)) [
          | inl old ↦ old_order place its first ((k.numbers.logged u its).1 old)
          | inr new ↦ omega (arith, new, (numbered_born (log h) place t ((k.numbers.logged t place).0 first)).1)
        ]

    by_before : AreOf q t u h ⊎ (is_open (phase_of t h) ≡ false) × (is_open (phase_of u h) ≡ true) → (AreOf q t u h → InOrder h q t u) → InOrder (e ∷ h) q t u
    by_before (inl old) rest = let o = rest old in next o.closed o.comes_later
    by_before (inr new) rest = next new.0 (λ place its first second. absurd (open_unlogged (phase_of u h) its new.1 second))

pub in_order : (f s q t u place : ℕ) (h : History) → Begun f s h → AreOf q t u h → t < u → WasDecided t place h → IsLater u place h
in_order f s q t u place h b are lt decided its second = (ordered f s h b q t u are lt).comes_later place its decided second
