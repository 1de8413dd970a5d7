-- Stamps ascend, and none is above the span.
use Rattle.std.proofs.Common.{◌≡◌, ◌⊎◌, inl, inr, ℕ, zero, suc, ◌+◌, ◌<◌, ◌≤◌, Bool, true, false, if◌then◌else◌, Some, List, [], ◌∷◌, ◌++◌, length, refl, ap, sym, ◌∙◌, subst, arith, length-append}
use Rattle.hr_base.specs.Lists.{numbered}
use Rattle.hr_engine.specs.declared.reply.RunReply.TheVariants as run
use Rattle.hr_history.specs.declared.entry.Entry.{Entry}
use Rattle.hr_history.specs.declared.entry.Event.{Event}
use Rattle.hr_history.specs.declared.entry.Event.TheVariants as event
use Rattle.hr_history.specs.declared.job.JobReply.{JobReply}
use Rattle.hr_history.specs.declared.job.JobReply.TheVariants as reply
use Rattle.hr_history.specs.History.{History}
use Rattle.hr_history.specs.Transactions.{log, phase_of, is_open}
use Rattle.hr_history.specs.Given.{Given, given_to}
use Rattle.hr_history.specs.Faithful.{Begun}
use Rattle.hr_history.proofs.StepLemmas.{call_allowed}
use Rattle.hr_records.specs.Kept.{Kept}
use Rattle.hr_records.proofs.Options.{some_none}
use Rattle.hr_records.proofs.Places.{numbered_born, numbered_more}
use Rattle.hr_records.proofs.Allowed.{begin_allowed}
use Rattle.hr_records.proofs.NumberLemmas.{given_at_begin}
use Rattle.hr_records.proofs.GiveLemmas.{is_given}
use Rattle.hr_records.proofs.RuleLemmas.{begun_before}
use Rattle.hr_records.proofs.KeptLemmas.{kept}
use Rattle.hr_records.proofs.Closed.{frozen, phase_stands}
use Rattle.hr_barriers.specs.Stamps.{span, next_span, AreStampedTo}

none_stamped : (n : ℕ) → AreStampedTo [] n
none_stamped n = record { within = λ i g e. absurd (nobody i g e); ascend = λ i k a b lt e d. absurd (nobody i a e) }
  where
    nobody : (i : ℕ) (g : Given) → numbered [] i ≡ Some g → ⊥
    nobody zero g e = some_none g (sym e)
    nobody (suc i) g e = some_none g (sym e)

higher : (xs : List Given) (n m : ℕ) → n ≤ m → AreStampedTo xs n → AreStampedTo xs m
higher xs n m le s = record { within = λ i g e. omega (arith, le, s.within i g e); ascend = s.ascend }

-- one more, with the highest stamp
one_more : (xs : List Given) (g : Given) (n : ℕ) → g.stamp ≡ n → AreStampedTo xs n → AreStampedTo (xs ++ g ∷ []) n
one_more xs g n is s = record { within = λ i a e. high a (numbered_more xs g i a e); ascend = λ i k a b lt e d. in_order i k a b lt (numbered_more xs g i a e) (numbered_more xs g k b d) }
  where
    last_high : (a : Given) → g ≡ a → a.stamp ≡ n
    last_high a same = ap (λ (x : Given). x.stamp) (sym same) ∙ is

    high : {i : ℕ} (a : Given) → (numbered xs i ≡ Some a) ⊎ ((i ≡ length xs + 1) × (g ≡ a)) → a.stamp ≤ n
    high {i} a (inl old) = s.within i a old
    high a (inr new) = omega (arith, last_high a new.1)

    in_order : (i k : ℕ) (a b : Given) → i < k → (numbered xs i ≡ Some a) ⊎ ((i ≡ length xs + 1) × (g ≡ a)) → (numbered xs k ≡ Some b) ⊎ ((k ≡ length xs + 1) × (g ≡ b)) → a.stamp ≤ b.stamp
    in_order i k a b lt (inl x) (inl y) = s.ascend i k a b lt x y
    in_order i k a b lt (inl x) (inr y) = omega (arith, s.within i a x, last_high b y.1)
    in_order i k a b lt (inr x) (inl y) = absurd (omega (arith, lt, x.0, (numbered_born xs k b y).1))
    in_order i k a b lt (inr x) (inr y) = absurd (omega (arith, lt, x.0, y.0))

if_given : (b : Bool) (xs : List Given) (g : Given) (n : ℕ) → g.stamp ≡ n → AreStampedTo xs n → AreStampedTo (if b then xs ++ g ∷ [] else xs) n
if_given true xs g n is s = one_more xs g n is s
if_given false xs g n is s = s

module _ (f s c t : ℕ) (h : History) (k : Kept h) (stamped : AreStampedTo (given_to t h) (length (log h))) where
  at_give : (q : ℕ) (told : JobReply) → AreStampedTo (given_to t (record { caller = c; event = event.Give q told } ∷ h)) (length (log h))
  at_give q (reply.Ran (run.Done a)) = if_given (is_given t q h) (given_to t h) record { answer = a; stamp = length (log h) } (length (log h)) refl stamped
  at_give q (reply.Ran (run.Blocked named)) = stamped
  at_give q (reply.Ran (run.Deadlock cycle)) = stamped
  at_give q (reply.Ran run.Lost) = stamped
  at_give q (reply.Ran run.NoMemory) = stamped
  at_give q (reply.Ended x) = stamped
  at_give q reply.StillLost = stamped

  -- what is given now has the length of the log before
  given_now : (e : Event) → Begun f s (record { caller = c; event = e } ∷ h) → AreStampedTo (given_to t (record { caller = c; event = e } ∷ h)) (length (log h))
  given_now (event.Give q told) b = at_give q told
  given_now (event.Begin session txn) b =
      let a = begin_allowed f s c h session txn (call_allowed f s record { caller = c; event = event.Begin session txn } h b refl) in
      subst (λ xs. AreStampedTo xs (length (log h))) (sym (given_at_begin h k.numbers txn a.0 t)) stamped
  given_now (event.Submit txn index stmt) b = stamped
  given_now (event.AskCommit txn) b = stamped
  given_now (event.AskRollback txn) b = stamped
  given_now (event.Take q j) b = stamped
  given_now (event.Restarted q n) b = stamped
  given_now event.Suspect b = stamped
  given_now (event.Decide txn) b = stamped
  given_now (event.Refuse txn x) b = stamped
  given_now (event.Convict q x) b = stamped
  given_now (event.NewPrimary q) b = stamped
  given_now (event.Preempt q txn) b = stamped

pub log_longer : (c : ℕ) (e : Event) (h : History) → length (log h) ≤ length (log (record { caller = c; event = e } ∷ h))
log_longer c (event.Decide txn) h = omega (arith, length-append (log h) (txn ∷ []))
log_longer c (event.Begin session txn) h = omega arith
log_longer c (event.Submit txn index stmt) h = omega arith
log_longer c (event.AskCommit txn) h = omega arith
log_longer c (event.AskRollback txn) h = omega arith
log_longer c (event.Take q j) h = omega arith
log_longer c (event.Give q told) h = omega arith
log_longer c (event.Restarted q n) h = omega arith
log_longer c event.Suspect h = omega arith
log_longer c (event.Refuse txn x) h = omega arith
log_longer c (event.Convict q x) h = omega arith
log_longer c (event.NewPrimary q) h = omega arith
log_longer c (event.Preempt q txn) h = omega arith

-- the span of an open transaction is the length of the log
pub span_open : (t : ℕ) (h : History) → is_open (phase_of t h) ≡ true → span t h ≡ length (log h)
span_open t [] o = refl
span_open t (e ∷ h) o = ap (λ b. next_span b (is_open (phase_of t h)) (length (log (e ∷ h))) (length (log h)) (span t h)) o

pub span_closed : (t : ℕ) (e : Entry) (h : History) (was : Bool) → is_open (phase_of t h) ≡ was → is_open (phase_of t (e ∷ h)) ≡ false → span t (e ∷ h) ≡ next_span false was (length (log (e ∷ h))) (length (log h)) (span t h)
span_closed t e h was before now = λ i. next_span (now i) (before i) (length (log (e ∷ h))) (length (log h)) (span t h)

stamped_next : (f s t : ℕ) (e : Entry) (h : History) → Begun f s (e ∷ h) → AreStampedTo (given_to t h) (span t h) → AreStampedTo (given_to t (e ∷ h)) (span t (e ∷ h))
stamped_next f s t e h b before = by_before (is_open (phase_of t h)) refl
  where
    k : Kept h
    k = kept f s h (begun_before f s e h b)

    by_now : (now : Bool) → is_open (phase_of t (e ∷ h)) ≡ now → is_open (phase_of t h) ≡ true → AreStampedTo (given_to t (e ∷ h)) (length (log h)) → AreStampedTo (given_to t (e ∷ h)) (span t (e ∷ h))
    by_now true now was given = subst (AreStampedTo (given_to t (e ∷ h))) (sym (span_open t (e ∷ h) now)) (higher (given_to t (e ∷ h)) (length (log h)) (length (log (e ∷ h))) (log_longer e.caller e.event h) given)
    by_now false now was given = subst (AreStampedTo (given_to t (e ∷ h))) (sym (span_closed t e h true was now)) given

    by_before : (was : Bool) → is_open (phase_of t h) ≡ was → AreStampedTo (given_to t (e ∷ h)) (span t (e ∷ h))
    by_before true was =
        by_now (is_open (phase_of t (e ∷ h))) refl was
        (given_now f s e.caller t h k (subst (AreStampedTo (given_to t h)) (span_open t h was) before) e.event b)
    by_before false was =
        let stands = ap is_open (phase_stands f s e h k b t was) ∙ was in
        subst (λ xs. AreStampedTo xs (span t (e ∷ h))) (sym (frozen f s e h k b t was).1)
        (subst (AreStampedTo (given_to t h)) (sym (span_closed t e h false was stands)) before)

pub stamped : (f s t : ℕ) (h : History) → Begun f s h → AreStampedTo (given_to t h) (span t h)
stamped f s t [] b = none_stamped 0
stamped f s t (e ∷ h) b = stamped_next f s t e h b (stamped f s t h (begun_before f s e h b))
