-- Who is the primary within a turn, and that it isn't convicted.
use Rattle.std.proofs.Common.{◌≡◌, ◌⊎◌, inl, inr, ℕ, ◌+◌, Bool, true, false, not, ◌||◌, if◌then◌else◌, Option, Some, None, is_some, List, [], ◌∷◌, ◌++◌, length, refl, ap, sym, ◌∙◌, arith}
use Rattle.std.proofs.lemmas.Bool.{and_parts, not-true}
use Rattle.hr_engine.specs.Attempts.{attempt}
use Rattle.hr_history.specs.declared.cause.Why.TheVariants as why
use Rattle.hr_history.specs.declared.entry.Entry.{Entry}
use Rattle.hr_history.specs.declared.entry.Event.{Event}
use Rattle.hr_history.specs.declared.entry.Event.TheVariants as event
use Rattle.hr_history.specs.declared.job.Job.TheVariants as job
use Rattle.hr_history.specs.History.{History, is_call}
use Rattle.hr_history.specs.Transactions.{begun, phase_of, is_open}
use Rattle.hr_history.specs.Replicas.{out_at, journal_of, is_convicted, tells_loss}
use Rattle.hr_history.specs.Primary.{primary_of, is_some_of}
use Rattle.hr_history.specs.Given.{given_to}
use Rattle.hr_history.specs.Turn.{turn_of, went, Gone}
use Rattle.hr_history.specs.View.{view_of, Progress}
use Rattle.hr_history.specs.Processed.{replica_in}
use Rattle.hr_history.specs.Faithful.{Begun}
use Rattle.hr_history.proofs.StepLemmas.{replica_lookup}
use Rattle.hr_records.specs.ByRule.{IsElected}
use Rattle.hr_records.specs.Numbers.{IsBorn}
use Rattle.hr_records.specs.Kept.{Kept}
use Rattle.hr_records.proofs.Options.{some_none, same_some}
use Rattle.hr_records.proofs.PrimaryWords.{other_is, if_lost}
use Rattle.hr_records.proofs.RuleLemmas.{begun_before, begun_until, by_rule, nothing_due}
use Rattle.hr_records.proofs.KeptLemmas.{kept}
use Rattle.hr_records.proofs.LeadLemmas.{none_for_gone, refused_all}
use Rattle.hr_calls.specs.Callers.{AreFollowUps}
use Rattle.hr_causes.proofs.EndLemmas.{opened_before}

elected_unconvicted : (f q : ℕ) (h : History) → IsElected (view_of f h) (turn_of h) q → is_convicted q h ≡ false
elected_unconvicted f q h is =
    sym (ap (λ (p : Progress). p.convicted) (replica_lookup f q h is.replica))
    ∙ not-true (replica_in (view_of f h) q).convicted (and_parts (not (replica_in (view_of f h) q).lost) (not (replica_in (view_of f h) q).convicted) is.live).1

unconvicted_by : (f s c r : ℕ) (e : Event) (h : History) → Begun f s (record { caller = c; event = e } ∷ h) → (primary_of h ≡ Some r → is_convicted r h ≡ false)
    → primary_of (record { caller = c; event = e } ∷ h) ≡ Some r → is_convicted r (record { caller = c; event = e } ∷ h) ≡ false
unconvicted_by f s c r (event.Give q told) h b rest is = rest (if_lost (tells_loss told) q r (primary_of h) is)
unconvicted_by f s c r event.Suspect h b rest is = absurd (some_none r (sym is))
unconvicted_by f s c r (event.Convict q x) h b rest is = let o = other_is q r (primary_of h) is in ap (λ y. y || is_convicted r h) o.1 ∙ rest o.0
unconvicted_by f s c r (event.NewPrimary q) h b rest is =
    ap (λ x. is_convicted x h) (sym (same_some q r is)) ∙ elected_unconvicted f q h (by_rule f s record { caller = c; event = event.NewPrimary q } h b refl)
unconvicted_by f s c r (event.Begin session txn) h b rest is = rest is
unconvicted_by f s c r (event.Submit txn index stmt) h b rest is = rest is
unconvicted_by f s c r (event.AskCommit txn) h b rest is = rest is
unconvicted_by f s c r (event.AskRollback txn) h b rest is = rest is
unconvicted_by f s c r (event.Take q j) h b rest is = rest is
unconvicted_by f s c r (event.Restarted q n) h b rest is = rest is
unconvicted_by f s c r (event.Decide txn) h b rest is = rest is
unconvicted_by f s c r (event.Refuse txn x) h b rest is = rest is
unconvicted_by f s c r (event.Preempt q txn) h b rest is = rest is

-- the primary isn't convicted
pub unconvicted : (f s r : ℕ) (h : History) → Begun f s h → primary_of h ≡ Some r → is_convicted r h ≡ false
unconvicted f s r [] b is = refl
unconvicted f s r (e ∷ h) b is = unconvicted_by f s e.caller r e.event h b (λ before. unconvicted f s r h (begun_before f s e h b) before) is

-- no transaction is open
abbrev AllClosed : History → Type 0
AllClosed h = (t : ℕ) → IsBorn (length (begun h)) t → is_open (phase_of t h) ≡ true → ⊥

-- Within a turn: who is the primary was it at the turn's call, or there was none, or none is open; and where there is none,
-- there was none, or it went.
record Since (was : Option ℕ) (h : History) : Type 0 where
  same : (r : ℕ) → primary_of h ≡ Some r → (was ≡ Some r) ⊎ (was ≡ None) ⊎ AllClosed h
  vacant : primary_of h ≡ None → (was ≡ None) ⊎ (is_some (went h) ≡ true)

closed_on : (f s c : ℕ) (e : Event) (h : History) → Begun f s (record { caller = c; event = e } ∷ h) → begun (record { caller = c; event = e } ∷ h) ≡ begun h → AllClosed h → AllClosed (record { caller = c; event = e } ∷ h)
closed_on f s c e h b same closed t born o =
    closed t (born.0, omega (arith, born.1, ap (λ l. length l) same)) (opened_before f s t (record { caller = c; event = e } ∷ []) h b o)

on_by : (was : Option ℕ) (r : ℕ) (now next : History) → (AllClosed now → AllClosed next) → (was ≡ Some r) ⊎ (was ≡ None) ⊎ AllClosed now → (was ≡ Some r) ⊎ (was ≡ None) ⊎ AllClosed next
on_by was r now next on (inl e) = inl e
on_by was r now next on (inr (inl e)) = inr (inl e)
on_by was r now next on (inr (inr closed)) = inr (inr (on closed))

convicted_vacant : (was : Option ℕ) (q : ℕ) (h : History) (g : Gone) (b : Bool) → (if b then None else primary_of h) ≡ None → (primary_of h ≡ None → (was ≡ None) ⊎ (is_some (went h) ≡ true))
    → (was ≡ None) ⊎ (is_some (if b then Some g else went h) ≡ true)
convicted_vacant was q h g true none rest = inr refl
convicted_vacant was q h g false none rest = rest none

elected_when : (f : ℕ) (h : History) (q : ℕ) (was : Option ℕ) → IsElected (view_of f h) (turn_of h) q → (was ≡ None) ⊎ (is_some (went h) ≡ true) → (was ≡ None) ⊎ AllClosed h
elected_when f h q was is (inl none) = inl none
elected_when f h q was is (inr gone) = inr (refused_all f h is.settled gone)

since_by : (f s c : ℕ) (e : Event) (h : History) (was : Option ℕ) → is_call e ≡ false → Begun f s (record { caller = c; event = e } ∷ h) → Since was h → Since was (record { caller = c; event = e } ∷ h)
since_by f s c (event.Decide txn) h was n b i =
    record { same = λ r is. on_by was r h (record { caller = c; event = event.Decide txn } ∷ h) (closed_on f s c (event.Decide txn) h b refl) (i.same r is); vacant = i.vacant }
since_by f s c (event.Refuse txn x) h was n b i =
    record { same = λ r is. on_by was r h (record { caller = c; event = event.Refuse txn x } ∷ h) (closed_on f s c (event.Refuse txn x) h b refl) (i.same r is); vacant = i.vacant }
since_by f s c (event.Preempt q txn) h was n b i =
    record { same = λ r is. on_by was r h (record { caller = c; event = event.Preempt q txn } ∷ h) (closed_on f s c (event.Preempt q txn) h b refl) (i.same r is); vacant = i.vacant }
since_by f s c (event.Convict q x) h was n b i = record {
  same = λ r is. on_by was r h (record { caller = c; event = event.Convict q x } ∷ h) (closed_on f s c (event.Convict q x) h b refl) (i.same r (other_is q r (primary_of h) is).0);
  vacant = λ none. convicted_vacant was q h record { from = q; why = why.Convicted; at = length h } (is_some_of q (primary_of h)) none i.vacant;
}
since_by f s c (event.NewPrimary q) h was n b i =
    let rule = by_rule f s record { caller = c; event = event.NewPrimary q } h b refl in
    record {
      same = λ r is. inr (elim (elected_when f h q was rule (i.vacant rule.vacant)) [ inl none ↦ inl none | inr closed ↦ inr (closed_on f s c (event.NewPrimary q) h b refl closed) ]);
      vacant = λ none. absurd (some_none q none);
    }
since_by f s c (event.Begin session txn) h was n b i = cc n
since_by f s c (event.Submit txn index stmt) h was n b i = cc n
since_by f s c (event.AskCommit txn) h was n b i = cc n
since_by f s c (event.AskRollback txn) h was n b i = cc n
since_by f s c (event.Take q j) h was n b i = cc n
since_by f s c (event.Give q told) h was n b i = cc n
since_by f s c (event.Restarted q m) h was n b i = cc n
since_by f s c event.Suspect h was n b i = cc n

since : (f s : ℕ) (more : List Entry) (call : Entry) (h : History) (was : Option ℕ) → Begun f s (more ++ call ∷ h) → AreFollowUps more → primary_of (call ∷ h) ≡ was → Since was (more ++ call ∷ h)
since f s [] call h was b are e = record { same = λ r is. inl (sym e ∙ is); vacant = λ none. inl (sym e ∙ none) }
since f s (e ∷ more) call h was b are same =
    since_by f s e.caller e.event (more ++ call ∷ h) was are.0 b (since f s more call h was (begun_before f s e (more ++ call ∷ h) b) are.1 same)

-- Where a run was out at the primary of now, and its transaction is open, that replica was the primary at the turn's call.
module _ (f s r t i : ℕ) (more : List Entry) (call : Entry) (h : History) (b : Begun f s (more ++ call ∷ h)) (are : AreFollowUps more)
    (is_a_call : is_call call.event ≡ true) (primary_stays : primary_of (call ∷ h) ≡ primary_of h) (out : out_at r h ≡ Some (job.Run t i))
    (o_now : is_open (phase_of t (more ++ call ∷ h)) ≡ true) (born_now : IsBorn (length (begun (more ++ call ∷ h))) t) (is_now : primary_of (more ++ call ∷ h) ≡ Some r) where
  b_call : Begun f s (call ∷ h)
  b_call = begun_until f s more (call ∷ h) b

  k : Kept h
  k = kept f s h (begun_before f s call h b_call)

  pub o_then : is_open (phase_of t h) ≡ true
  o_then = opened_before f s t (call ∷ []) h b_call (opened_before f s t more (call ∷ h) b o_now)

  none_went : is_some (went h) ≡ true → ⊥
  none_went gone = refused_all f h (none_for_gone f h (nothing_due f s call h b_call is_a_call)) gone t (k.numbers.runs r t i out).0 o_then

  is_next : i ≡ length (attempt t (journal_of r h)) + 1
  is_next = (k.replicas r).runs t i out

  none_given : primary_of h ≡ None → length (given_to t h) ≡ 0
  none_given none = elim ((k.leads r).vacant none t o_then) [ inl zero_given ↦ zero_given | inr gone ↦ absurd (none_went gone) ]

  was_given : primary_of h ≡ None → primary_of h ≡ Some r
  was_given none = elim ((k.leads r).ahead t i out o_then) [
    | inl given ↦ absurd (omega (arith, given, none_given none, is_next))
    | inr (inl is) ↦ is
    | inr (inr gone) ↦ absurd (none_went gone)
  ]

  pub primary_then : primary_of h ≡ Some r
  primary_then = elim ((since f s more call h (primary_of h) b are primary_stays).same r is_now) [
    | inl is ↦ is
    | inr (inl none) ↦ was_given none
    | inr (inr closed) ↦ absurd (closed t born_now o_now)
  ]
