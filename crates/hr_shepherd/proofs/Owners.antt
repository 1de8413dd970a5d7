-- What the gate looks at is what the refusals speak of.
use Rattle.std.proofs.Common.{◌≡◌, inl, inr, ℕ, zero, suc, ◌+◌, ◌<◌, ◌≤◌, Bool, true, false, cond, ◌&&◌, ◌||◌, ◌==◌, not, nat_le, Option, Some, None, List, [], ◌∷◌, length, refl, ap, sym, ◌∙◌, subst, arith}
use Rattle.std.specs.List.{filter, list_any, range_with_len}
use Rattle.std.proofs.lemmas.Bool.{and_parts, leb-true}
use Rattle.hr_base.specs.Lists.{numbered, one_to}
use Rattle.hr_history.specs.declared.entry.Entry.{Entry}
use Rattle.hr_history.specs.declared.entry.Event.{Event}
use Rattle.hr_history.specs.declared.entry.Event.TheVariants as event
use Rattle.hr_history.specs.declared.phase.Phase.{Phase}
use Rattle.hr_history.specs.History.{History}
use Rattle.hr_history.specs.Transactions.{begun, next_begun, session_of, phase_of, is_open}
use Rattle.hr_history.specs.Replies.{is_of}
use Rattle.hr_history.specs.View.{view_of}
use Rattle.hr_history.specs.Processed.{phase_in}
use Rattle.hr_history.specs.Jobs.{txn_numbers}
use Rattle.hr_history.specs.Faithful.{Begun, session_caller, owns, has_open}
use Rattle.hr_history.proofs.StepLemmas.{call_allowed}
use Rattle.hr_moves.specs.Kept.{open_in}
use Rattle.hr_records.specs.Numbers.{IsBorn}
use Rattle.hr_records.proofs.Options.{some_none}
use Rattle.hr_records.proofs.Places.{numbered_born, numbered_more}
use Rattle.hr_records.proofs.RuleLemmas.{begun_before}
use Rattle.hr_records.proofs.ViewWords.{how_many, phase_seen}

-- ---- sessions that have begun a transaction have the numbers that sessions have

session_step : (f s c : ℕ) (e : Event) (h : History) → Begun f s (record { caller = c; event = e } ∷ h) → ((t q : ℕ) → numbered (begun h) t ≡ Some q → IsBorn s q)
    → (t q : ℕ) → numbered (next_begun e (begun h)) t ≡ Some q → IsBorn s q
session_step f s c (event.Begin session txn) h has before t q at =
    let e : Entry = record { caller = c; event = event.Begin session txn } in
    let all = and_parts ((c == session_caller f session) && nat_le 1 session && nat_le session s && (txn == length (begun h) + 1)) (not (has_open session h)) (call_allowed f s e h has refl) in
    let next = and_parts ((c == session_caller f session) && nat_le 1 session && nat_le session s) (txn == length (begun h) + 1) all.0 in
    let high = and_parts ((c == session_caller f session) && nat_le 1 session) (nat_le session s) next.0 in
    let low = and_parts (c == session_caller f session) (nat_le 1 session) high.0 in
    elim (numbered_more (begun h) session t q at) [ inl old ↦ before t q old | inr new ↦ subst (IsBorn s) new.1 (leb-true 1 session low.1, leb-true session s high.1) ]
session_step f s c (event.Submit txn index stmt) h has before t q at = before t q at
session_step f s c (event.AskCommit txn) h has before t q at = before t q at
session_step f s c (event.AskRollback txn) h has before t q at = before t q at
session_step f s c (event.Take r j) h has before t q at = before t q at
session_step f s c (event.Give r told) h has before t q at = before t q at
session_step f s c (event.Restarted r n) h has before t q at = before t q at
session_step f s c event.Suspect h has before t q at = before t q at
session_step f s c (event.Decide txn) h has before t q at = before t q at
session_step f s c (event.Refuse txn x) h has before t q at = before t q at
session_step f s c (event.Convict r x) h has before t q at = before t q at
session_step f s c (event.NewPrimary r) h has before t q at = before t q at
session_step f s c (event.Preempt r txn) h has before t q at = before t q at

nobody : (t q s : ℕ) → numbered [] t ≡ Some q → IsBorn s q
nobody zero q s at = absurd (some_none q (sym at))
nobody (suc n) q s at = absurd (some_none q (sym at))

pub sessions_known : (f s : ℕ) (h : History) → Begun f s h → (t q : ℕ) → numbered (begun h) t ≡ Some q → IsBorn s q
sessions_known f s [] has t q at = nobody t q s at
sessions_known f s (e ∷ h) has t q at = session_step f s e.caller e.event h has (sessions_known f s h (begun_before f s e h has)) t q at

-- ---- a session's open transaction is looked for among the open ones

both_step : (p q : ℕ → Bool) (x : ℕ) (xs : List ℕ) (b : Bool) → list_any q (filter p xs) ≡ list_any (λ t. p t && q t) xs
    → list_any q (cond b (x ∷ filter p xs) (filter p xs)) ≡ ((b && q x) || list_any (λ t. p t && q t) xs)
both_step p q x xs true rest = ap (λ b. q x || b) rest
both_step p q x xs false rest = rest

any_both : (p q : ℕ → Bool) (xs : List ℕ) → list_any q (filter p xs) ≡ list_any (λ t. p t && q t) xs
any_both p q [] = refl
any_both p q (x ∷ xs) = both_step p q x xs (p x) (any_both p q xs)

any_agree : (p q : ℕ → Bool) (a n : ℕ) → ((x : ℕ) → a ≤ x → x < a + n → p x ≡ q x) → list_any p (range_with_len a n) ≡ list_any q (range_with_len a n)
any_agree p q a zero same = refl
any_agree p q a (suc n) same =
    let here = same a (omega arith) (omega arith) in
    let rest = any_agree p q (a + 1) n (λ x low high. same x (omega (arith, low)) (omega (arith, high))) in
    λ i. here i || rest i

pub open_found : (f q : ℕ) (h : History) → list_any (λ t. is_of q t h) (open_in (view_of f h)) ≡ has_open q h
open_found f q h =
    any_both (λ t. is_open (phase_in (view_of f h) t)) (λ t. is_of q t h) (txn_numbers (view_of f h))
    ∙ ap (λ n. list_any (λ t. is_open (phase_in (view_of f h) t) && is_of q t h) (one_to n)) (how_many f h)
    ∙ any_agree (λ t. is_open (phase_in (view_of f h) t) && is_of q t h) (λ t. is_open (phase_of t h) && is_of q t h) 1 (length (begun h))
    (λ x low high. ap (λ (p : Phase). is_open p && is_of q x h) (phase_seen f x h (low, omega (arith, high))))

-- ---- a transaction that a caller owns has begun

own_by : (f caller t : ℕ) (h : History) (o : Option ℕ) → session_of t h ≡ o → owns f caller o ≡ true → IsBorn (length (begun h)) t
own_by f caller t h None e own = cc
own_by f caller t h (Some s) e own = numbered_born (begun h) t s e

pub own_born : (f caller t : ℕ) (h : History) → owns f caller (session_of t h) ≡ true → IsBorn (length (begun h)) t
own_born f caller t h own = own_by f caller t h (session_of t h) refl own

seen_by : (f caller t : ℕ) (h : History) (b : Bool) → owns f caller (session_of t h) ≡ b → (b && is_open (phase_in (view_of f h) t)) ≡ (b && is_open (phase_of t h))
seen_by f caller t h true e = ap is_open (phase_seen f t h (own_born f caller t h e))
seen_by f caller t h false e = refl

-- whether it is open is seen in the view
pub own_seen : (f caller t : ℕ) (h : History) → (owns f caller (session_of t h) && is_open (phase_in (view_of f h) t)) ≡ (owns f caller (session_of t h) && is_open (phase_of t h))
own_seen f caller t h = seen_by f caller t h (owns f caller (session_of t h)) refl

pub not_less : (a b : ℕ) → b < a → nat_le a b ≡ false
not_less a b less = by (nat_le a b) refl
  where
    by : (c : Bool) → nat_le a b ≡ c → c ≡ false
    by true e = absurd (omega (arith, leb-true a b e, less))
    by false e = refl
