-- A session's tries, entry by entry, are those of the history.
use Rattle.std.proofs.Common.{◌≡◌, ℕ, zero, suc, ◌+◌, ◌<◌, Bool, true, false, not, ◌&&◌, ◌||◌, ◌==◌, if◌then◌else◌, nat_le, Option, Some, None, List, [], ◌∷◌, ◌++◌, take, length, get_or, slice_get, refl, ap, sym, ◌∙◌, map, arith, add-one, add-zero}
use Rattle.std.specs.List.{range_with_len}
use Rattle.std.proofs.lemmas.List.{reverse-append}
use Rattle.std.proofs.lemmas.Bool.{eq-eqb}
use Rattle.std.proofs.lemmas.Option.{slice_get-get_or}
use Rattle.hr_base.specs.Lists.{last_of, one_to}
use Rattle.hr_history.specs.declared.entry.Entry.{Entry}
use Rattle.hr_history.specs.declared.entry.Event.{Event}
use Rattle.hr_history.specs.declared.entry.Event.TheVariants as event
use Rattle.hr_history.specs.declared.phase.Phase.{Phase}
use Rattle.hr_history.specs.declared.phase.Phase.TheVariants as phase
use Rattle.hr_history.specs.History.{History, history_of}
use Rattle.hr_history.specs.Transactions.{asks, log, next_phase, phase_of}
use Rattle.hr_records.proofs.Options.{some_none, same_some}
use Rattle.hr_schedule.specs.declared.attempt.Try.{Try}
use Rattle.hr_schedule.specs.Tries.{is_refused, try_after, next_tries, tries_of, last_try}
use Rattle.hr_run_report.specs.ByEntries.{begun_at, try_behind, tries_with, tries_by, refused_by, refused_last, refused_in}

-- whether the last try is refused, where transactions stand so
abbrev pub last_refused : Option Try → (ℕ → Phase) → Bool
last_refused None phases = false
last_refused (Some last) phases = is_refused (phases last.txn)

abbrev pub phases_in : History → ℕ → Phase
phases_in h t = phase_of t h

same_try : (retries : ℕ) (last : Option Try) (phases : ℕ → Phase) (refused : Bool) (txn : ℕ) → refused ≡ last_refused last phases → try_behind retries last refused txn ≡ try_after retries last phases txn
same_try retries None phases refused txn is = refl
same_try retries (Some last) phases refused txn is =
    ap (λ (b : Bool). if b && nat_le last.number retries
    then record { block = last.block; number = last.number + 1; txn = txn }
    else record { block = last.block + 1; number = 1; txn = txn }) is

with_begin : (retries txn : ℕ) (b : Bool) (phases : ℕ → Phase) (tries : List Try) (refused : Bool) → refused ≡ last_refused (last_of tries) phases
    → tries_with retries (if b then Some txn else None) refused tries ≡ (if b then tries ++ try_after retries (last_of tries) phases txn ∷ [] else tries)
with_begin retries txn false phases tries refused is = refl
with_begin retries txn true phases tries refused is = ap (λ (x : Try). tries ++ x ∷ []) (same_try retries (last_of tries) phases refused txn is)

same_next : (retries s : ℕ) (e : Event) (phases : ℕ → Phase) (tries : List Try) (refused : Bool) → refused ≡ last_refused (last_of tries) phases
    → tries_with retries (begun_at s e) refused tries ≡ next_tries retries s e phases tries
same_next retries s (event.Begin session txn) phases tries refused is = with_begin retries txn (session == s) phases tries refused is
same_next retries s (event.Submit txn index stmt) phases tries refused is = refl
same_next retries s (event.AskCommit txn) phases tries refused is = refl
same_next retries s (event.AskRollback txn) phases tries refused is = refl
same_next retries s (event.Take replica job) phases tries refused is = refl
same_next retries s (event.Give replica told) phases tries refused is = refl
same_next retries s (event.Restarted replica count) phases tries refused is = refl
same_next retries s event.Suspect phases tries refused is = refl
same_next retries s (event.Decide txn) phases tries refused is = refl
same_next retries s (event.Refuse txn cause) phases tries refused is = refl
same_next retries s (event.Convict replica shown) phases tries refused is = refl
same_next retries s (event.NewPrimary replica) phases tries refused is = refl
same_next retries s (event.Preempt replica txn) phases tries refused is = refl

and_false : (b : Bool) → false ≡ (b && false)
and_false true = refl
and_false false = refl

or_true : (b : Bool) → true ≡ (b || true)
or_true true = refl
or_true false = refl

and_true : (b : Bool) → b ≡ (b && true)
and_true true = refl
and_true false = refl

or_false : (b : Bool) → b ≡ (b || false)
or_false true = refl
or_false false = refl

set_else : (b : Bool) (q p : Phase) → is_refused q ≡ false → is_refused (if b then q else p) ≡ (is_refused p && not b)
set_else true q p is = is ∙ and_false (is_refused p)
set_else false q p is = and_true (is_refused p)

set_refused : (b : Bool) (p : Phase) → is_refused (if b then phase.Refused else p) ≡ (is_refused p || b)
set_refused true p = or_true (is_refused p)
set_refused false p = or_false (is_refused p)

refused_step : (t : ℕ) (e : Event) (asked logged : ℕ) (p : Phase) → is_refused (next_phase t e asked logged p) ≡ refused_by t e (is_refused p)
refused_step t (event.Begin session txn) asked logged p = set_else (txn == t) phase.Active p refl
refused_step t (event.Submit txn index stmt) asked logged p = refl
refused_step t (event.AskCommit txn) asked logged p = set_else (txn == t) (phase.Asked (asked + 1)) p refl
refused_step t (event.AskRollback txn) asked logged p = set_else (txn == t) phase.RolledBack p refl
refused_step t (event.Take replica job) asked logged p = refl
refused_step t (event.Give replica told) asked logged p = refl
refused_step t (event.Restarted replica count) asked logged p = refl
refused_step t event.Suspect asked logged p = refl
refused_step t (event.Decide txn) asked logged p = set_else (txn == t) (phase.Logged (logged + 1)) p refl
refused_step t (event.Refuse txn cause) asked logged p = set_refused (txn == t) p
refused_step t (event.Convict replica shown) asked logged p = refl
refused_step t (event.NewPrimary replica) asked logged p = refl
refused_step t (event.Preempt replica txn) asked logged p = refl

-- of a try that was there already
kept_last : (o : Option Try) (caller : ℕ) (e : Event) (h : History) (refused : Bool) → refused ≡ last_refused o (phases_in h)
    → refused_last o (Some record { caller = caller; event = e }) refused ≡ last_refused o (phases_in (record { caller = caller; event = e } ∷ h))
kept_last None caller e h refused is = is
kept_last (Some l) caller e h refused is = ap (refused_by l.txn e) is ∙ sym (refused_step l.txn e (asks h) (length (log h)) (phase_of l.txn h))

same_number : (n : ℕ) → (n == n) ≡ true
same_number n = eq-eqb n n refl

-- of the try that begins now
new_last : (x : Try) (caller session txn : ℕ) (h : History) (refused : Bool) → x.txn ≡ txn
    → refused_last (Some x) (Some record { caller = caller; event = event.Begin session txn }) refused ≡ last_refused (Some x) (phases_in (record { caller = caller; event = event.Begin session txn } ∷ h))
new_last x caller session txn h refused is =
    let own : (txn == x.txn) ≡ true = ap (λ (t : ℕ). txn == t) is ∙ same_number txn in
    ap (λ (b : Bool). refused && not b) own ∙ sym (and_false refused)
    ∙ sym (ap (λ (b : Bool). is_refused (if b then phase.Active else phase_of x.txn h)) own)

abbrev txn_in : Try → ℕ
txn_in try = try.txn

txn_of_either : (b : Bool) (x y : Try) (t : ℕ) → txn_in x ≡ t → txn_in y ≡ t → txn_in (if b then x else y) ≡ t
txn_of_either true x y t of_x of_y = of_x
txn_of_either false x y t of_x of_y = of_y

txn_of_try : (retries : ℕ) (last : Option Try) (phases : ℕ → Phase) (t : ℕ) → txn_in (try_after retries last phases t) ≡ t
txn_of_try retries None phases t = refl
txn_of_try retries (Some last) phases t =
    txn_of_either (is_refused (phases last.txn) && nat_le last.number retries) (record { block = last.block; number = last.number + 1; txn = t }) (record { block = last.block + 1; number = 1; txn = t }) t refl refl

last_end : (xs : List Try) (x : Try) → last_of (xs ++ x ∷ []) ≡ Some x
last_end [] x = refl
last_end (y ∷ []) x = refl
last_end (y ∷ z ∷ xs) x = last_end (z ∷ xs) x

by_begin : (b : Bool) (caller session txn : ℕ) (h : History) (tries : List Try) (x : Try) (refused : Bool) → refused ≡ last_refused (last_of tries) (phases_in h) → x.txn ≡ txn
    → refused_last (last_of (if b then tries ++ x ∷ [] else tries)) (Some record { caller = caller; event = event.Begin session txn }) refused
    ≡ last_refused (last_of (if b then tries ++ x ∷ [] else tries)) (phases_in (record { caller = caller; event = event.Begin session txn } ∷ h))
by_begin false caller session txn h tries x refused is its = kept_last (last_of tries) caller (event.Begin session txn) h refused is
by_begin true caller session txn h tries x refused is its = rw (last_end tries x) (new_last x caller session txn h refused its)

next_refused : (retries s caller : ℕ) (e : Event) (h : History) (refused : Bool) → refused ≡ last_refused (last_try retries s h) (phases_in h)
    → refused_last (last_try retries s (record { caller = caller; event = e } ∷ h)) (Some record { caller = caller; event = e }) refused
    ≡ last_refused (last_try retries s (record { caller = caller; event = e } ∷ h)) (phases_in (record { caller = caller; event = e } ∷ h))
next_refused retries s caller (event.Begin session txn) h refused is =
    by_begin (session == s) caller session txn h (tries_of retries s h) (try_after retries (last_try retries s h) (phases_in h) txn) refused is (txn_of_try retries (last_try retries s h) (phases_in h) txn)
next_refused retries s caller (event.Submit txn index stmt) h refused is = kept_last (last_try retries s h) caller (event.Submit txn index stmt) h refused is
next_refused retries s caller (event.AskCommit txn) h refused is = kept_last (last_try retries s h) caller (event.AskCommit txn) h refused is
next_refused retries s caller (event.AskRollback txn) h refused is = kept_last (last_try retries s h) caller (event.AskRollback txn) h refused is
next_refused retries s caller (event.Take replica job) h refused is = kept_last (last_try retries s h) caller (event.Take replica job) h refused is
next_refused retries s caller (event.Give replica told) h refused is = kept_last (last_try retries s h) caller (event.Give replica told) h refused is
next_refused retries s caller (event.Restarted replica count) h refused is = kept_last (last_try retries s h) caller (event.Restarted replica count) h refused is
next_refused retries s caller event.Suspect h refused is = kept_last (last_try retries s h) caller event.Suspect h refused is
next_refused retries s caller (event.Decide txn) h refused is = kept_last (last_try retries s h) caller (event.Decide txn) h refused is
next_refused retries s caller (event.Refuse txn cause) h refused is = kept_last (last_try retries s h) caller (event.Refuse txn cause) h refused is
next_refused retries s caller (event.Convict replica shown) h refused is = kept_last (last_try retries s h) caller (event.Convict replica shown) h refused is
next_refused retries s caller (event.NewPrimary replica) h refused is = kept_last (last_try retries s h) caller (event.NewPrimary replica) h refused is
next_refused retries s caller (event.Preempt replica txn) h refused is = kept_last (last_try retries s h) caller (event.Preempt replica txn) h refused is

take_next : (es : List Entry) (i : ℕ) (e : Entry) → slice_get es i ≡ Some e → take (suc i) es ≡ take i es ++ e ∷ []
take_next [] i e is = absurd (some_none e (sym is))
take_next (y ∷ es) zero e is = ap (λ (x : Entry). x ∷ []) (same_some y e is)
take_next (y ∷ es) (suc i) e is = ap (λ (xs : List Entry). y ∷ xs) (take_next es i e is)

one_later : (es : List Entry) (i : ℕ) (e : Entry) → slice_get es i ≡ Some e → history_of (take (i + 1) es) ≡ e ∷ history_of (take i es)
one_later es i e is = rw add-one (ap history_of (take_next es i e is) ∙ reverse-append (take i es) (e ∷ []))

-- what one more entry makes of the tries, and of whether the last of them is refused
pub step : (retries s : ℕ) (es : List Entry) (i : ℕ) (o : Option Entry) (own new : List Try) (refused now : Bool)
    → slice_get es i ≡ o → i < length es
    → (own ≡ tries_of retries s (history_of (take i es))) × (refused ≡ last_refused (last_of own) (phases_in (history_of (take i es))))
    → new ≡ tries_by retries s o refused own → now ≡ refused_in new o refused
    → (new ≡ tries_of retries s (history_of (take (i + 1) es))) × (now ≡ last_refused (last_of new) (phases_in (history_of (take (i + 1) es))))
step retries s [] i o own new refused now is within kept new_is now_is = absurd (omega arith)
step retries s (y ∷ es) i None own new refused now is within kept new_is now_is =
    absurd (some_none (get_or (y ∷ es) i y) (sym (slice_get-get_or (y ∷ es) i y within) ∙ is))
step retries s (y ∷ es) i (Some e) own new refused now is within kept new_is now_is =
    let h : History = history_of (take i (y ∷ es)) in
    let later : history_of (take (i + 1) (y ∷ es)) ≡ e ∷ h = one_later (y ∷ es) i e is in
    let was : refused ≡ last_refused (last_try retries s h) (phases_in h) = kept.1 ∙ ap (λ (ts : List Try). last_refused (last_of ts) (phases_in h)) kept.0 in
    let all : new ≡ tries_of retries s (e ∷ h) =
    new_is ∙ ap (λ (ts : List Try). tries_by retries s (Some e) refused ts) kept.0 ∙ same_next retries s e.event (phases_in h) (tries_of retries s h) refused was in (
      all ∙ sym (ap (tries_of retries s) later),
      now_is ∙ ap (λ (ts : List Try). refused_in ts (Some e) refused) all
          ∙ next_refused retries s e.caller e.event h refused was
          ∙ sym (ap (λ (ts : List Try). last_refused (last_of ts) (phases_in (e ∷ h))) all)
          ∙ sym (ap (λ (k : History). last_refused (last_of new) (phases_in k)) later),
    )

-- one session more
numbers_next : {X : Type 0} (f : ℕ → X) (a n : ℕ) → map f (range_with_len a (suc n)) ≡ map f (range_with_len a n) ++ f (a + n) ∷ []
numbers_next f a zero = sym (ap (λ (m : ℕ). f m ∷ []) (add-zero a))
numbers_next f a (suc n) = ap (λ (xs : List _). f a ∷ xs) (numbers_next f (a + 1) n) ∙ ap (λ (m : ℕ). f a ∷ (map f (range_with_len (a + 1) n) ++ f m ∷ [])) (omega arith)

pub one_session_more : {X : Type 0} (f : ℕ → X) (n : ℕ) (all : List X) → all ≡ map f (one_to n) → all ++ f (n + 1) ∷ [] ≡ map f (one_to (n + 1))
one_session_more f n all is =
    let place : n + 1 ≡ 1 + n = omega arith in
    ap (λ (xs : List _). xs ++ f (n + 1) ∷ []) is ∙ ap (λ (m : ℕ). map f (one_to n) ++ f m ∷ []) place ∙ sym (rw add-one (numbers_next f 1 n))
