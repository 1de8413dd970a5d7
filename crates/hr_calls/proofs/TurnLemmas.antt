-- What a turn adds, and what a caller's own calls tell.
use Rattle.std.proofs.Common.{◌≡◌, ℕ, Bool, true, false, cond, ◌==◌, Option, Some, None, List, [], ◌∷◌, ◌++◌, length, refl, ap, sym, ◌∙◌, arith, length-append}
use Rattle.std.proofs.lemmas.Bool.{and_parts, eqb-true, eq-eqb}
use Rattle.std.proofs.lemmas.List.Elements.{filter-append}
use Rattle.hr_history.specs.declared.entry.Entry.{Entry}
use Rattle.hr_history.specs.declared.entry.Event.{Event}
use Rattle.hr_history.specs.History.{History, is_call, calls}
use Rattle.hr_history.specs.Rules.{due}
use Rattle.hr_history.specs.Faithful.{Begun, is_begun, is_next, same_event, is_turn_of, replica_caller}
use Rattle.hr_records.proofs.RuleLemmas.{begun_before, was_due}
use Rattle.hr_calls.specs.Callers.{AreOfOthers, AreOf, AreFollowUps, IsSamePart, IsPartWith}
use Rattle.hr_calls.proofs.PartLemmas.{others, follow_ups}

-- what is due comes by the turn's caller
by_the_turn : (f s : ℕ) (d : Option Event) (e : Entry) (h : History) → d ≡ Some e.event → is_next f s d e h ≡ true → is_turn_of e.caller h ≡ true
by_the_turn f s None e h is next = cc is
by_the_turn f s (Some d) e h is next = (and_parts (same_event d e.event) (is_turn_of e.caller h) next).1

same_caller : (f s : ℕ) (e last : Entry) (h : History) → Begun f s (e ∷ last ∷ h) → is_call e.event ≡ false → last.caller ≡ e.caller
same_caller f s e last h begun n =
    eqb-true last.caller e.caller
    (by_the_turn f s (due f (last ∷ h)) e (last ∷ h) (was_due f s e (last ∷ h) begun n) (and_parts (is_begun f s (last ∷ h)) (is_next f s (due f (last ∷ h)) e (last ∷ h)) begun).1)

-- what follows in a turn carries the number of the call's caller
pub of_one_caller : (f s : ℕ) (more : List Entry) (call : Entry) (h : History) → Begun f s (more ++ call ∷ h) → AreFollowUps more → AreOf call.caller more
of_one_caller f s [] call h begun are = tt
of_one_caller f s (e ∷ []) call h begun are = (sym (same_caller f s e call h begun are.0), tt)
of_one_caller f s (e ∷ last ∷ more) call h begun are =
    let rest = of_one_caller f s (last ∷ more) call h (begun_before f s e (last ∷ more ++ call ∷ h) begun) are.1 in
    (sym (same_caller f s e last (more ++ call ∷ h) begun are.0) ∙ rest.0, rest)

module _ (caller : ℕ) where
  own_first : (e : Entry) (more : List Entry) → e.caller ≡ caller → calls caller (e ∷ more) ≡ e ∷ calls caller more
  own_first e more same = ap (λ b. cond b (e ∷ calls caller more) (calls caller more)) (eq-eqb e.caller caller same)

  own_all : (more : List Entry) → AreOf caller more → calls caller more ≡ more
  own_all [] are = refl
  own_all (e ∷ more) are = own_first e more are.0 ∙ ap (λ l. e ∷ l) (own_all more are.1)

  none_longer : (xs ys : List Entry) → xs ++ ys ≡ ys → xs ≡ []
  none_longer [] ys e = refl
  none_longer (x ∷ xs) ys e = absurd (omega (arith, ap (λ l. length l) e, length-append xs ys))

  others_by : (e : Entry) (more : List Entry) (b : Bool) → (e.caller == caller) ≡ b → cond b (e ∷ calls caller more) (calls caller more) ≡ []
      → (e.caller ≡ caller → ⊥) × (calls caller more ≡ [])
  others_by e more true is none = cc none
  others_by e more false is none = (λ same. absurd (not_both (e.caller == caller) (eq-eqb e.caller caller same) is), none)
    where
      not_both : (b : Bool) → b ≡ true → b ≡ false → ⊥
      not_both true e d = cc d
      not_both false e d = cc e

  no_call_of : (more : List Entry) → calls caller more ≡ [] → AreOfOthers caller more
  no_call_of [] none = tt
  no_call_of (e ∷ more) none = let is = others_by e more (e.caller == caller) refl none in (is.0, no_call_of more is.1)

pub calls_of_turn : (f s : ℕ) (more : List Entry) (call : Entry) (h : History) → Begun f s (more ++ call ∷ h) → AreFollowUps more
    → calls call.caller (more ++ call ∷ h) ≡ more ++ call ∷ calls call.caller h
calls_of_turn f s more call h begun are =
    filter-append (λ (e : Entry). e.caller == call.caller) more (call ∷ h)
    ∙ ap (λ l. l ++ calls call.caller (call ∷ h)) (own_all call.caller more (of_one_caller f s more call h begun are))
    ∙ ap (λ l. more ++ l) (own_first call.caller call h refl)

pub own_calls : (f s r : ℕ) (more : List Entry) (h : History) → Begun f s (more ++ h) → calls (replica_caller r) (more ++ h) ≡ calls (replica_caller r) h → IsSamePart r (more ++ h) h
own_calls f s r more h begun same =
    others f s r more h begun
    (no_call_of (replica_caller r) more
    (none_longer (replica_caller r) (calls (replica_caller r) more) (calls (replica_caller r) h) (sym (filter-append (λ (e : Entry). e.caller == replica_caller r) more h) ∙ same)))

pub part_of_turn : (r : ℕ) (more : List Entry) (call : Entry) (h : History) → AreFollowUps more → IsPartWith r call (more ++ call ∷ h) h
part_of_turn r more call h are = let same = follow_ups r more (call ∷ h) are in record { job = same.job; journal = same.journal }
