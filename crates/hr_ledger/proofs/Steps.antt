-- With one more entry, what is kept is what the history tells.
use Rattle.std.proofs.Common.{◌≡◌, ℕ, ◌+◌, ◌≤◌, true, ◌&&◌, Some, List, [], ◌∷◌, ◌++◌, length, map, reverse, IsTrue, refl, ap, sym, ◌∙◌, subst, arith, length-append}
use Rattle.std.specs.List.{list_all}
use Rattle.std.proofs.lemmas.Bool.{and_from}
use Rattle.std.proofs.lemmas.List.{map-append, length-map, length-reverse, reverse-append}
use Rattle.std.proofs.lemmas.List.Folds.{list_all-append}
use Rattle.hr_rel.specs.declared.stmt.Stmt.{Stmt}
use Rattle.hr_history.specs.declared.entry.Entry.{Entry}
use Rattle.hr_history.specs.declared.entry.Event.{Event}
use Rattle.hr_history.specs.declared.entry.Event.TheVariants as event
use Rattle.hr_history.specs.History.{History, history_of}
use Rattle.hr_history.specs.Transactions.{begun, asks, submits, submitted, next_begun, next_asks, next_submits, next_submitted}
use Rattle.hr_history.specs.Turn.{turn_of}
use Rattle.hr_history.specs.View.{View, view_of}
use Rattle.hr_history.specs.Step.{view_step}
use Rattle.hr_history.specs.Faithful.{Begun, is_begun}
use Rattle.hr_history.proofs.ViewSteps.{view_same}
use Rattle.hr_moves.specs.TurnSteps.{turn_step}
use Rattle.hr_sane.proofs.TurnLemmas.{turn_same}
use Rattle.hr_entries.specs.declared.stored.Stored.{Stored}
use Rattle.hr_entries.specs.Entries.{entry_of, entries_of, is_within, are_within}
use Rattle.hr_ledger.specs.Chronicle.{Chronicle, and_entry}
use Rattle.hr_ledger.specs.Kept.{PlainLedger, entries_kept, history_kept, seen_plain, AreKept, IsStep}
use Rattle.hr_ledger.proofs.Extended.{entries_kept_on, within_all}

-- the history is as long as what is stored
pub length_kept : (p : PlainLedger) → length (history_kept p) ≡ length p.stored
length_kept p = length-reverse (entries_kept p) ∙ length-map p.stored (entry_of p.statements p.view.replies)

module _ (p q : PlainLedger) (e : Entry) (kept : AreKept p) (s : IsStep p q e) where
  pub entries_step : entries_kept q ≡ entries_kept p ++ e ∷ []
  entries_step =
      ap (entries_of q.statements q.view.replies) s.stored
      ∙ map-append (entry_of q.statements q.view.replies) p.stored (s.entry ∷ [])
      ∙ (λ i. entries_kept_on p.statements q.statements p.view.replies q.view.replies s.statements s.replies p.stored kept.within i ++ s.is i ∷ [])

  pub history_step : history_kept q ≡ e ∷ history_kept p
  history_step = ap history_of entries_step ∙ reverse-append (entries_kept p) (e ∷ [])

  f_step : q.view.f ≡ p.view.f
  f_step = ap (λ (v : View). v.f) s.view

  pub seen_step : seen_plain q ≡ record (seen_plain p) { entries = entries_kept p ++ e ∷ [] }
  seen_step = λ i. record { f = f_step i; sessions = s.sessions i; entries = entries_step i }

  few_step : q.asks ≤ length q.stored
  few_step = omega (arith, s.few, kept.few, ap length s.stored, length-append p.stored (s.entry ∷ []))

  within_step : IsTrue (are_within q.statements q.view.replies q.stored)
  within_step =
      let test = λ (x : Stored). is_within (length q.statements) (length q.view.replies) x.event in
      ap (are_within q.statements q.view.replies) s.stored ∙ list_all-append test p.stored (s.entry ∷ [])
      ∙ and_from (are_within q.statements q.view.replies p.stored) (is_within (length q.statements) (length q.view.replies) s.entry.event && true)
      (within_all p.statements q.statements p.view.replies q.view.replies s.statements s.replies p.stored kept.within)
      (and_from (is_within (length q.statements) (length q.view.replies) s.entry.event) true s.within refl)

  module _ (begins : Begun p.view.f p.sessions (e ∷ history_kept p)) where
    place : length p.stored ≡ length (history_kept p)
    place = sym (length_kept p)

    view_now : q.view ≡ view_of p.view.f (e ∷ history_kept p)
    view_now = s.view ∙ (λ i. view_step (kept.view i) (place i) (kept.asks i) e.event) ∙ sym (view_same p.view.f p.sessions e (history_kept p) begins)

    turn_now : q.turn ≡ turn_of (e ∷ history_kept p)
    turn_now = s.turn ∙ (λ i. turn_step (kept.view i) (kept.turn i) (place i) e.event) ∙ sym (turn_same p.view.f p.sessions e (history_kept p) begins)

    pub kept_step : AreKept q
    kept_step = record {
      within = within_step;
      begun = (λ i. is_begun (f_step i) (s.sessions i) (history_step i)) ∙ begins;
      view = view_now ∙ (λ i. view_of (sym f_step i) (sym history_step i));
      turn = turn_now ∙ ap turn_of (sym history_step);
      asks = s.asks ∙ ap (next_asks e.event) kept.asks ∙ ap asks (sym history_step);
      few = few_step;
      sessions = s.begun ∙ ap (next_begun e.event) kept.sessions ∙ ap begun (sym history_step);
      submitted = s.submitted ∙ ap (next_submitted e.event) kept.submitted ∙ ap submitted (sym history_step);
      scripts = λ t. s.scripts t (submits t (history_kept p)) (kept.scripts t) ∙ ap (λ h. map Some (submits t h)) (sym history_step);
    }

-- what contracts see is one more entry
pub with_entry : (p q : PlainLedger) (s : Chronicle) (caller : ℕ) (e : Event) → AreKept p → seen_plain p ≡ s → IsStep p q record { caller = caller; event = e } → seen_plain q ≡ and_entry caller e s
with_entry p q s caller e kept is step = seen_step p q record { caller = caller; event = e } kept step ∙ ap (and_entry caller e) is

-- where the stored list stays, so does all that is kept
pub same_stored : (p : PlainLedger) (stored : List Stored) → stored ≡ p.stored → AreKept p → AreKept record p { stored = stored }
same_stored p stored same kept = subst (λ (xs : List Stored). AreKept record p { stored = xs }) (sym same) kept
