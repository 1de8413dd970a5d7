-- What is owed comes next.
use Rattle.std.proofs.Common.{◌≡◌, ℕ, Bool, true, false, Some, [], ◌∷◌, refl, ap, sym, ◌∙◌}
use Rattle.hr_base.specs.Lists.{first_some}
use Rattle.hr_history.specs.declared.cause.CauseAt.TheVariants as cause
use Rattle.hr_history.specs.declared.entry.Entry.{Entry}
use Rattle.hr_history.specs.declared.entry.Event.TheVariants as event
use Rattle.hr_history.specs.declared.evidence.Evidence.TheVariants as evidence
use Rattle.hr_history.specs.History.{History, is_call}
use Rattle.hr_history.specs.Primary.{primary_of}
use Rattle.hr_history.specs.Turn.{turn_of}
use Rattle.hr_history.specs.View.{view_of}
use Rattle.hr_history.specs.Rules.{convict_with, convict, primary_gone, primary_reply, decide, differ, new_primary, preempt, due}
use Rattle.hr_history.specs.Faithful.{Begun, Faithful}
use Rattle.hr_records.proofs.Options.{some_none, same_some}
use Rattle.hr_records.proofs.RuleLemmas.{was_due, nothing_due}
use Rattle.hr_decisions.proofs.DecisionLemmas.{nothing_after}

module _ (f c t index by at p : ℕ) (h : History) (lead : primary_of h ≡ Some p) where
  abbrev Refused : History
  Refused = record { caller = c; event = event.Refuse t (cause.Differ index by at) } ∷ h

  is_due : due f (record { caller = c; event = event.Refuse t (cause.Differ index by at) } ∷ h) ≡ Some (event.Convict p (evidence.Contradicted t index))
  is_due =
      let v = view_of f Refused in
      let turn = turn_of Refused in
      ap (λ o. first_some (convict_with o record { txn = t; index = index } ∷ convict v turn ∷ primary_gone v turn ∷ primary_reply v turn ∷ decide v turn ∷ differ v turn ∷ new_primary v turn ∷ preempt v turn ∷ [])) lead

  by_kind : (s : ℕ) (e : Entry) → Begun f s (e ∷ Refused) → (b : Bool) → is_call e.event ≡ b → e.event ≡ event.Convict p (evidence.Contradicted t index)
  by_kind s e b true call = absurd (some_none _ (sym is_due ∙ nothing_due f s e Refused b call))
  by_kind s e b false follows = same_some e.event (event.Convict p (evidence.Contradicted t index)) (sym (was_due f s e Refused b follows) ∙ is_due)

  pub comes_next : (s : ℕ) (e : Entry) → Begun f s (e ∷ record { caller = c; event = event.Refuse t (cause.Differ index by at) } ∷ h) → e.event ≡ event.Convict p (evidence.Contradicted t index)
  comes_next s e b = by_kind s e b (is_call e.event) refl

  pub not_last : (s : ℕ) → Faithful f s (record { caller = c; event = event.Refuse t (cause.Differ index by at) } ∷ h) → ⊥
  not_last s faithful = some_none _ (sym is_due ∙ nothing_after f s Refused faithful)
