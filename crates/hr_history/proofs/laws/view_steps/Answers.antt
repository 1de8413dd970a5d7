use Rattle.std.proofs.Common.{◌≡◌, ℕ, [], ◌∷◌, ◌++◌, ap, ◌∙◌, subst}
use Rattle.std.proofs.lemmas.List.{reverse-append, length-reverse}
use Rattle.hr_history.specs.History.{history_of}
use Rattle.hr_history.specs.Transactions.{asks}
use Rattle.hr_history.specs.View.{view_of}
use Rattle.hr_history.specs.Step.{view_step}
use Rattle.hr_history.specs.Faithful.{Begun}
use Rattle.hr_history.proofs.ViewSteps.{view_same}
use Rattle.hr_history.proofs.laws.view_steps.Goals as goal

pub returns-clause-view : goal.returns-clause-view
returns-clause-view c f sessions e before begun = view_same f sessions e before begun

pub returns-clause-stored : goal.returns-clause-stored
returns-clause-stored c f sessions entries e begun =
    let one : history_of (entries ++ e ∷ []) ≡ e ∷ history_of entries = reverse-append entries (e ∷ []) in
    ap (view_of f) one ∙ view_same f sessions e (history_of entries) (subst (Begun f sessions) one begun)
    ∙ ap (λ (n : ℕ). view_step (view_of f (history_of entries)) n (asks (history_of entries)) e.event) (length-reverse entries)
