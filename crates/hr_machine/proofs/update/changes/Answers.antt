use Rattle.std.proofs.Common.{◌≡◌, false, List, [], drop, Ok, ap, sym, subst, ◌∙◌, ◌∷◌, arith}
use Rattle.std.specs.List.{list_any}
use Rattle.std.proofs.lemmas.List.{append-nil}
use Rattle.hr_rel.specs.declared.value.Value.{Value}
use Rattle.hr_meaning.specs.Truth.{is_kept}
use Rattle.hr_eval.specs.SoFar.{led}
use Rattle.hr_eval.proofs.Each.{led_from_start}
use Rattle.hr_machine.specs.declared.update.Change.{Change}
use Rattle.hr_machine.specs.Changes.{changes_from}
use Rattle.hr_machine.proofs.UpdateLaws.{changes_begin, none_changed}
use Rattle.hr_machine.proofs.update.changes.Goals as goal

pub rows-init : goal.rows-init
rows-init c =
    let columns = c.args.columns.now in
    let update = c.args.update.now in
    let table = c.args.table.now in
    let from = c.args.span.from in
    record {
      within = c.requires.within.0;
      rest =
          ap (λ (l : List Change). led l (changes_from columns update from (drop from table))) c.new-changes.ensures.items
          ∙ led_from_start (changes_from columns update from (drop from table))
          ∙ changes_begin columns update from table c.requires.clear.0 (omega (arith, c.requires.within.0, c.requires.within.1));
    }

pub returns : goal.returns
returns c =
    let columns = c.args.columns.now in
    let update = c.args.update.now in
    let table = c.args.table.now in
    let place = c.rows.place in
    let at : c.args.span.to ≡ place = omega (arith, c.rows.invariant.within, c.rows-test.false) in
    let none : list_any (λ (row : List Value). is_kept update.filter (row ∷ [])) (drop place table) ≡ false =
    subst (λ n. list_any (λ (row : List Value). is_kept update.filter (row ∷ [])) (drop n table) ≡ false) at c.requires.clear.1 in
    sym c.rows.invariant.rest ∙ ap (led c.rows.changes.items) (none_changed columns update place (drop place table) none) ∙ ap Ok (append-nil c.rows.changes.items)
