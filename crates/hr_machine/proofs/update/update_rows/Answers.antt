use Rattle.std.proofs.Common.{Ok, refl, ap, sym, ◌∙◌, arith}
use Rattle.hr_machine.specs.Changes.{changes_from}
use Rattle.hr_machine.proofs.UpdateLaws.{each_done, each_failed, changes_counted}
use Rattle.hr_machine.proofs.update.update_rows.Goals as goal

pub returns-in-Ok-clause-outcome : goal.returns-in-Ok-clause-outcome
returns-in-Ok-clause-outcome c =
    let columns = c.args.columns.now in
    let update = c.args.update.now in
    let table = c.args.table.now.items in
    let told = ap (λ rows. changes_from columns update 0 rows) (sym c.deref-2.ensures.value) ∙ (rw c.in-Ok.is at c.in_ok-changes.ensures) in
    let counted = changes_counted columns update table c.in-Ok.changes.items told in
    (each_done columns update table c.in-Ok.changes.items told ∙ ap Ok (sym c.apply.ensures), omega (arith, counted, c.len-count.ensures, c.in-Ok.changes.ok))

pub returns-in-Err-clause-outcome : goal.returns-in-Err-clause-outcome
returns-in-Err-clause-outcome c =
    let columns = c.args.columns.now in
    let update = c.args.update.now in
    let told = ap (λ rows. changes_from columns update 0 rows) (sym c.deref-2.ensures.value) ∙ (rw c.in-Err.is at c.in_ok-changes.ensures) in
    (each_failed columns update c.args.table.now.items c.in-Err.error told, refl)
