use Rattle.std.proofs.Common.{[], Ok, refl, ap, sym, ◌∙◌}
use Rattle.hr_machine.specs.Changes.{rows_error, put_rows}
use Rattle.hr_machine.proofs.InsertLaws.{inserted_whole, inserted_failed}
use Rattle.hr_machine.proofs.insert.insert_rows.Goals as goal

pub returns-in-Some-clause-outcome : goal.returns-in-Some-clause-outcome
returns-in-Some-clause-outcome c =
    let told = ap (λ table. rows_error c.args.columns.now table [] c.args.rows.now) (sym c.deref.ensures.value) ∙ sym c.in_ok-error.ensures ∙ c.in-Some.is in
    (inserted_failed c.args.columns.now c.args.table.now.items c.args.rows.now c.in-Some.error told, refl)

pub returns-clause-outcome : goal.returns-clause-outcome
returns-clause-outcome c =
    let told = ap (λ table. rows_error c.args.columns.now table [] c.args.rows.now) (sym c.deref.ensures.value) ∙ sym c.in_ok-error.ensures ∙ c.in_default.is in
    let put = c.put_rows.ensures ∙ (λ i. put_rows (c.in_ok-reserve.ensures.items i) (c.in_ok-copies.ensures i)) in
    inserted_whole c.args.columns.now c.args.table.now.items c.args.rows.now told ∙ ap Ok (sym put)
