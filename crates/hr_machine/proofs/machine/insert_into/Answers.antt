use Rattle.std.proofs.Common.{ℕ, [], length, ap, sym, subst, ◌∙◌}
use Rattle.std.specs.Prelude.{slice_set}
use Rattle.hr_meaning.specs.Insert.{inserted}
use Rattle.hr_rel.specs.declared.answer.Answer.TheVariants.{Count}
use Rattle.hr_machine.specs.Changes.{rows_at, IsChange}
use Rattle.hr_machine.proofs.MachineLaws.{change_done, change_failed, on_err, put_again}
use Rattle.hr_machine.proofs.machine.insert_into.Goals as goal

pub returns-in_err-outcome-clause-err : goal.returns-in_err-outcome-clause-err
returns-in_err-outcome-clause-err c =
    let t = c.args.insert.now.table in
    on_err c.from_residual.result
    (put_again c.args.tables.now c.take_rows-rows.new.tables c.put_back.new.tables t c.insert_rows-outcome.new.table.items c.take_rows-rows.ensures.left c.put_back.ensures (c.in_err-outcome.ensures.err ∙ c.take_rows-rows.ensures.rows) c.requires.table)

pub returns-in-Ok-clause-ok : goal.returns-in-Ok-clause-ok
returns-in-Ok-clause-ok c =
    let t = c.args.insert.now.table in
    let tables = c.args.tables.now in
    let rows = c.insert_rows-outcome.new.table.items in
    let put = c.put_back.ensures ∙ ap (λ l. slice_set l t rows) c.take_rows-rows.ensures.left in
    let told = (λ i. inserted c.args.columns.now (sym c.take_rows-rows.ensures.rows i) (sym c.as_slice.ensures i)) ∙ (rw c.in-Ok.is at c.in_ok-outcome.ensures.outcome) in
    subst (λ (n : ℕ). IsChange (Count n) tables c.put_back.new.tables t (length c.args.insert.now.rows) (inserted c.args.columns.now (rows_at tables t) c.args.insert.now.rows)) (sym c.len.ensures)
    (change_done tables c.put_back.new.tables t (length c.args.insert.now.rows) (inserted c.args.columns.now (rows_at tables t) c.args.insert.now.rows) rows [] told put)

pub returns-in-Err-clause-ok : goal.returns-in-Err-clause-ok
returns-in-Err-clause-ok c =
    let t = c.args.insert.now.table in
    let tables = c.args.tables.now in
    let rows = c.insert_rows-outcome.new.table.items in
    let put = c.put_back.ensures ∙ ap (λ l. slice_set l t rows) c.take_rows-rows.ensures.left in
    let fact = (rw c.in-Err.is at c.in_ok-outcome.ensures.outcome) in
    change_failed tables c.put_back.new.tables t (length c.args.insert.now.rows) (inserted c.args.columns.now (rows_at tables t) c.args.insert.now.rows) c.in-Err.error rows []
    ((λ i. inserted c.args.columns.now (sym c.take_rows-rows.ensures.rows i) (sym c.as_slice.ensures i)) ∙ fact.0) (fact.1 ∙ c.take_rows-rows.ensures.rows) c.requires.table put
