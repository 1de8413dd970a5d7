use Rattle.std.proofs.Common.{ℕ, [], length, ap, sym, subst, ◌∙◌}
use Rattle.std.specs.Prelude.{slice_set}
use Rattle.hr_meaning.specs.Value.{each}
use Rattle.hr_meaning.specs.Exec.{kept_rows, updated}
use Rattle.hr_rel.specs.declared.answer.Answer.TheVariants.{Count}
use Rattle.hr_machine.specs.Changes.{rows_at, IsChange}
use Rattle.hr_machine.proofs.MachineLaws.{change_done, change_failed, on_err, put_again}
use Rattle.hr_machine.proofs.machine.update_in.Goals as goal

pub returns-in_err-count-clause-err : goal.returns-in_err-count-clause-err
returns-in_err-count-clause-err c =
    let t = c.args.update.now.table in
    on_err c.from_residual.result
    (put_again c.args.tables.now c.take_rows-rows.new.tables c.put_back.new.tables t c.update_rows-outcome.new.table.items c.take_rows-rows.ensures.left c.put_back.ensures (c.in_err-count.ensures.err ∙ c.take_rows-rows.ensures.rows) c.requires.table)

pub returns-in-Ok-clause-ok : goal.returns-in-Ok-clause-ok
returns-in-Ok-clause-ok c =
    let t = c.args.update.now.table in
    let tables = c.args.tables.now in
    let rows = c.update_rows-outcome.new.table.items in
    let put = c.put_back.ensures ∙ ap (λ l. slice_set l t rows) c.take_rows-rows.ensures.left in
    let fact = rw c.in-Ok.is at c.in_ok-count.ensures.outcome in
    let told = ap (each (updated c.args.columns.now c.args.update.now)) (sym c.take_rows-rows.ensures.rows) ∙ fact.0 in
    let counted = fact.1 ∙ ap (λ l. length (kept_rows c.args.update.now.filter l)) c.take_rows-rows.ensures.rows in
    subst (λ (n : ℕ). IsChange (Count n) tables c.put_back.new.tables t (length (kept_rows c.args.update.now.filter (rows_at tables t))) (each (updated c.args.columns.now c.args.update.now) (rows_at tables t))) (sym counted)
    (change_done tables c.put_back.new.tables t (length (kept_rows c.args.update.now.filter (rows_at tables t))) (each (updated c.args.columns.now c.args.update.now) (rows_at tables t)) rows [] told put)

pub returns-in-Err-clause-ok : goal.returns-in-Err-clause-ok
returns-in-Err-clause-ok c =
    let t = c.args.update.now.table in
    let tables = c.args.tables.now in
    let rows = c.update_rows-outcome.new.table.items in
    let put = c.put_back.ensures ∙ ap (λ l. slice_set l t rows) c.take_rows-rows.ensures.left in
    let fact = (rw c.in-Err.is at c.in_ok-count.ensures.outcome) in
    change_failed tables c.put_back.new.tables t (length (kept_rows c.args.update.now.filter (rows_at tables t))) (each (updated c.args.columns.now c.args.update.now) (rows_at tables t)) c.in-Err.error rows []
    (ap (each (updated c.args.columns.now c.args.update.now)) (sym c.take_rows-rows.ensures.rows) ∙ fact.0) (fact.1 ∙ c.take_rows-rows.ensures.rows) c.requires.table put
