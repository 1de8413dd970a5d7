use Rattle.std.proofs.Common.{[], ap, ◌∙◌}
use Rattle.std.specs.Prelude.{slice_set}
use Rattle.std.proofs.lemmas.List.{set-set}
use Rattle.hr_meaning.specs.Exec.{other_rows}
use Rattle.hr_machine.proofs.machine.delete_from.Goals as goal

pub returns-clause-after : goal.returns-clause-after
returns-clause-after c =
    let t = c.args.delete.now.table in
    let rows = c.delete_rows-count.new.table.items in
    c.put_back.ensures
    ∙ ap (λ l. slice_set l t rows) c.take_rows-rows.ensures.left
    ∙ set-set c.args.tables.now t [] rows
    ∙ ap (slice_set c.args.tables.now t) (c.delete_rows-count.ensures.rows ∙ ap (other_rows c.args.delete.now.filter) c.take_rows-rows.ensures.rows)
