use Rattle.std.proofs.Common.{length, ap, sym, ◌∙◌}
use Rattle.hr_rel.specs.declared.stmt.Stmt.TheVariants.{Update}
use Rattle.hr_rel.specs.Database.{Database, rows_of}
use Rattle.hr_rel.specs.Fit.{update_fits}
use Rattle.hr_meaning.specs.Value.{each}
use Rattle.hr_meaning.specs.Exec.{changed, kept_rows, updated}
use Rattle.hr_machine.proofs.MachineLaws.{rows_in_order, shaped_after}
use Rattle.hr_machine.proofs.machine.Machine.update.Goals as goal

pub update_in-requires-clause-order : goal.update_in-requires-clause-order
update_in-requires-clause-order c said = rows_in_order c.self.inside.tables c.args.update.now.table (c.self.invariant.order said).ordered

pub invariant_of-self : goal.invariant_of-self
invariant_of-self c =
    let s = c.args.update.now in
    let db : Database = record { catalog = c.self.inside.catalog; tables = c.self.inside.tables } in
    let fit = ap (λ (d : Database). update_fits d.catalog s) c.self.view_is ∙ c.requires in
    let count = length (kept_rows s.filter (rows_of db s.table)) in
    shaped_after db (Update s) c.self.inside.ordered s.table count (each (updated c.columns_of-columns.result.now s) (rows_of db s.table)) c.update_in.new.tables c.update_in.result
    c.self.invariant fit (ap (λ columns. changed db s.table count (each (updated columns s) (rows_of db s.table))) (sym c.columns_of-columns.ensures)) c.update_in.ensures.ok c.update_in.ensures.err
