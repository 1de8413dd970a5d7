use Rattle.std.proofs.Common.{length, ap, sym, ◌∙◌}
use Rattle.hr_rel.specs.declared.stmt.Stmt.TheVariants.{Insert}
use Rattle.hr_rel.specs.Database.{Database, rows_of}
use Rattle.hr_rel.specs.Fit.{insert_fits}
use Rattle.hr_meaning.specs.Insert.{inserted}
use Rattle.hr_meaning.specs.Exec.{changed}
use Rattle.hr_machine.proofs.MachineLaws.{rows_in_order, shaped_after}
use Rattle.hr_machine.proofs.machine.Machine.insert.Goals as goal

pub insert_into-requires-clause-order : goal.insert_into-requires-clause-order
insert_into-requires-clause-order c said = rows_in_order c.self.inside.tables c.args.insert.now.table (c.self.invariant.order said).ordered

pub invariant_of-self : goal.invariant_of-self
invariant_of-self c =
    let s = c.args.insert.now in
    let db : Database = record { catalog = c.self.inside.catalog; tables = c.self.inside.tables } in
    let fit = ap (λ (d : Database). insert_fits d.catalog s) c.self.view_is ∙ c.requires in
    shaped_after db (Insert s) c.self.inside.ordered s.table (length s.rows) (inserted c.columns_of-columns.result.now (rows_of db s.table) s.rows) c.insert_into.new.tables c.insert_into.result
    c.self.invariant fit (ap (λ columns. changed db s.table (length s.rows) (inserted columns (rows_of db s.table) s.rows)) (sym c.columns_of-columns.ensures)) c.insert_into.ensures.ok c.insert_into.ensures.err
