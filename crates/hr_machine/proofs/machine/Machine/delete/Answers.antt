use Rattle.std.proofs.Common.{length, ap, ◌∙◌}
use Rattle.hr_rel.specs.declared.stmt.Stmt.TheVariants.{Delete}
use Rattle.hr_rel.specs.Database.{Database, rows_of}
use Rattle.hr_rel.specs.Fit.{delete_fits}
use Rattle.hr_meaning.specs.Exec.{other_rows}
use Rattle.hr_machine.proofs.MachineLaws.{rows_in_order, still_shaped, set_size}
use Rattle.hr_machine.proofs.machine.Machine.delete.Goals as goal

pub delete_from-requires-clause-order : goal.delete_from-requires-clause-order
delete_from-requires-clause-order c said = rows_in_order c.self.inside.tables c.args.delete.now.table (c.self.invariant.order said).ordered

pub invariant_of-self : goal.invariant_of-self
invariant_of-self c =
    let s = c.args.delete.now in
    let db : Database = record { catalog = c.self.inside.catalog; tables = c.self.inside.tables } in
    let fit = ap (λ (d : Database). delete_fits d.catalog s) c.self.view_is ∙ c.requires in
    let after = c.delete_from.ensures.after in
    still_shaped db (Delete s) c.delete_from.new.tables c.self.inside.ordered c.self.invariant fit
    (ap length after ∙ set_size db.tables s.table (other_rows s.filter (rows_of db s.table)))
    (λ i. record { catalog = c.self.inside.catalog; tables = after i })
