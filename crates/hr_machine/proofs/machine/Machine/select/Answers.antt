use Rattle.std.proofs.Common.{◌≡◌, IfOk, List, ap, subst, ◌∙◌, arith}
use Rattle.hr_rel.specs.Database.{Database}
use Rattle.hr_meaning.specs.Truth.{Tuple}
use Rattle.hr_meaning.specs.Select.{answer_from}
use Rattle.hr_meaning.specs.Exec.{kept}
use Rattle.hr_rel.specs.Holds.{is_ordered}
use Rattle.hr_machine.proofs.MachineLaws.{of_one_table, of_two_tables, rows_in_order}
use Rattle.hr_machine.proofs.machine.Machine.select.Goals as goal

pub from_table-requires : goal.from_table-requires
from_table-requires c said = ap is_ordered c.rows_of.ensures ∙ rows_in_order c.self.inside.tables _ (c.self.invariant.order said).ordered

pub returns-in-len1 : goal.returns-in-len1
returns-in-len1 c =
    let s = c.args.select.now in
    let db : Database = record { catalog = c.self.inside.catalog; tables = c.self.inside.tables } in
    let same = of_one_table db s c.as_slice.result.now c.as_slice.ensures (omega arith) c.rows_of.result.now c.rows_of.ensures ∙ ap (λ d. kept d s) c.self.view_is in
    subst (λ (k : List Tuple). IfOk c.from_table.result (λ answer. answer ≡ answer_from s k)) same c.from_table.ensures

pub returns-in-len2 : goal.returns-in-len2
returns-in-len2 c =
    let s = c.args.select.now in
    let db : Database = record { catalog = c.self.inside.catalog; tables = c.self.inside.tables } in
    let same = of_two_tables db s c.as_slice.result.now c.as_slice.ensures (omega arith) c.rows_of-in-len2.result.now c.rows_of-in-len2.ensures c.rows_of-in-len2-2.result.now c.rows_of-in-len2-2.ensures ∙ ap (λ d. kept d s) c.self.view_is in
    subst (λ (k : List Tuple). IfOk c.from_pairs.result (λ answer. answer ≡ answer_from s k)) same c.from_pairs.ensures
