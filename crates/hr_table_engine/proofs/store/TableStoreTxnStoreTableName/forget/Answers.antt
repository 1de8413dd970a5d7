use Rattle.std.proofs.Common.{◌≤◌, length, ap, ◌∙◌, arith}
use Rattle.hr_rel.specs.Database.{Database}
use Rattle.hr_parts.specs.Parts.{row_at}
use Rattle.hr_table_engine.specs.Undo.{is_of}
use Rattle.hr_table_engine.specs.Laws.{unwritten_is_committed}
use Rattle.hr_table_engine.proofs.Loops.{none_all}
use Rattle.hr_table_engine.proofs.store.TableStoreTxnStoreTableName.forget.Goals as goal

pub returns-clause-base : goal.returns-clause-base
returns-clause-base c = c.tables.invariant.base

pub returns-clause-seen : goal.returns-clause-seen
returns-clause-seen c u t k =
    let slots = c.tables.self.slots.items in
    let all : length slots ≤ c.tables.at = omega (arith, c.tables.invariant.size, c.tables-test.false) in
    unwritten_is_committed slots c.tables.self.machine c.tables.self.sized u t k (ap (is_of u) (none_all slots c.tables.at all c.tables.invariant.none t))
    ∙ ap (λ (d : Database). row_at d t k) c.tables.invariant.base

pub returns-clause-wrote : goal.returns-clause-wrote
returns-clause-wrote c u t k =
    let slots = c.tables.self.slots.items in
    let all : length slots ≤ c.tables.at = omega (arith, c.tables.invariant.size, c.tables-test.false) in
    ap (is_of u) (none_all slots c.tables.at all c.tables.invariant.none t)
