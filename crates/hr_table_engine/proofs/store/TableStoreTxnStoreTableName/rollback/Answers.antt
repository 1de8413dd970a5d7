use Rattle.std.proofs.Common.{◌≤◌, ℕ, length, ap, sym, ◌∙◌, arith}
use Rattle.std.proofs.lemmas.Bool.{both_ways}
use Rattle.hr_rel.specs.Database.{Database}
use Rattle.hr_parts.specs.Parts.{row_at}
use Rattle.hr_table_engine.specs.Undo.{slot_at, is_of}
use Rattle.hr_table_engine.specs.Laws.{unwritten_is_committed}
use Rattle.hr_table_engine.proofs.Loops.{undo_wrote, undo_size, gone_next, gone_all}
use Rattle.hr_table_engine.proofs.store.TableStoreTxnStoreTableName.rollback.Goals as goal

pub tables-preserved : goal.tables-preserved
tables-preserved c =
    let old = c.tables.self.slots.items in
    let new = c.undo_table.new.self.slots.items in
    let at = c.tables.at in
    let undo = c.undo_table.ensures.slots in
    record {
      base = c.undo_table.ensures.base ∙ c.tables.invariant.base;
      others = λ u t k differ. c.undo_table.ensures.others u t k differ ∙ c.tables.invariant.others u t k differ;
      wrote = λ u t k w. c.tables.invariant.wrote u t k (undo_wrote c.args.txn old new at undo u t w);
      gone = λ t l. gone_next c.args.txn old new at undo c.tables.invariant.gone t (omega (arith, l));
      size = undo_size c.args.txn old new at undo ∙ c.tables.invariant.size;
    }

pub returns-clause-base : goal.returns-clause-base
returns-clause-base c = c.tables.invariant.base

pub returns-clause-seen : goal.returns-clause-seen
returns-clause-seen c t k =
    let slots = c.tables.self.slots.items in
    let all : length slots ≤ c.tables.at = omega (arith, c.tables.invariant.size, c.tables-test.false) in
    unwritten_is_committed slots c.tables.self.machine c.tables.self.sized c.args.txn t k (gone_all c.args.txn slots c.tables.at all c.tables.invariant.gone t)
    ∙ ap (λ (d : Database). row_at d t k) c.tables.invariant.base

pub returns-clause-others : goal.returns-clause-others
returns-clause-others c = c.tables.invariant.others

pub returns-clause-wrote : goal.returns-clause-wrote
returns-clause-wrote c u t k w =
    let slots = c.tables.self.slots.items in
    let all : length slots ≤ c.tables.at = omega (arith, c.tables.invariant.size, c.tables-test.false) in (
      λ same. both_ways (is_of c.args.txn (slot_at slots t)) (gone_all c.args.txn slots c.tables.at all c.tables.invariant.gone t) (ap (λ (x : ℕ). is_of x (slot_at slots t)) (sym same) ∙ w),
      c.tables.invariant.wrote u t k w,
    )
