use Rattle.std.proofs.Common.{◌≡◌, Bool, true, cond, Option, None, List, length, ap, sym, ◌∙◌, eqb-true}
use Rattle.std.specs.Prelude.{slice_set}
use Rattle.std.specs.List.{list_all}
use Rattle.hr_rel.specs.Database.{Database, with_rows}
use Rattle.hr_rel.specs.Holds.{IsOrdered}
use Rattle.hr_lock_engine.specs.Views.{OthersSee}
use Rattle.hr_table_engine.specs.declared.before.Before.{Before}
use Rattle.hr_table_engine.specs.Undo.{committed_in, seen_in, is_of, is_kept_ordered}
use Rattle.hr_table_engine.proofs.Runs.{at_now}
use Rattle.hr_table_engine.proofs.Ends.{slot_is, undo_base, undo_others, undo_sized, undo_ordered, undo_kept}
use Rattle.hr_table_engine.proofs.store.TableStore.undo_table.Goals as goal

pub put_table-requires-clause-ordered : goal.put_table-requires-clause-ordered
put_table-requires-clause-ordered c =
    undo_ordered c.args.self.now.slots.items c.args.self.now.machine c.args.at c.in-Some.before (slot_is c.args.self.now.slots.items c.args.at c.index_mut.result.now c.requires c.index_mut.ensures.value ∙ sym c.take.ensures.value ∙ c.in-Some.is) c.args.self.now.kept c.args.self.now.ordered

pub invariant_of-self : goal.invariant_of-self
invariant_of-self c = record {
  sized = at_now (λ (x : List (Option Before)) (y : Database). length x ≡ length y.tables) _ (slice_set c.args.self.now.slots.items c.args.at None) _ (with_rows c.args.self.now.machine c.args.at c.in-Some.before.rows) (ap (slice_set c.args.self.now.slots.items c.args.at) c.take.ensures.after) c.put_table.ensures
      (undo_sized c.args.self.now.slots.items c.args.self.now.machine c.args.at c.in-Some.before (slot_is c.args.self.now.slots.items c.args.at c.index_mut.result.now c.requires c.index_mut.ensures.value ∙ sym c.take.ensures.value ∙ c.in-Some.is) c.args.self.now.sized);
  ordered = at_now (λ (x : List (Option Before)) (y : Database). IsOrdered y) _ (slice_set c.args.self.now.slots.items c.args.at None) _ (with_rows c.args.self.now.machine c.args.at c.in-Some.before.rows) (ap (slice_set c.args.self.now.slots.items c.args.at) c.take.ensures.after) c.put_table.ensures
      (undo_ordered c.args.self.now.slots.items c.args.self.now.machine c.args.at c.in-Some.before (slot_is c.args.self.now.slots.items c.args.at c.index_mut.result.now c.requires c.index_mut.ensures.value ∙ sym c.take.ensures.value ∙ c.in-Some.is) c.args.self.now.kept c.args.self.now.ordered);
  kept = at_now (λ (x : List (Option Before)) (y : Database). list_all is_kept_ordered x ≡ true) _ (slice_set c.args.self.now.slots.items c.args.at None) _ (with_rows c.args.self.now.machine c.args.at c.in-Some.before.rows) (ap (slice_set c.args.self.now.slots.items c.args.at) c.take.ensures.after) c.put_table.ensures
      (undo_kept c.args.self.now.slots.items c.args.self.now.machine c.args.at c.in-Some.before (slot_is c.args.self.now.slots.items c.args.at c.index_mut.result.now c.requires c.index_mut.ensures.value ∙ sym c.take.ensures.value ∙ c.in-Some.is) c.args.self.now.kept);
}

pub returns-in-Some-clause-base : goal.returns-in-Some-clause-base
returns-in-Some-clause-base c =
    at_now (λ (x : List (Option Before)) (y : Database). committed_in x y ≡ committed_in c.args.self.now.slots.items c.args.self.now.machine) _ (slice_set c.args.self.now.slots.items c.args.at None) _ (with_rows c.args.self.now.machine c.args.at c.in-Some.before.rows) (ap (slice_set c.args.self.now.slots.items c.args.at) c.take.ensures.after) c.put_table.ensures
    (undo_base c.args.self.now.slots.items c.args.self.now.machine c.args.at c.in-Some.before (slot_is c.args.self.now.slots.items c.args.at c.index_mut.result.now c.requires c.index_mut.ensures.value ∙ sym c.take.ensures.value ∙ c.in-Some.is))

pub returns-in-Some-clause-others : goal.returns-in-Some-clause-others
returns-in-Some-clause-others c =
    at_now (λ (x : List (Option Before)) (y : Database). OthersSee c.args.txn (seen_in c.args.self.now.slots.items c.args.self.now.machine) (seen_in x y)) _ (slice_set c.args.self.now.slots.items c.args.at None) _ (with_rows c.args.self.now.machine c.args.at c.in-Some.before.rows) (ap (slice_set c.args.self.now.slots.items c.args.at) c.take.ensures.after) c.put_table.ensures
    (undo_others c.args.self.now.slots.items c.args.self.now.machine c.args.at c.in-Some.before (slot_is c.args.self.now.slots.items c.args.at c.index_mut.result.now c.requires c.index_mut.ensures.value ∙ sym c.take.ensures.value ∙ c.in-Some.is) c.args.txn (eqb-true c.in-Some.before.txn c.args.txn (ap (is_of c.args.txn) (sym (slot_is c.args.self.now.slots.items c.args.at c.index_mut.result.now c.requires c.index_mut.ensures.value ∙ sym c.take.ensures.value ∙ c.in-Some.is)) ∙ (ap (is_of c.args.txn) (slot_is c.args.self.now.slots.items c.args.at c.index.result.now c.requires c.index.ensures) ∙ sym c.is_of.ensures ∙ c.if-not-is_of.false))))

pub returns-in-Some-clause-slots : goal.returns-in-Some-clause-slots
returns-in-Some-clause-slots c = (ap (slice_set c.args.self.now.slots.items c.args.at) c.take.ensures.after) ∙ sym (ap (λ (b : Bool). cond b (slice_set c.args.self.now.slots.items c.args.at None) c.args.self.now.slots.items) (ap (is_of c.args.txn) (slot_is c.args.self.now.slots.items c.args.at c.index.result.now c.requires c.index.ensures) ∙ sym c.is_of.ensures ∙ c.if-not-is_of.false))
