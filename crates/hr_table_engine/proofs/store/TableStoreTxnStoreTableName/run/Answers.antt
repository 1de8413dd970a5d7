use Rattle.std.proofs.Common.{◌≡◌, ℕ, true, Option, List, length, ap, ◌∙◌}
use Rattle.std.specs.List.{list_all}
use Rattle.hr_rel.specs.declared.value.Value.{Value}
use Rattle.hr_rel.specs.Database.{Database}
use Rattle.hr_rel.specs.Holds.{IsOrdered}
use Rattle.hr_parts.specs.Footprints.{table_parts}
use Rattle.hr_meaning.specs.Exec.{exec}
use Rattle.hr_lock_engine.specs.Views.{Sees, OthersSee, WroteWithin}
use Rattle.hr_table_engine.specs.declared.before.Before.{Before}
use Rattle.hr_table_engine.specs.Undo.{committed_in, seen_in, wrote_in, is_kept_ordered, saved_of, kept}
use Rattle.hr_table_engine.proofs.Runs.{at_now, now_sized, now_ordered, now_kept, run_answer, run_after, run_wrote, run_others, run_base}
use Rattle.hr_table_engine.proofs.store.TableStoreTxnStoreTableName.run.Goals as goal

pub invariant_of-self-2 : goal.invariant_of-self-2
invariant_of-self-2 c = record {
  sized = at_now (λ (x : List (Option Before)) (y : Database). length x ≡ length y.tables) c.keep.new.slots.items _ c.run.new.self _
      (c.keep.ensures ∙ ap (λ (v : Option (ℕ × List (List Value))). kept c.args.txn v c.args.self.now.slots.items) (c.in_ok-saved.ensures ∙ (λ i. saved_of (c.deref.ensures.value i) ((c.as_slice-tables.ensures ∙ c.rows.ensures) i) (c.written_table.ensures i))))
      c.in_ok-answer.ensures.after (now_sized c.args.self.now.slots.items c.args.self.now.machine c.args.self.now.sized c.args.self.now.ordered c.args.self.now.kept c.args.txn c.args.stmt.now);
  ordered = at_now (λ (x : List (Option Before)) (y : Database). IsOrdered y) c.keep.new.slots.items _ c.run.new.self _
      (c.keep.ensures ∙ ap (λ (v : Option (ℕ × List (List Value))). kept c.args.txn v c.args.self.now.slots.items) (c.in_ok-saved.ensures ∙ (λ i. saved_of (c.deref.ensures.value i) ((c.as_slice-tables.ensures ∙ c.rows.ensures) i) (c.written_table.ensures i))))
      c.in_ok-answer.ensures.after (now_ordered c.args.self.now.slots.items c.args.self.now.machine c.args.self.now.sized c.args.self.now.ordered c.args.self.now.kept c.args.txn c.args.stmt.now);
  kept = at_now (λ (x : List (Option Before)) (y : Database). list_all is_kept_ordered x ≡ true) c.keep.new.slots.items _ c.run.new.self _
      (c.keep.ensures ∙ ap (λ (v : Option (ℕ × List (List Value))). kept c.args.txn v c.args.self.now.slots.items) (c.in_ok-saved.ensures ∙ (λ i. saved_of (c.deref.ensures.value i) ((c.as_slice-tables.ensures ∙ c.rows.ensures) i) (c.written_table.ensures i))))
      c.in_ok-answer.ensures.after (now_kept c.args.self.now.slots.items c.args.self.now.machine c.args.self.now.sized c.args.self.now.ordered c.args.self.now.kept c.args.txn c.args.stmt.now);
}

pub returns-clause-answer : goal.returns-clause-answer
returns-clause-answer c db view = run_answer c.args.self.now.slots.items c.args.self.now.machine c.args.self.now.sized c.args.self.now.ordered c.args.self.now.kept c.args.txn c.args.stmt.now c.requires db view c.in_ok-answer.answer c.in_ok-answer.ensures.answer

pub returns-clause-after : goal.returns-clause-after
returns-clause-after c db view =
    at_now (λ (x : List (Option Before)) (y : Database). Sees (seen_in x y) c.args.txn (exec db c.args.stmt.now).after) c.keep.new.slots.items _ c.run.new.self _
    (c.keep.ensures ∙ ap (λ (v : Option (ℕ × List (List Value))). kept c.args.txn v c.args.self.now.slots.items) (c.in_ok-saved.ensures ∙ (λ i. saved_of (c.deref.ensures.value i) ((c.as_slice-tables.ensures ∙ c.rows.ensures) i) (c.written_table.ensures i))))
    c.in_ok-answer.ensures.after (run_after c.args.self.now.slots.items c.args.self.now.machine c.args.self.now.sized c.args.self.now.ordered c.args.self.now.kept c.args.txn c.args.stmt.now c.requires db view)

pub returns-clause-wrote : goal.returns-clause-wrote
returns-clause-wrote c =
    at_now (λ (x : List (Option Before)) (y : Database). WroteWithin c.args.txn (table_parts c.args.stmt.now) (wrote_in c.args.self.now.slots.items) (wrote_in x)) c.keep.new.slots.items _ c.run.new.self _
    (c.keep.ensures ∙ ap (λ (v : Option (ℕ × List (List Value))). kept c.args.txn v c.args.self.now.slots.items) (c.in_ok-saved.ensures ∙ (λ i. saved_of (c.deref.ensures.value i) ((c.as_slice-tables.ensures ∙ c.rows.ensures) i) (c.written_table.ensures i))))
    c.in_ok-answer.ensures.after (run_wrote c.args.self.now.slots.items c.args.self.now.machine c.args.self.now.sized c.args.self.now.ordered c.args.self.now.kept c.args.txn c.args.stmt.now c.requires)

pub returns-clause-others : goal.returns-clause-others
returns-clause-others c =
    at_now (λ (x : List (Option Before)) (y : Database). OthersSee c.args.txn (seen_in c.args.self.now.slots.items c.args.self.now.machine) (seen_in x y)) c.keep.new.slots.items _ c.run.new.self _
    (c.keep.ensures ∙ ap (λ (v : Option (ℕ × List (List Value))). kept c.args.txn v c.args.self.now.slots.items) (c.in_ok-saved.ensures ∙ (λ i. saved_of (c.deref.ensures.value i) ((c.as_slice-tables.ensures ∙ c.rows.ensures) i) (c.written_table.ensures i))))
    c.in_ok-answer.ensures.after (run_others c.args.self.now.slots.items c.args.self.now.machine c.args.self.now.sized c.args.self.now.ordered c.args.self.now.kept c.args.txn c.args.stmt.now c.requires)

pub returns-clause-base : goal.returns-clause-base
returns-clause-base c =
    at_now (λ (x : List (Option Before)) (y : Database). committed_in x y ≡ committed_in c.args.self.now.slots.items c.args.self.now.machine) c.keep.new.slots.items _ c.run.new.self _
    (c.keep.ensures ∙ ap (λ (v : Option (ℕ × List (List Value))). kept c.args.txn v c.args.self.now.slots.items) (c.in_ok-saved.ensures ∙ (λ i. saved_of (c.deref.ensures.value i) ((c.as_slice-tables.ensures ∙ c.rows.ensures) i) (c.written_table.ensures i))))
    c.in_ok-answer.ensures.after (run_base c.args.self.now.slots.items c.args.self.now.machine c.args.self.now.sized c.args.self.now.ordered c.args.self.now.kept c.args.txn c.args.stmt.now c.requires)
