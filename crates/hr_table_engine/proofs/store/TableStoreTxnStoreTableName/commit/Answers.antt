use Rattle.std.proofs.Common.{◌≡◌, true, Option, List, length, map, ap, subst, sym, ◌∙◌}
use Rattle.std.specs.List.{list_all}
use Rattle.hr_lock_engine.specs.Views.{SeeCommitted, WroteNothing}
use Rattle.hr_table_engine.specs.declared.before.Before.{Before}
use Rattle.hr_table_engine.specs.Undo.{committed_in, seen_in, wrote_in, is_kept_ordered, cleared}
use Rattle.hr_table_engine.proofs.Ends.{commit_base, commit_seen, clear_wrote, all_cleared, size_cleared}
use Rattle.hr_table_engine.proofs.Loops.{put_whole}
use Rattle.hr_table_engine.proofs.store.TableStoreTxnStoreTableName.commit.Goals as goal

pub invariant_of-self : goal.invariant_of-self
invariant_of-self c = record {
  sized = subst (λ (x : List (Option Before)). length x ≡ length c.args.self.now.machine.tables) (sym (put_whole c.args.self.now.slots.len c.args.self.now.slots.items c.drop_kept.new.slots (ap (λ (l : List (Option Before)). length l) (c.drop_kept.ensures ∙ ap (map (cleared c.args.txn)) c.deref_mut.ensures.value) ∙ size_cleared c.args.txn c.args.self.now.slots.items ∙ sym c.args.self.now.slots.ok.0) ∙ (c.drop_kept.ensures ∙ ap (map (cleared c.args.txn)) c.deref_mut.ensures.value))) (size_cleared c.args.txn c.args.self.now.slots.items ∙ c.args.self.now.sized);
  ordered = c.args.self.now.ordered;
  kept = subst (λ (x : List (Option Before)). list_all is_kept_ordered x ≡ true) (sym (put_whole c.args.self.now.slots.len c.args.self.now.slots.items c.drop_kept.new.slots (ap (λ (l : List (Option Before)). length l) (c.drop_kept.ensures ∙ ap (map (cleared c.args.txn)) c.deref_mut.ensures.value) ∙ size_cleared c.args.txn c.args.self.now.slots.items ∙ sym c.args.self.now.slots.ok.0) ∙ (c.drop_kept.ensures ∙ ap (map (cleared c.args.txn)) c.deref_mut.ensures.value))) (all_cleared c.args.txn c.args.self.now.slots.items c.args.self.now.kept);
}

pub returns-clause-base : goal.returns-clause-base
returns-clause-base c db view = subst (λ (x : List (Option Before)). committed_in x c.args.self.now.machine ≡ db) (sym (put_whole c.args.self.now.slots.len c.args.self.now.slots.items c.drop_kept.new.slots (ap (λ (l : List (Option Before)). length l) (c.drop_kept.ensures ∙ ap (map (cleared c.args.txn)) c.deref_mut.ensures.value) ∙ size_cleared c.args.txn c.args.self.now.slots.items ∙ sym c.args.self.now.slots.ok.0) ∙ (c.drop_kept.ensures ∙ ap (map (cleared c.args.txn)) c.deref_mut.ensures.value))) (commit_base c.args.self.now.slots.items c.args.self.now.machine c.args.self.now.sized c.args.self.now.ordered c.args.self.now.kept c.args.txn db view)

pub returns-clause-seen : goal.returns-clause-seen
returns-clause-seen c = subst (λ (x : List (Option Before)). SeeCommitted c.args.txn (wrote_in c.args.self.now.slots.items) (seen_in c.args.self.now.slots.items c.args.self.now.machine) (seen_in x c.args.self.now.machine)) (sym (put_whole c.args.self.now.slots.len c.args.self.now.slots.items c.drop_kept.new.slots (ap (λ (l : List (Option Before)). length l) (c.drop_kept.ensures ∙ ap (map (cleared c.args.txn)) c.deref_mut.ensures.value) ∙ size_cleared c.args.txn c.args.self.now.slots.items ∙ sym c.args.self.now.slots.ok.0) ∙ (c.drop_kept.ensures ∙ ap (map (cleared c.args.txn)) c.deref_mut.ensures.value))) (commit_seen c.args.self.now.slots.items c.args.self.now.machine c.args.self.now.sized c.args.self.now.ordered c.args.self.now.kept c.args.txn)

pub returns-clause-wrote : goal.returns-clause-wrote
returns-clause-wrote c = subst (λ (x : List (Option Before)). WroteNothing c.args.txn (wrote_in c.args.self.now.slots.items) (wrote_in x)) (sym (put_whole c.args.self.now.slots.len c.args.self.now.slots.items c.drop_kept.new.slots (ap (λ (l : List (Option Before)). length l) (c.drop_kept.ensures ∙ ap (map (cleared c.args.txn)) c.deref_mut.ensures.value) ∙ size_cleared c.args.txn c.args.self.now.slots.items ∙ sym c.args.self.now.slots.ok.0) ∙ (c.drop_kept.ensures ∙ ap (map (cleared c.args.txn)) c.deref_mut.ensures.value))) (clear_wrote c.args.txn c.args.self.now.slots.items)
