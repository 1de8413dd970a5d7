use Rattle.std.proofs.Common.{◌≡◌, true, false, ℕ, ℤ, Option, List, length, ap, ◌∙◌}
use Rattle.std.specs.List.{list_all}
use Rattle.hr_rel.specs.declared.value.Value.{Value}
use Rattle.hr_rel.specs.Database.{Database}
use Rattle.hr_rel.specs.Holds.{IsOrdered}
use Rattle.hr_statement_laws.proofs.StillHolds.{fitting_is_ordered}
use Rattle.hr_table_engine.specs.declared.before.Before.{Before}
use Rattle.hr_table_engine.specs.Undo.{committed_in, wrote_in, is_of, is_kept_ordered}
use Rattle.hr_table_engine.proofs.Runs.{at_now}
use Rattle.hr_table_engine.proofs.Loops.{nobody, size_none, all_none, slots_none, undone_none}
use Rattle.hr_table_engine.proofs.store.TableStore.new.Goals as goal

pub invariant_of-result : goal.invariant_of-result
invariant_of-result c = record {
  sized = at_now (λ (x : List (Option Before)) (y : Database). length x ≡ length y.tables) c.in_ok-slots.slots.items (nobody (length c.args.rows.now)) c.new-machine.result (record { catalog = c.args.catalog.now; tables = c.args.rows.now }) (c.in_ok-slots.ensures ∙ ap nobody c.len.ensures) (c.new-machine.ensures ∙ (λ i. record { catalog = c.in_ok-try_copy.ensures i; tables = c.in_ok-try_copy-2.ensures i }))
      (size_none (length c.args.rows.now));
  ordered = at_now (λ (x : List (Option Before)) (y : Database). IsOrdered y) c.in_ok-slots.slots.items (nobody (length c.args.rows.now)) c.new-machine.result (record { catalog = c.args.catalog.now; tables = c.args.rows.now }) (c.in_ok-slots.ensures ∙ ap nobody c.len.ensures) (c.new-machine.ensures ∙ (λ i. record { catalog = c.in_ok-try_copy.ensures i; tables = c.in_ok-try_copy-2.ensures i }))
      (fitting_is_ordered (record { catalog = c.args.catalog.now; tables = c.args.rows.now }) c.requires.sound c.requires.holds);
  kept = at_now (λ (x : List (Option Before)) (y : Database). list_all is_kept_ordered x ≡ true) c.in_ok-slots.slots.items (nobody (length c.args.rows.now)) c.new-machine.result (record { catalog = c.args.catalog.now; tables = c.args.rows.now }) (c.in_ok-slots.ensures ∙ ap nobody c.len.ensures) (c.new-machine.ensures ∙ (λ i. record { catalog = c.in_ok-try_copy.ensures i; tables = c.in_ok-try_copy-2.ensures i }))
      (all_none (length c.args.rows.now));
}

pub returns-clause-base : goal.returns-clause-base
returns-clause-base c =
    at_now (λ (x : List (Option Before)) (y : Database). committed_in x y ≡ (record { catalog = c.args.catalog.now; tables = c.args.rows.now })) c.in_ok-slots.slots.items (nobody (length c.args.rows.now)) c.new-machine.result (record { catalog = c.args.catalog.now; tables = c.args.rows.now }) (c.in_ok-slots.ensures ∙ ap nobody c.len.ensures) (c.new-machine.ensures ∙ (λ i. record { catalog = c.in_ok-try_copy.ensures i; tables = c.in_ok-try_copy-2.ensures i }))
    (ap (λ (l : List (List (List Value))). record { catalog = c.args.catalog.now; tables = l }) (undone_none c.args.rows.now))

pub returns-clause-idle : goal.returns-clause-idle
returns-clause-idle c =
    at_now (λ (x : List (Option Before)) (y : Database). (u t : ℕ) (k : ℤ) → wrote_in x u t k ≡ false) c.in_ok-slots.slots.items (nobody (length c.args.rows.now)) c.new-machine.result (record { catalog = c.args.catalog.now; tables = c.args.rows.now }) (c.in_ok-slots.ensures ∙ ap nobody c.len.ensures) (c.new-machine.ensures ∙ (λ i. record { catalog = c.in_ok-try_copy.ensures i; tables = c.in_ok-try_copy-2.ensures i }))
    (λ u t k. ap (is_of u) (slots_none (length c.args.rows.now) t))
