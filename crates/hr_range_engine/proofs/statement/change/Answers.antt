use Rattle.std.proofs.Common.{rules, ◌≡◌, ℕ, ℤ, true, List, ap, sym, subst, ◌∙◌}
use Rattle.hr_rel.specs.declared.catalog.Catalog.{Catalog}
use Rattle.hr_rel.specs.declared.value.Value.{Value}
use Rattle.hr_rel.specs.Database.{Database, rows_of}
use Rattle.hr_rel.specs.Holds.{is_ordered}
use Rattle.hr_meaning.specs.Exec.{exec}
use Rattle.hr_parts.proofs.Statements.{in_order}
use Rattle.hr_store.specs.Cells.{seen_in}
use Rattle.hr_store.specs.Store.{cell_at, put_cell, remove_cell}
use Rattle.hr_range_engine.specs.Shown.{IsOf, committed_base, seen_by}
use Rattle.hr_range_engine.specs.Changed.{new_rows, gone_keys}
use Rattle.hr_range_engine.proofs.Ends.{base_same}
use Rattle.hr_range_engine.proofs.Runs.{run_answer, looked_at, change_after, change_wrote, change_untouched, change_whole, change_base, change_others}
use Rattle.hr_range_engine.proofs.statement.change.Goals as goal

pub returns-in_err-keys-clause-base : goal.returns-in_err-keys-clause-base
returns-in_err-keys-clause-base c =
    let a = c.args in
    ap (λ (catalog : Catalog). committed_base catalog c.look.new.store) c.look.ensures.catalog
    ∙ base_same a.machine.now.catalog a.store.now c.look.new.store c.requires.whole c.look.ensures.tables c.look.ensures.same

pub returns-in_err-answer-clause-base : goal.returns-in_err-answer-clause-base
returns-in_err-answer-clause-base c =
    let a = c.args in
    ap (λ (catalog : Catalog). committed_base catalog c.look.new.store) (c.run_on.ensures.catalog ∙ c.look.ensures.catalog)
    ∙ base_same a.machine.now.catalog a.store.now c.look.new.store c.requires.whole c.look.ensures.tables c.look.ensures.same

pub returns-in_err-put_changes-clause-base : goal.returns-in_err-put_changes-clause-base
returns-in_err-put_changes-clause-base c =
    let a = c.args in
    ap (λ (catalog : Catalog). committed_base catalog c.put_changes.new.store) (c.run_on.ensures.catalog ∙ c.look.ensures.catalog)
    ∙ base_same a.machine.now.catalog a.store.now c.put_changes.new.store c.requires.whole (c.put_changes.ensures.tables ∙ c.look.ensures.tables) (λ t k. c.in_err-put_changes.ensures.err t k ∙ c.look.ensures.same t k)

pub put_changes-requires : goal.put_changes-requires
put_changes-requires c =
    subst (λ (rows : List (List Value)). is_ordered rows ≡ true) (sym c.rows_of-rows.ensures) (in_order c.run_on.new.machine c.run_on.ensures.ordered c.args.span.table)

pub returns-clause-answer : goal.returns-clause-answer
returns-clause-answer c db view =
    let a = c.args in
    let d = c.look.new.machine in
    run_answer a.machine.now.catalog a.store.now c.requires.whole a.txn a.stmt.now d c.look.ensures.ordered c.look.ensures.catalog
    (looked_at a.machine.now.catalog a.store.now c.requires.whole a.txn a.stmt.now d c.look.ensures.ordered c.look.ensures.catalog
    a.span.table a.span.low a.span.high c.requires.one c.in_ok-keys.ensures.rows) db view c.in_ok-answer.answer c.in_ok-answer.ensures.answer

pub returns-clause-after : goal.returns-clause-after
returns-clause-after c db view =
    let a = c.args in
    let d = c.look.new.machine in
    let rows : c.rows_of-rows.result.now ≡ rows_of (exec d a.stmt.now).after a.span.table = c.rows_of-rows.ensures ∙ ap (λ (m : Database). rows_of m a.span.table) c.in_ok-answer.ensures.after in
    let left = rows_of (exec d a.stmt.now).after a.span.table in
    let same : c.deref.result.now ≡ c.in_ok-keys.keys.items = search rules in
    let changed : (u : ℕ) (k : ℤ) → cell_at c.put_changes.new.store u k
    ≡ put_cell a.txn a.span.table (new_rows (seen_by a.store.now a.txn a.span.table) left) u k
    (remove_cell a.txn a.span.table (gone_keys left c.in_ok-keys.keys.items) u k (cell_at a.store.now u k)) =
    λ u k. c.in_ok-put_changes.ensures.changed u k
    ∙ (λ i. put_cell a.txn a.span.table (new_rows (λ l. seen_in a.txn (c.look.ensures.same a.span.table l i)) (rows i)) u k
    (remove_cell a.txn a.span.table (gone_keys (rows i) (same i)) u k (c.look.ensures.same u k i))) in
    let tables = c.put_changes.ensures.tables ∙ c.look.ensures.tables in
    change_after a.machine.now.catalog a.store.now c.requires.whole a.txn a.stmt.now d c.look.ensures.ordered c.look.ensures.catalog
    a.span.table a.span.low a.span.high c.requires.one c.in_ok-keys.ensures.rows c.in_ok-keys.keys.items c.in_ok-keys.ensures.keys c.put_changes.new.store tables changed db view

pub returns-clause-wrote : goal.returns-clause-wrote
returns-clause-wrote c =
    let a = c.args in
    let d = c.look.new.machine in
    let rows : c.rows_of-rows.result.now ≡ rows_of (exec d a.stmt.now).after a.span.table = c.rows_of-rows.ensures ∙ ap (λ (m : Database). rows_of m a.span.table) c.in_ok-answer.ensures.after in
    let left = rows_of (exec d a.stmt.now).after a.span.table in
    let same : c.deref.result.now ≡ c.in_ok-keys.keys.items = search rules in
    let changed : (u : ℕ) (k : ℤ) → cell_at c.put_changes.new.store u k
    ≡ put_cell a.txn a.span.table (new_rows (seen_by a.store.now a.txn a.span.table) left) u k
    (remove_cell a.txn a.span.table (gone_keys left c.in_ok-keys.keys.items) u k (cell_at a.store.now u k)) =
    λ u k. c.in_ok-put_changes.ensures.changed u k
    ∙ (λ i. put_cell a.txn a.span.table (new_rows (λ l. seen_in a.txn (c.look.ensures.same a.span.table l i)) (rows i)) u k
    (remove_cell a.txn a.span.table (gone_keys (rows i) (same i)) u k (c.look.ensures.same u k i))) in
    let tables = c.put_changes.ensures.tables ∙ c.look.ensures.tables in
    change_wrote a.machine.now.catalog a.store.now c.requires.whole a.txn a.stmt.now d c.look.ensures.ordered c.look.ensures.catalog
    a.span.table a.span.low a.span.high c.requires.one c.in_ok-keys.ensures.rows c.in_ok-keys.keys.items c.in_ok-keys.ensures.keys c.put_changes.new.store tables changed

pub returns-clause-untouched : goal.returns-clause-untouched
returns-clause-untouched c =
    let a = c.args in
    let d = c.look.new.machine in
    let rows : c.rows_of-rows.result.now ≡ rows_of (exec d a.stmt.now).after a.span.table = c.rows_of-rows.ensures ∙ ap (λ (m : Database). rows_of m a.span.table) c.in_ok-answer.ensures.after in
    let left = rows_of (exec d a.stmt.now).after a.span.table in
    let same : c.deref.result.now ≡ c.in_ok-keys.keys.items = search rules in
    let changed : (u : ℕ) (k : ℤ) → cell_at c.put_changes.new.store u k
    ≡ put_cell a.txn a.span.table (new_rows (seen_by a.store.now a.txn a.span.table) left) u k
    (remove_cell a.txn a.span.table (gone_keys left c.in_ok-keys.keys.items) u k (cell_at a.store.now u k)) =
    λ u k. c.in_ok-put_changes.ensures.changed u k
    ∙ (λ i. put_cell a.txn a.span.table (new_rows (λ l. seen_in a.txn (c.look.ensures.same a.span.table l i)) (rows i)) u k
    (remove_cell a.txn a.span.table (gone_keys (rows i) (same i)) u k (c.look.ensures.same u k i))) in
    let tables = c.put_changes.ensures.tables ∙ c.look.ensures.tables in
    change_untouched a.machine.now.catalog a.store.now c.requires.whole a.txn a.stmt.now d c.look.ensures.ordered c.look.ensures.catalog
    a.span.table a.span.low a.span.high c.requires.one c.in_ok-keys.ensures.rows c.in_ok-keys.keys.items c.in_ok-keys.ensures.keys c.put_changes.new.store tables changed

pub returns-clause-others : goal.returns-clause-others
returns-clause-others c =
    let a = c.args in
    let d = c.look.new.machine in
    let rows : c.rows_of-rows.result.now ≡ rows_of (exec d a.stmt.now).after a.span.table = c.rows_of-rows.ensures ∙ ap (λ (m : Database). rows_of m a.span.table) c.in_ok-answer.ensures.after in
    let left = rows_of (exec d a.stmt.now).after a.span.table in
    let same : c.deref.result.now ≡ c.in_ok-keys.keys.items = search rules in
    let changed : (u : ℕ) (k : ℤ) → cell_at c.put_changes.new.store u k
    ≡ put_cell a.txn a.span.table (new_rows (seen_by a.store.now a.txn a.span.table) left) u k
    (remove_cell a.txn a.span.table (gone_keys left c.in_ok-keys.keys.items) u k (cell_at a.store.now u k)) =
    λ u k. c.in_ok-put_changes.ensures.changed u k
    ∙ (λ i. put_cell a.txn a.span.table (new_rows (λ l. seen_in a.txn (c.look.ensures.same a.span.table l i)) (rows i)) u k
    (remove_cell a.txn a.span.table (gone_keys (rows i) (same i)) u k (c.look.ensures.same u k i))) in
    let tables = c.put_changes.ensures.tables ∙ c.look.ensures.tables in
    change_others a.machine.now.catalog a.store.now c.requires.whole a.txn a.stmt.now d c.look.ensures.ordered c.look.ensures.catalog
    a.span.table a.span.low a.span.high c.requires.one c.in_ok-keys.ensures.rows c.in_ok-keys.keys.items c.in_ok-keys.ensures.keys c.put_changes.new.store tables changed c.requires.free

pub returns-clause-whole : goal.returns-clause-whole
returns-clause-whole c =
    let a = c.args in
    let d = c.look.new.machine in
    let rows : c.rows_of-rows.result.now ≡ rows_of (exec d a.stmt.now).after a.span.table = c.rows_of-rows.ensures ∙ ap (λ (m : Database). rows_of m a.span.table) c.in_ok-answer.ensures.after in
    let left = rows_of (exec d a.stmt.now).after a.span.table in
    let same : c.deref.result.now ≡ c.in_ok-keys.keys.items = search rules in
    let changed : (u : ℕ) (k : ℤ) → cell_at c.put_changes.new.store u k
    ≡ put_cell a.txn a.span.table (new_rows (seen_by a.store.now a.txn a.span.table) left) u k
    (remove_cell a.txn a.span.table (gone_keys left c.in_ok-keys.keys.items) u k (cell_at a.store.now u k)) =
    λ u k. c.in_ok-put_changes.ensures.changed u k
    ∙ (λ i. put_cell a.txn a.span.table (new_rows (λ l. seen_in a.txn (c.look.ensures.same a.span.table l i)) (rows i)) u k
    (remove_cell a.txn a.span.table (gone_keys (rows i) (same i)) u k (c.look.ensures.same u k i))) in
    let tables = c.put_changes.ensures.tables ∙ c.look.ensures.tables in
    subst (λ (catalog : Catalog). IsOf catalog c.put_changes.new.store) (sym (c.run_on.ensures.catalog ∙ c.look.ensures.catalog))
    (change_whole a.machine.now.catalog a.store.now c.requires.whole a.txn a.stmt.now d c.look.ensures.ordered c.look.ensures.catalog
    a.span.table a.span.low a.span.high c.requires.one c.in_ok-keys.ensures.rows c.in_ok-keys.keys.items c.in_ok-keys.ensures.keys c.put_changes.new.store tables changed)

pub returns-clause-base : goal.returns-clause-base
returns-clause-base c =
    let a = c.args in
    let d = c.look.new.machine in
    let rows : c.rows_of-rows.result.now ≡ rows_of (exec d a.stmt.now).after a.span.table = c.rows_of-rows.ensures ∙ ap (λ (m : Database). rows_of m a.span.table) c.in_ok-answer.ensures.after in
    let left = rows_of (exec d a.stmt.now).after a.span.table in
    let same : c.deref.result.now ≡ c.in_ok-keys.keys.items = search rules in
    let changed : (u : ℕ) (k : ℤ) → cell_at c.put_changes.new.store u k
    ≡ put_cell a.txn a.span.table (new_rows (seen_by a.store.now a.txn a.span.table) left) u k
    (remove_cell a.txn a.span.table (gone_keys left c.in_ok-keys.keys.items) u k (cell_at a.store.now u k)) =
    λ u k. c.in_ok-put_changes.ensures.changed u k
    ∙ (λ i. put_cell a.txn a.span.table (new_rows (λ l. seen_in a.txn (c.look.ensures.same a.span.table l i)) (rows i)) u k
    (remove_cell a.txn a.span.table (gone_keys (rows i) (same i)) u k (c.look.ensures.same u k i))) in
    let tables = c.put_changes.ensures.tables ∙ c.look.ensures.tables in
    ap (λ (catalog : Catalog). committed_base catalog c.put_changes.new.store) (c.run_on.ensures.catalog ∙ c.look.ensures.catalog)
    ∙ change_base a.machine.now.catalog a.store.now c.requires.whole a.txn a.stmt.now d c.look.ensures.ordered c.look.ensures.catalog
    a.span.table a.span.low a.span.high c.requires.one c.in_ok-keys.ensures.rows c.in_ok-keys.keys.items c.in_ok-keys.ensures.keys c.put_changes.new.store tables changed
