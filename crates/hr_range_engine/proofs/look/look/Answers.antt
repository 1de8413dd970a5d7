use Rattle.std.proofs.Common.{rules, ◌≡◌, ap, sym, subst, ◌∙◌}
use Rattle.hr_rel.specs.Database.{Database}
use Rattle.hr_rel.specs.Holds.{IsOrdered}
use Rattle.hr_parts.specs.Parts.{row_at}
use Rattle.hr_store.specs.Cells.{seen_in}
use Rattle.hr_range_engine.specs.Shown.{seen_by, rows_by}
use Rattle.hr_range_engine.proofs.Looks.{look_ascends, look_ordered, look_row, look_elsewhere}
use Rattle.hr_range_engine.proofs.look.look.Goals as goal

pub fill-requires-clause-ascending : goal.fill-requires-clause-ascending
fill-requires-clause-ascending c =
    let a = c.args in
    let same : c.deref.result.now ≡ c.in_ok-keys.keys.items = search rules in
    let are : c.in_ok-rows.rows ≡ rows_by (seen_by a.store.now a.txn a.span.table) c.in_ok-keys.keys.items =
    c.in_ok-rows.ensures ∙ (λ j. rows_by (λ k. seen_in a.txn (c.keys_in.ensures.same a.span.table k j)) (same j)) in
    look_ascends a.machine.now c.requires.ordered a.store.now c.requires.whole a.txn a.span.table a.span.low a.span.high c.in_ok-keys.keys.items c.in_ok-keys.ensures.rising
    c.in_ok-keys.ensures.keys c.in_ok-rows.rows are

pub returns-clause-ordered : goal.returns-clause-ordered
returns-clause-ordered c =
    let a = c.args in
    let same : c.deref.result.now ≡ c.in_ok-keys.keys.items = search rules in
    let are : c.in_ok-rows.rows ≡ rows_by (seen_by a.store.now a.txn a.span.table) c.in_ok-keys.keys.items =
    c.in_ok-rows.ensures ∙ (λ j. rows_by (λ k. seen_in a.txn (c.keys_in.ensures.same a.span.table k j)) (same j)) in
    subst IsOrdered (sym c.fill.ensures)
    (look_ordered a.machine.now c.requires.ordered a.store.now c.requires.whole a.txn a.span.table a.span.low a.span.high c.in_ok-keys.keys.items c.in_ok-keys.ensures.rising
    c.in_ok-keys.ensures.keys c.in_ok-rows.rows are)

pub returns-clause-rows : goal.returns-clause-rows
returns-clause-rows c k =
    let a = c.args in
    let same : c.deref.result.now ≡ c.in_ok-keys.keys.items = search rules in
    let are : c.in_ok-rows.rows ≡ rows_by (seen_by a.store.now a.txn a.span.table) c.in_ok-keys.keys.items =
    c.in_ok-rows.ensures ∙ (λ j. rows_by (λ k. seen_in a.txn (c.keys_in.ensures.same a.span.table k j)) (same j)) in
    ap (λ (m : Database). row_at m a.span.table k) c.fill.ensures
    ∙ look_row a.machine.now c.requires.ordered a.store.now c.requires.whole a.txn a.span.table a.span.low a.span.high c.in_ok-keys.keys.items c.in_ok-keys.ensures.rising
    c.in_ok-keys.ensures.keys c.in_ok-rows.rows are k

pub returns-clause-others : goal.returns-clause-others
returns-clause-others c u k differ =
    let a = c.args in
    let same : c.deref.result.now ≡ c.in_ok-keys.keys.items = search rules in
    let are : c.in_ok-rows.rows ≡ rows_by (seen_by a.store.now a.txn a.span.table) c.in_ok-keys.keys.items =
    c.in_ok-rows.ensures ∙ (λ j. rows_by (λ k. seen_in a.txn (c.keys_in.ensures.same a.span.table k j)) (same j)) in
    ap (λ (m : Database). row_at m u k) c.fill.ensures
    ∙ look_elsewhere a.machine.now c.requires.ordered a.store.now c.requires.whole a.txn a.span.table a.span.low a.span.high c.in_ok-keys.keys.items c.in_ok-keys.ensures.rising
    c.in_ok-keys.ensures.keys c.in_ok-rows.rows are u k differ
