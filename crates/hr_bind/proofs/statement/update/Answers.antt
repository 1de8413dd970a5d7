use Rattle.std.proofs.Common.{◌≡◌, ℕ, List, IfOk, subst}
use Rattle.hr_rel.specs.declared.catalog.ColumnDef.{ColumnDef}
use Rattle.hr_names.specs.Scope.{Scope, table_of, scope_of, alone}
use Rattle.hr_names.specs.Seen.{seen}
use Rattle.hr_bind.specs.Bound.{bound_update}
use Rattle.hr_bind.proofs.statement.update.Goals as goal

-- what the parts are made of is what the definition makes them of
pub returns : goal.returns
returns c =
    let update = c.args.update.now in
    let number = table_of c.args.catalog.now update.table.name in
    let entries = scope_of c.args.catalog.now (alone update.table) in
    let table = subst (λ (t : ℕ). IfOk c.bound_update.result (λ s. s ≡ bound_update t (seen c.table_scope-scope.result) c.columns_in.result.now update))
    c.in_ok-table.ensures c.bound_update.ensures in
    let scope = subst (λ (e : Scope). IfOk c.bound_update.result (λ s. s ≡ bound_update number e c.columns_in.result.now update)) c.table_scope-scope.ensures table in
    subst (λ (columns : List ColumnDef). IfOk c.bound_update.result (λ s. s ≡ bound_update number entries columns update)) c.columns_in.ensures scope
