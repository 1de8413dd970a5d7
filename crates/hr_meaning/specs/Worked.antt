-- The table and the statements of the worked runs: `table t (id int key, v int)`.
use Rattle.std.specs.Prelude.{ℕ, pos, false, Some, None, List, [], ◌∷◌, codes}
use Rattle.hr_rel.specs.declared.value.Value.{Value}
use Rattle.hr_rel.specs.declared.value.Value.TheVariants as value
use Rattle.hr_rel.specs.declared.catalog.Catalog.{Catalog}
use Rattle.hr_rel.specs.declared.catalog.ColumnDef.{ColumnDef}
use Rattle.hr_rel.specs.declared.catalog.ColKind.TheVariants as kind
use Rattle.hr_rel.specs.declared.expr.Op.TheVariants as op
use Rattle.hr_rel.specs.declared.expr.Operand.TheVariants as operand
use Rattle.hr_rel.specs.declared.expr.Expr as expr
use Rattle.hr_rel.specs.declared.expr.Pred as pred
use Rattle.hr_rel.specs.declared.stmt.Item.TheVariants as item
use Rattle.hr_rel.specs.declared.stmt.Stmt.{Stmt}
use Rattle.hr_rel.specs.declared.stmt.Stmt.TheVariants as stmt
use Rattle.hr_rel.specs.Database.{Database}

abbrev pub int_column : List ℕ → ColumnDef
int_column name = record { name = name; kind = kind.Int; nullable = false; indexed = false }

abbrev pub catalog_t : Catalog
catalog_t = record { tables = record { name = codes "t"; columns = int_column (codes "id") ∷ int_column (codes "v") ∷ [] } ∷ [] }

-- the database in which `t` has these rows
abbrev pub holding : List (List Value) → Database
holding rows = record { catalog = catalog_t; tables = rows ∷ [] }

-- the row (id, v)
abbrev pub row : ℕ → ℕ → List Value
row id v = value.Int (pos id) ∷ value.Int (pos v) ∷ []

-- an answer's row of one value
abbrev pub one : ℕ → List Value
one v = value.Int (pos v) ∷ []

-- `INSERT INTO t VALUES (id, v)`
abbrev pub insert : ℕ → ℕ → Stmt
insert id v = stmt.Insert record { table = 0; rows = row id v ∷ [] }

-- `INSERT INTO t VALUES (NULL, 1)`
abbrev pub null_key : Stmt
null_key = stmt.Insert record { table = 0; rows = (value.Null ∷ value.Int (pos 1) ∷ []) ∷ [] }

-- `SELECT v FROM t WHERE id = n`
abbrev pub select_v : ℕ → Stmt
select_v n = stmt.Select record {
  tables = 0 ∷ [];
  on = None;
  filter = Some (pred.Compare op.Eq (operand.Col record { entry = 0; column = 0 }) (operand.Lit (value.Int (pos n))));
  items = item.Plain (expr.Col record { entry = 0; column = 1 }) ∷ [];
  groups = [];
}
