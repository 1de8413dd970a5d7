-- Statements as plain trees, in which the worked ones are written. The checker computes with them what it can't with the program's
-- own, whose parts lie in boxes.
use Rattle.std.specs.Prelude.{ℕ, Option, List, map}
use Rattle.std.specs.Option.{option_map}
use Rattle.hr_rel.specs.declared.value.Value.{Value}
use Rattle.hr_rel.specs.declared.expr.ColRef.{ColRef}
use Rattle.hr_rel.specs.declared.expr.Op.{Op}
use Rattle.hr_rel.specs.declared.expr.Operand.{Operand}
use Rattle.hr_rel.specs.declared.expr.Expr.{Expr}
use Rattle.hr_rel.specs.declared.expr.Expr.TheVariants as expr
use Rattle.hr_rel.specs.declared.expr.Pred.{Pred}
use Rattle.hr_rel.specs.declared.expr.Pred.TheVariants as pred
use Rattle.hr_rel.specs.declared.stmt.Item.{Item}
use Rattle.hr_rel.specs.declared.stmt.Item.TheVariants as item
use Rattle.hr_rel.specs.declared.stmt.Set.{Set}
use Rattle.hr_rel.specs.declared.stmt.SelectStmt.{SelectStmt}
use Rattle.hr_rel.specs.declared.stmt.UpdateStmt.{UpdateStmt}
use Rattle.hr_rel.specs.declared.stmt.DeleteStmt.{DeleteStmt}
use Rattle.hr_rel.specs.declared.stmt.Stmt.{Stmt}
use Rattle.hr_rel.specs.declared.stmt.Stmt.TheVariants as stmt

pub data Cond : Type 0 where
  Compare : (o : Op) (left right : Operand) → Cond
  IsNull : (a : Operand) → Cond
  And : (a b : Cond) → Cond
  Or : (a b : Cond) → Cond
  Not : (a : Cond) → Cond

pub data Term : Type 0 where
  Lit : (v : Value) → Term
  Col : (c : ColRef) → Term
  Add : (a b : Term) → Term
  Sub : (a b : Term) → Term
  Mul : (a b : Term) → Term

-- an item of a SELECT
pub data Shown : Type 0 where
  Plain : (e : Term) → Shown
  CountAll : Shown
  CountOf : (c : ColRef) → Shown
  Sum : (c : ColRef) → Shown
  Min : (c : ColRef) → Shown
  Max : (c : ColRef) → Shown

-- one assignment: the column's place, and the new value
pub record Assigned : Type 0 where
  pub column : ℕ
  pub value : Term

pub data Tree : Type 0 where
  Select : (tables : List ℕ) (on filter : Option Cond) (items : List Shown) (groups : List ColRef) → Tree
  Insert : (table : ℕ) (rows : List (List Value)) → Tree
  Update : (table : ℕ) (sets : List Assigned) (filter : Option Cond) → Tree
  Delete : (table : ℕ) (filter : Option Cond) → Tree

-- ---- what they are in the program

abbrev pub pred_of : Cond → Pred
pred_of (Compare o a b) = pred.Compare o a b
pred_of (IsNull a) = pred.IsNull a
pred_of (And a b) = pred.And (pred_of a) (pred_of b)
pred_of (Or a b) = pred.Or (pred_of a) (pred_of b)
pred_of (Not a) = pred.Not (pred_of a)

abbrev pub expr_of : Term → Expr
expr_of (Lit v) = expr.Lit v
expr_of (Col c) = expr.Col c
expr_of (Add a b) = expr.Add (expr_of a) (expr_of b)
expr_of (Sub a b) = expr.Sub (expr_of a) (expr_of b)
expr_of (Mul a b) = expr.Mul (expr_of a) (expr_of b)

abbrev pub item_of : Shown → Item
item_of (Plain e) = item.Plain (expr_of e)
item_of CountAll = item.CountAll
item_of (CountOf c) = item.Count c
item_of (Sum c) = item.Sum c
item_of (Min c) = item.Min c
item_of (Max c) = item.Max c

abbrev pub set_of : Assigned → Set
set_of a = record { column = a.column; value = expr_of a.value }

abbrev pub select_of : List ℕ → Option Cond → Option Cond → List Shown → List ColRef → SelectStmt
select_of tables on filter items groups =
    record { tables = tables; on = option_map pred_of on; filter = option_map pred_of filter; items = map item_of items; groups = groups }

abbrev pub update_of : ℕ → List Assigned → Option Cond → UpdateStmt
update_of table sets filter = record { table = table; sets = map set_of sets; filter = option_map pred_of filter }

abbrev pub delete_of : ℕ → Option Cond → DeleteStmt
delete_of table filter = record { table = table; filter = option_map pred_of filter }

-- the statement that a tree is
abbrev pub stmt_of : Tree → Stmt
stmt_of (Select tables on filter items groups) = stmt.Select (select_of tables on filter items groups)
stmt_of (Insert table rows) = stmt.Insert record { table = table; rows = rows }
stmt_of (Update table sets filter) = stmt.Update (update_of table sets filter)
stmt_of (Delete table filter) = stmt.Delete (delete_of table filter)
