-- What a tree means, reckoned on the tree itself; that is what its statement means.
use Rattle.std.proofs.Common.{◌≡◌, Bool, true, ◌&&◌, ◌||◌, cond, not, nat_lt, nat_le, length, List, [], ◌∷◌, map, filter, refl, ap, ◌∙◌}
use Rattle.std.specs.Prelude.{Option, Some, None, Result, Ok, is_some, ◌+ℤ◌, ◌-ℤ◌, ◌*ℤ◌, slice_get, slice_set}
use Rattle.std.specs.Option.{option_map}
use Rattle.std.specs.List.{list_all}
use Rattle.hr_base.specs.Lists.{is_empty}
use Rattle.hr_base.specs.declared.limits.TheConstants.{MAX_ITEMS}
use Rattle.hr_rel.specs.declared.value.Value.{Value}
use Rattle.hr_rel.specs.declared.value.Value.TheVariants.{Null}
use Rattle.hr_rel.specs.declared.answer.Answer.{Answer}
use Rattle.hr_rel.specs.declared.answer.RunError.{RunError}
use Rattle.hr_rel.specs.declared.answer.RunError.TheVariants.{Unfit}
use Rattle.hr_rel.specs.declared.catalog.Catalog.{Catalog}
use Rattle.hr_rel.specs.declared.catalog.ColumnDef.{ColumnDef}
use Rattle.hr_rel.specs.declared.expr.ColRef.{ColRef}
use Rattle.hr_rel.specs.declared.stmt.SelectStmt.{SelectStmt}
use Rattle.hr_rel.specs.Database.{Database, columns_of, rows_of}
use Rattle.hr_rel.specs.Kinds.{is_null}
use Rattle.hr_rel.specs.Fit.{Entries, Kind, entries_of, has_table, both_agree, operand_kind, literal_kind, number_kind, column_kind, has_column, expr_kind, pred_fits, filter_fits, is_grouped, is_group, column_in, is_joined, item_fits, set_fits, assign_apart, fits}
use Rattle.hr_meaning.specs.declared.truth.Truth.{Truth}
use Rattle.hr_meaning.specs.Truth.{Tuple, truth_of, compared, operand_value, both, either, opposite, tested, is_true, is_kept, column_value}
use Rattle.hr_meaning.specs.Value.{and_then, each, operation, value_of}
use Rattle.hr_meaning.specs.Select.{item_value, few, groups_of}
use Rattle.hr_meaning.specs.Exec.{Outcome, exec, meaning, failed, changed, tuples, taken, assigned}
use Rattle.hr_meaning.proofs.Folds.{truth_compare, truth_is_null, truth_and, truth_or, truth_not, value_lit, value_col, value_add, value_sub, value_mul, fits_compare, fits_is_null, fits_and, fits_or, fits_not, kind_lit, kind_col, kind_add, kind_sub, kind_mul}
use Rattle.hr_worked_statements.specs.Words.{Worked, defined}
use Rattle.hr_worked_statements.specs.Trees.{Cond, Compare, IsNull, And, Or, Not, Term, Lit, Col, Add, Sub, Mul, Shown, Plain, CountAll, CountOf, Sum, Min, Max, Assigned, Tree, Select, Insert, Update, Delete, pred_of, expr_of, item_of, set_of, select_of, stmt_of}

-- ---- conditions

abbrev truth : Cond → Tuple → Truth
truth (Compare o a b) rows = compared o (operand_value rows a) (operand_value rows b)
truth (IsNull a) rows = tested (is_null (operand_value rows a))
truth (And a b) rows = both (truth a rows) (truth b rows)
truth (Or a b) rows = either (truth a rows) (truth b rows)
truth (Not a) rows = opposite (truth a rows)

truth_is : (p : Cond) (rows : Tuple) → truth_of (pred_of p) rows ≡ truth p rows
truth_is (Compare o a b) rows = truth_compare rows o a b
truth_is (IsNull a) rows = truth_is_null rows a
truth_is (And a b) rows = truth_and rows (pred_of a) (pred_of b) ∙ (λ i. both (truth_is a rows i) (truth_is b rows i))
truth_is (Or a b) rows = truth_or rows (pred_of a) (pred_of b) ∙ (λ i. either (truth_is a rows i) (truth_is b rows i))
truth_is (Not a) rows = truth_not rows (pred_of a) ∙ ap opposite (truth_is a rows)

abbrev kept_by : Option Cond → Tuple → Bool
kept_by None rows = true
kept_by (Some p) rows = is_true (truth p rows)

kept_is : (p : Option Cond) (rows : Tuple) → is_kept (option_map pred_of p) rows ≡ kept_by p rows
kept_is None rows = refl
kept_is (Some p) rows = ap is_true (truth_is p rows)

abbrev fits_by : Entries → Cond → Bool
fits_by entries (Compare o a b) = both_agree (operand_kind entries a) (operand_kind entries b)
fits_by entries (IsNull a) = is_some (operand_kind entries a)
fits_by entries (And a b) = fits_by entries a && fits_by entries b
fits_by entries (Or a b) = fits_by entries a && fits_by entries b
fits_by entries (Not a) = fits_by entries a

fits_is : (entries : Entries) (p : Cond) → pred_fits entries (pred_of p) ≡ fits_by entries p
fits_is entries (Compare o a b) = fits_compare entries o a b
fits_is entries (IsNull a) = fits_is_null entries a
fits_is entries (And a b) = fits_and entries (pred_of a) (pred_of b) ∙ (λ i. fits_is entries a i && fits_is entries b i)
fits_is entries (Or a b) = fits_or entries (pred_of a) (pred_of b) ∙ (λ i. fits_is entries a i && fits_is entries b i)
fits_is entries (Not a) = fits_not entries (pred_of a) ∙ fits_is entries a

abbrev filter_by : Entries → Option Cond → Bool
filter_by entries None = true
filter_by entries (Some p) = fits_by entries p

filter_is : (entries : Entries) (p : Option Cond) → filter_fits entries (option_map pred_of p) ≡ filter_by entries p
filter_is entries None = refl
filter_is entries (Some p) = fits_is entries p

-- ---- expressions

abbrev value : Term → Tuple → Result Value RunError
value (Lit v) rows = Ok v
value (Col c) rows = Ok (column_value rows c)
value (Add a b) rows = operation (λ m n. m +ℤ n) (value a rows) (value b rows)
value (Sub a b) rows = operation (λ m n. m -ℤ n) (value a rows) (value b rows)
value (Mul a b) rows = operation (λ m n. m *ℤ n) (value a rows) (value b rows)

value_is : (e : Term) (rows : Tuple) → value_of (expr_of e) rows ≡ value e rows
value_is (Lit v) rows = value_lit rows v
value_is (Col c) rows = value_col rows c
value_is (Add a b) rows = value_add rows (expr_of a) (expr_of b) ∙ (λ i. operation (λ m n. m +ℤ n) (value_is a rows i) (value_is b rows i))
value_is (Sub a b) rows = value_sub rows (expr_of a) (expr_of b) ∙ (λ i. operation (λ m n. m -ℤ n) (value_is a rows i) (value_is b rows i))
value_is (Mul a b) rows = value_mul rows (expr_of a) (expr_of b) ∙ (λ i. operation (λ m n. m *ℤ n) (value_is a rows i) (value_is b rows i))

abbrev kind : Entries → Term → Kind
kind entries (Lit v) = literal_kind v
kind entries (Col c) = column_kind entries c
kind entries (Add a b) = number_kind (kind entries a) (kind entries b)
kind entries (Sub a b) = number_kind (kind entries a) (kind entries b)
kind entries (Mul a b) = number_kind (kind entries a) (kind entries b)

kind_is : (entries : Entries) (e : Term) → expr_kind entries (expr_of e) ≡ kind entries e
kind_is entries (Lit v) = kind_lit entries v
kind_is entries (Col c) = kind_col entries c
kind_is entries (Add a b) = kind_add entries (expr_of a) (expr_of b) ∙ (λ i. number_kind (kind_is entries a i) (kind_is entries b i))
kind_is entries (Sub a b) = kind_sub entries (expr_of a) (expr_of b) ∙ (λ i. number_kind (kind_is entries a i) (kind_is entries b i))
kind_is entries (Mul a b) = kind_mul entries (expr_of a) (expr_of b) ∙ (λ i. number_kind (kind_is entries a i) (kind_is entries b i))

-- ---- lists

each_is : {X Y Z : Type 0} (f : Y → Result Z RunError) (g : X → Result Z RunError) (h : X → Y) → ((x : X) → f (h x) ≡ g x) → (xs : List X) → each f (map h xs) ≡ each g xs
each_is f g h same [] = refl
each_is f g h same (x ∷ xs) = λ i. and_then (same x i) (λ y. and_then (each_is f g h same xs i) (λ ys. Ok (y ∷ ys)))

all_is : {X Y : Type 0} (f : Y → Bool) (g : X → Bool) (h : X → Y) → ((x : X) → f (h x) ≡ g x) → (xs : List X) → list_all f (map h xs) ≡ list_all g xs
all_is f g h same [] = refl
all_is f g h same (x ∷ xs) = λ i. same x i && all_is f g h same xs i

-- ---- SELECT

abbrev first_of : Term → List Tuple → Result Value RunError
first_of e [] = Ok Null
first_of e (t ∷ kept) = value e t

abbrev shown_by : List Tuple → Shown → Result Value RunError
shown_by kept (Plain e) = first_of e kept
shown_by kept CountAll = item_value kept (item_of CountAll)
shown_by kept (CountOf c) = item_value kept (item_of (CountOf c))
shown_by kept (Sum c) = item_value kept (item_of (Sum c))
shown_by kept (Min c) = item_value kept (item_of (Min c))
shown_by kept (Max c) = item_value kept (item_of (Max c))

plain_is : (e : Term) (kept : List Tuple) → item_value kept (item_of (Plain e)) ≡ first_of e kept
plain_is e [] = refl
plain_is e (t ∷ kept) = value_is e t

shown_is : (kept : List Tuple) (i : Shown) → item_value kept (item_of i) ≡ shown_by kept i
shown_is kept (Plain e) = plain_is e kept
shown_is kept CountAll = refl
shown_is kept (CountOf c) = refl
shown_is kept (Sum c) = refl
shown_is kept (Min c) = refl
shown_is kept (Max c) = refl

abbrev item_by : Entries → SelectStmt → Shown → Bool
item_by entries s (Plain e) = is_some (kind entries e) && (not (is_grouped s) || is_group s.groups (column_in (expr_of e)))
item_by entries s CountAll = true
item_by entries s (CountOf c) = item_fits entries s (item_of (CountOf c))
item_by entries s (Sum c) = item_fits entries s (item_of (Sum c))
item_by entries s (Min c) = item_fits entries s (item_of (Min c))
item_by entries s (Max c) = item_fits entries s (item_of (Max c))

item_is : (entries : Entries) (s : SelectStmt) (i : Shown) → item_fits entries s (item_of i) ≡ item_by entries s i
item_is entries s (Plain e) = ap (λ (k : Kind). is_some k && (not (is_grouped s) || is_group s.groups (column_in (expr_of e)))) (kind_is entries e)
item_is entries s CountAll = refl
item_is entries s (CountOf c) = refl
item_is entries s (Sum c) = refl
item_is entries s (Min c) = refl
item_is entries s (Max c) = refl

-- the answer, by what a list of rows or pairs shows
abbrev answer_by : Bool → List ColRef → (List Tuple → Result (List Value) RunError) → List Tuple → Answer
answer_by grouped groups row kept =
    cond (not (is_empty groups)) (few row (groups_of groups kept)) (cond grouped (few row (kept ∷ [])) (few (λ t. row (t ∷ [])) kept))

-- ---- UPDATE

abbrev set_by : Entries → Assigned → Bool
set_by entries a = nat_lt 0 a.column && both_agree (column_kind entries record { entry = 0; column = a.column }) (kind entries a.value)

set_is : (entries : Entries) (a : Assigned) → set_fits entries (set_of a) ≡ set_by entries a
set_is entries a = λ i. nat_lt 0 a.column && both_agree (column_kind entries record { entry = 0; column = a.column }) (kind_is entries a.value i)

abbrev assigned_by : List ColumnDef → List Value → List Assigned → List Value → Result (List Value) RunError
assigned_by columns old [] row = Ok row
assigned_by columns old (a ∷ sets) row = and_then (and_then (value a.value (old ∷ [])) (taken (slice_get columns a.column) a.column)) (λ v. assigned_by columns old sets (slice_set row a.column v))

assigned_is : (columns : List ColumnDef) (old : List Value) (sets : List Assigned) (row : List Value) → assigned columns old (map set_of sets) row ≡ assigned_by columns old sets row
assigned_is columns old [] row = refl
assigned_is columns old (a ∷ sets) row = λ i. and_then (and_then (value_is a.value (old ∷ []) i) (taken (slice_get columns a.column) a.column)) (λ v. assigned_is columns old sets (slice_set row a.column v) i)

abbrev updated_by : List ColumnDef → List Assigned → Option Cond → List Value → Result (List Value) RunError
updated_by columns sets where_ row = cond (kept_by where_ (row ∷ [])) (assigned_by columns row sets row) (Ok row)

-- ---- statements

abbrev tree_fits : Catalog → Tree → Bool
tree_fits catalog (Select tables on filtered items groups) =
    is_joined tables (option_map pred_of on) && list_all (has_table catalog) tables && filter_by (entries_of catalog tables) on && filter_by (entries_of catalog tables) filtered
    && list_all (has_column (entries_of catalog tables)) groups
    && (not (is_empty (map item_of items)) && nat_le (length (map item_of items)) MAX_ITEMS && list_all (item_by (entries_of catalog tables) (select_of tables on filtered items groups)) items)
tree_fits catalog (Insert table rows) = fits catalog (stmt_of (Insert table rows))
tree_fits catalog (Update table sets filtered) =
    has_table catalog table && not (is_empty (map set_of sets)) && list_all (set_by (entries_of catalog (table ∷ []))) sets
    && assign_apart (map set_of sets) && filter_by (entries_of catalog (table ∷ [])) filtered
tree_fits catalog (Delete table filtered) = has_table catalog table && filter_by (entries_of catalog (table ∷ [])) filtered

tree_fits_is : (catalog : Catalog) (t : Tree) → fits catalog (stmt_of t) ≡ tree_fits catalog t
tree_fits_is catalog (Select tables on filtered items groups) = λ i.
    is_joined tables (option_map pred_of on) && list_all (has_table catalog) tables && filter_is (entries_of catalog tables) on i && filter_is (entries_of catalog tables) filtered i
    && list_all (has_column (entries_of catalog tables)) groups
    && (not (is_empty (map item_of items)) && nat_le (length (map item_of items)) MAX_ITEMS
    && all_is (item_fits (entries_of catalog tables) (select_of tables on filtered items groups)) (item_by (entries_of catalog tables) (select_of tables on filtered items groups)) item_of (item_is (entries_of catalog tables) (select_of tables on filtered items groups)) items i)
tree_fits_is catalog (Insert table rows) = refl
tree_fits_is catalog (Update table sets filtered) = λ i.
    has_table catalog table && not (is_empty (map set_of sets)) && all_is (set_fits (entries_of catalog (table ∷ []))) (set_by (entries_of catalog (table ∷ []))) set_of (set_is (entries_of catalog (table ∷ []))) sets i
    && assign_apart (map set_of sets) && filter_is (entries_of catalog (table ∷ [])) filtered i
tree_fits_is catalog (Delete table filtered) = λ i. has_table catalog table && filter_is (entries_of catalog (table ∷ [])) filtered i

abbrev tree_means : Database → Tree → Outcome
tree_means db (Select tables on filtered items groups) = record {
  after = db;
  answer = answer_by (is_grouped (select_of tables on filtered items groups)) groups (λ kept. each (shown_by kept) items)
      (filter (λ t. kept_by on t && kept_by filtered t) (tuples (map (rows_of db) tables)));
}
tree_means db (Insert table rows) = meaning db (stmt_of (Insert table rows))
tree_means db (Update table sets filtered) =
    changed db table (length (filter (λ row. kept_by filtered (row ∷ [])) (rows_of db table))) (each (updated_by (columns_of db.catalog table) sets filtered) (rows_of db table))
tree_means db (Delete table filtered) =
    changed db table (length (filter (λ row. kept_by filtered (row ∷ [])) (rows_of db table))) (Ok (filter (λ row. not (kept_by filtered (row ∷ []))) (rows_of db table)))

tree_means_is : (db : Database) (t : Tree) → meaning db (stmt_of t) ≡ tree_means db t
tree_means_is db (Select tables on filtered items groups) = λ i. record {
  after = db;
  answer = answer_by (is_grouped (select_of tables on filtered items groups)) groups (λ kept. each_is (item_value kept) (shown_by kept) item_of (shown_is kept) items i)
      (filter (λ t. kept_is on t i && kept_is filtered t i) (tuples (map (rows_of db) tables)));
}
tree_means_is db (Insert table rows) = refl
tree_means_is db (Update table sets filtered) = λ i.
    changed db table (length (filter (λ row. kept_is filtered (row ∷ []) i) (rows_of db table)))
    (each (λ row. cond (kept_is filtered (row ∷ []) i) (assigned_is (columns_of db.catalog table) row sets row i) (Ok row)) (rows_of db table))
tree_means_is db (Delete table filtered) = λ i.
    changed db table (length (filter (λ row. kept_is filtered (row ∷ []) i) (rows_of db table))) (Ok (filter (λ row. not (kept_is filtered (row ∷ []) i)) (rows_of db table)))

-- what a tree's statement does, reckoned on the tree
abbrev pub reckoned : Database → Tree → Outcome
reckoned db t = cond (tree_fits db.catalog t) (tree_means db t) (failed db Unfit)

pub exec_is : (db : Database) (t : Tree) → exec db (stmt_of t) ≡ reckoned db t
exec_is db t = λ i. cond (tree_fits_is db.catalog t i) (tree_means_is db t i) (failed db Unfit)

-- the outcomes of worked statements are those of their trees
pub defined_is : (all : List Worked) → defined all ≡ map (λ (w : Worked). reckoned w.before w.tree) all
defined_is [] = refl
defined_is (w ∷ all) = λ i. exec_is w.before w.tree i ∷ defined_is all i
