-- Trees that are equal apart from places have one text: that of the tree without its places.
use Rattle.std.proofs.Common.{◌≡◌, ℕ, Bool, nat_lt, List, [], ◌∷◌, ◌++◌, map, codes, Option, Some, None, refl, sym, ◌∙◌, ap, subst}
use Rattle.hr_rel.specs.declared.expr.Op.{Op}
use Rattle.std.specs.Option.{option_map}
use Rattle.hr_parse.specs.declared.ast.Ast.{Ast}
use Rattle.hr_parse.specs.declared.ast.SelectAst.{SelectAst}
use Rattle.hr_parse.specs.declared.ast.InsertAst.{InsertAst}
use Rattle.hr_parse.specs.declared.ast.UpdateAst.{UpdateAst}
use Rattle.hr_parse.specs.declared.ast.DeleteAst.{DeleteAst}
use Rattle.hr_parse.specs.declared.ast.EntryAst.{EntryAst}
use Rattle.hr_parse.specs.declared.ast.JoinAst.{JoinAst}
use Rattle.hr_parse.specs.declared.ast.TupleAst.{TupleAst}
use Rattle.hr_parse.specs.declared.ast.SetAst.{SetAst}
use Rattle.hr_parse.specs.declared.ast.ItemAst.{ItemAst}
use Rattle.hr_parse.specs.declared.ast.Items.{Items}
use Rattle.hr_parse.specs.declared.ast.Ast.TheVariants as ast_of
use Rattle.hr_parse.specs.declared.ast.ItemAst.TheVariants as item_of
use Rattle.hr_parse.specs.declared.ast.Items.TheVariants as items_of
use Rattle.hr_parse.specs.declared.ast.ExprKind.TheVariants as kind
use Rattle.hr_parse.specs.Trees.{expr}
use Rattle.hr_parse.specs.declared.ast.CondAst.{CondAst, roll-CondAst, map-CondAst, ind-CondAst}
use Rattle.hr_parse.specs.declared.ast.CondAst.TheVariants as cond_of
use Rattle.hr_parse.specs.declared.ast.CondAst.TheOpen.{CondAst-F}
use Rattle.hr_parse.specs.declared.ast.ExprAst.{ExprAst, roll-ExprAst, ind-ExprAst}
use Rattle.hr_parse.specs.declared.ast.ExprKind.{ExprKind, roll-ExprKind, map-ExprKind}
use Rattle.hr_parse.specs.declared.ast.ExprKind.TheOpen.{ExprKind-F}
use Rattle.hr_parse.specs.declared.ast.NameAt.{NameAt}
use Rattle.hr_parse.specs.declared.ast.ColumnAst.{ColumnAst}
use Rattle.hr_parse.specs.declared.ast.LiteralAst.{LiteralAst}
use Rattle.hr_parse.specs.declared.ast.OperandAst.{OperandAst}
use Rattle.hr_parse.specs.declared.ast.OperandAst.TheVariants as operand_of
use Rattle.hr_print.specs.Print.{enclosed, joined, column_text, literal_text, operand_text, op_text, is_text, between_text, in_text, cond_text, expr_text, word_text, item_text, items_text, alias_text, entry_text, join_text, filter_text, groups_text, select_text, tuple_text, name_text, columns_text, insert_text, set_text, update_text, delete_text, text}
use Rattle.hr_print.specs.Places.{bare_name, bare_column, bare_literal, bare_operand, bare_cond, bare_expr, bare_item, bare_items, bare_entry, bare_join, bare_select, bare_tuple, bare_insert, bare_set, bare_update, bare_delete, bare}
use Rattle.hr_print.specs.Canonical.{Alike}
use Rattle.hr_print.proofs.Folds.{or_shown, and_shown, not_shown, compare_shown, is_null_shown, between_shown, among_shown, or_bare, and_bare, not_bare, compare_bare, is_null_bare, between_bare, among_bare, kind_text, bare_of_kind, expr_shown, expr_bare, literal_shown, column_shown, add_shown, sub_shown, mul_shown, literal_bare, column_bare, add_bare, sub_bare, mul_bare}
use Rattle.hr_print.proofs.Printed.{ap_two}

-- ---- lists, columns, literals and operands

pub one_list : {A : Type 0} (t : A → List ℕ) (f : A → A) → ((a : A) → t (f a) ≡ t a) → (all : List A) → map t (map f all) ≡ map t all
one_list t f h [] = refl
one_list t f h (a ∷ all) = ap_two (λ x xs. x ∷ xs) (h a) (one_list t f h all)

one_dotted : (a : NameAt) (b : Option NameAt) → column_text (bare_column (record { first = a; second = b })) ≡ column_text (record { first = a; second = b })
one_dotted a None = refl
one_dotted a (Some b) = refl

pub one_column : (a : ColumnAst) → column_text (bare_column a) ≡ column_text a
one_column a = one_dotted a.first a.second

pub one_operand : (a : OperandAst) → operand_text (bare_operand a) ≡ operand_text a
one_operand (operand_of.Column c) = one_column c
one_operand (operand_of.Literal l) = refl

-- ---- conditions

abbrev OneCond : CondAst → Type 0
OneCond c = (least : ℕ) → cond_text (bare_cond c) least ≡ cond_text c least

one_or : (a b : CondAst) → OneCond a → OneCond b → OneCond (cond_of.Or a b)
one_or a b h k least = ap (λ c. cond_text c least) (or_bare a b) ∙ or_shown (bare_cond a) (bare_cond b) least
    ∙ ap_two (λ s t. enclosed (nat_lt 0 least) (s ++ (codes " OR " ++ t))) (h 0) (k 1) ∙ sym (or_shown a b least)

one_and : (a b : CondAst) → OneCond a → OneCond b → OneCond (cond_of.And a b)
one_and a b h k least = ap (λ c. cond_text c least) (and_bare a b) ∙ and_shown (bare_cond a) (bare_cond b) least
    ∙ ap_two (λ s t. enclosed (nat_lt 1 least) (s ++ (codes " AND " ++ t))) (h 1) (k 2) ∙ sym (and_shown a b least)

one_not : (a : CondAst) → OneCond a → OneCond (cond_of.Not a)
one_not a h least = ap (λ c. cond_text c least) (not_bare a) ∙ not_shown (bare_cond a) least ∙ ap (λ s. codes "NOT " ++ s) (h 2) ∙ sym (not_shown a least)

one_compare : (o : Op) (a b : OperandAst) → OneCond (cond_of.Compare o a b)
one_compare o a b least = ap (λ c. cond_text c least) (compare_bare o a b) ∙ compare_shown o (bare_operand a) (bare_operand b) least
    ∙ ap_two (λ s t. s ++ (op_text o ++ t)) (one_operand a) (one_operand b) ∙ sym (compare_shown o a b least)

one_is_null : (a : OperandAst) (n : Bool) → OneCond (cond_of.IsNull a n)
one_is_null a n least = ap (λ c. cond_text c least) (is_null_bare a n) ∙ is_null_shown (bare_operand a) n least ∙ ap (λ s. s ++ is_text n) (one_operand a) ∙ sym (is_null_shown a n least)

one_between : (a low high : OperandAst) (n : Bool) → OneCond (cond_of.Between a low high n)
one_between a low high n least = ap (λ c. cond_text c least) (between_bare a low high n) ∙ between_shown (bare_operand a) (bare_operand low) (bare_operand high) n least
    ∙ ap (λ s. s ++ (between_text n ++ (operand_text (bare_operand low) ++ (codes " AND " ++ operand_text (bare_operand high))))) (one_operand a)
    ∙ ap_two (λ s t. operand_text a ++ (between_text n ++ (s ++ (codes " AND " ++ t)))) (one_operand low) (one_operand high) ∙ sym (between_shown a low high n least)

one_among : (a : OperandAst) (list : List LiteralAst) (n : Bool) → OneCond (cond_of.Among a list n)
one_among a list n least = ap (λ c. cond_text c least) (among_bare a list n) ∙ among_shown (bare_operand a) (map bare_literal list) n least
    ∙ ap_two (λ s t. s ++ (in_text n ++ (joined t ++ codes ")"))) (one_operand a) (one_list literal_text bare_literal (λ l. refl) list) ∙ sym (among_shown a list n least)

-- a condition's first form, each part with the law beside it
one_form : (y : CondAst-F ((c : CondAst) × OneCond c)) → OneCond (roll-CondAst (map-CondAst ((c : CondAst) × OneCond c) CondAst (λ e. e.0) y))
one_form (CondAst-F.Or a b) = subst OneCond (sym (cond_of.rolls-Or a.0 b.0)) (one_or a.0 b.0 a.1 b.1)
one_form (CondAst-F.And a b) = subst OneCond (sym (cond_of.rolls-And a.0 b.0)) (one_and a.0 b.0 a.1 b.1)
one_form (CondAst-F.Not a) = subst OneCond (sym (cond_of.rolls-Not a.0)) (one_not a.0 a.1)
one_form (CondAst-F.Compare o a b) = subst OneCond (sym (cond_of.rolls-Compare o a b)) (one_compare o a b)
one_form (CondAst-F.IsNull a n) = subst OneCond (sym (cond_of.rolls-IsNull a n)) (one_is_null a n)
one_form (CondAst-F.Between a low high n) = subst OneCond (sym (cond_of.rolls-Between a low high n)) (one_between a low high n)
one_form (CondAst-F.Among a list n) = subst OneCond (sym (cond_of.rolls-Among a list n)) (one_among a list n)

pub one_cond : (c : CondAst) → OneCond c
one_cond = ind-CondAst OneCond (λ x y is. subst (λ z. OneCond (roll-CondAst z)) is (one_form y))

-- ---- expressions

abbrev OneExpr : ExprAst → Type 0
OneExpr e = (least : ℕ) → expr_text (bare_expr e) least ≡ expr_text e least

abbrev OneKind : ExprKind → Type 0
OneKind k = (least : ℕ) → kind_text (bare_of_kind k) least ≡ kind_text k least

by_kind : (k : ExprKind) (at : ℕ) → OneKind k → OneExpr (expr k at)
by_kind k at h least = ap (λ e. expr_text e least) (expr_bare k at) ∙ expr_shown (bare_of_kind k) 0 least ∙ h least ∙ sym (expr_shown k at least)

of_kind : (k : ExprKind) → OneExpr (expr k 0) → OneKind k
of_kind k h least = sym (expr_shown (bare_of_kind k) 0 least) ∙ ap (λ e. expr_text e least) (sym (expr_bare k 0)) ∙ h least ∙ expr_shown k 0 least

one_literal : (l : LiteralAst) → OneExpr (expr (kind.Literal l) 0)
one_literal l least = ap (λ e. expr_text e least) (literal_bare l 0) ∙ literal_shown (bare_literal l) 0 least ∙ sym (literal_shown l 0 least)

one_column_expr : (c : ColumnAst) → OneExpr (expr (kind.Column c) 0)
one_column_expr c least = ap (λ e. expr_text e least) (column_bare c 0) ∙ column_shown (bare_column c) 0 least ∙ one_column c ∙ sym (column_shown c 0 least)

one_add : (a b : ExprAst) → OneExpr a → OneExpr b → OneExpr (expr (kind.Add a b) 0)
one_add a b h k least = ap (λ e. expr_text e least) (add_bare a b 0) ∙ add_shown (bare_expr a) (bare_expr b) 0 least
    ∙ ap_two (λ s t. enclosed (nat_lt 0 least) (s ++ (codes " + " ++ t))) (h 0) (k 1) ∙ sym (add_shown a b 0 least)

one_sub : (a b : ExprAst) → OneExpr a → OneExpr b → OneExpr (expr (kind.Sub a b) 0)
one_sub a b h k least = ap (λ e. expr_text e least) (sub_bare a b 0) ∙ sub_shown (bare_expr a) (bare_expr b) 0 least
    ∙ ap_two (λ s t. enclosed (nat_lt 0 least) (s ++ (codes " - " ++ t))) (h 0) (k 1) ∙ sym (sub_shown a b 0 least)

one_mul : (a b : ExprAst) → OneExpr a → OneExpr b → OneExpr (expr (kind.Mul a b) 0)
one_mul a b h k least = ap (λ e. expr_text e least) (mul_bare a b 0) ∙ mul_shown (bare_expr a) (bare_expr b) 0 least
    ∙ ap_two (λ s t. enclosed (nat_lt 1 least) (s ++ (codes " * " ++ t))) (h 1) (k 2) ∙ sym (mul_shown a b 0 least)

one_kind : (y : ExprKind-F ((k : ExprKind) × OneKind k) ((e : ExprAst) × OneExpr e))
    → OneKind (roll-ExprKind (map-ExprKind ((k : ExprKind) × OneKind k) ((e : ExprAst) × OneExpr e) ExprKind ExprAst (λ e. e.0) (λ e. e.0) y))
one_kind (ExprKind-F.Literal l) = subst OneKind (sym (kind.rolls-Literal l)) (of_kind (kind.Literal l) (one_literal l))
one_kind (ExprKind-F.Column c) = subst OneKind (sym (kind.rolls-Column c)) (of_kind (kind.Column c) (one_column_expr c))
one_kind (ExprKind-F.Add a b) = subst OneKind (sym (kind.rolls-Add a.0 b.0)) (of_kind (kind.Add a.0 b.0) (one_add a.0 b.0 a.1 b.1))
one_kind (ExprKind-F.Sub a b) = subst OneKind (sym (kind.rolls-Sub a.0 b.0)) (of_kind (kind.Sub a.0 b.0) (one_sub a.0 b.0 a.1 b.1))
one_kind (ExprKind-F.Mul a b) = subst OneKind (sym (kind.rolls-Mul a.0 b.0)) (of_kind (kind.Mul a.0 b.0) (one_mul a.0 b.0 a.1 b.1))

pub one_expr : (e : ExprAst) → OneExpr e
one_expr = ind-ExprAst OneKind OneExpr (λ x y is. subst (λ z. OneKind (roll-ExprKind z)) is (one_kind y))
    (λ x y is. subst (λ z. OneExpr (roll-ExprAst z)) is (by_kind y.kind.0 y.at y.kind.1))

-- ---- statements

one_option : {A : Type 0} (t : Option A → List ℕ) (f : A → A) → ((a : A) → t (Some (f a)) ≡ t (Some a)) → (a : Option A) → t (option_map f a) ≡ t a
one_option t f h None = refl
one_option t f h (Some a) = h a

one_item : (a : ItemAst) → item_text (bare_item a) ≡ item_text a
one_item (item_of.Plain e) = one_expr e 0
one_item (item_of.CountAll at) = refl
one_item (item_of.Aggregate word c at) = ap (λ s. word_text word ++ s ++ codes ")") (one_column c)

one_items : (a : Items) → items_text (bare_items a) ≡ items_text a
one_items (items_of.Star at) = refl
one_items (items_of.Listed all) = ap joined (one_list item_text bare_item one_item all)

one_entry : (a : EntryAst) → entry_text (bare_entry a) ≡ entry_text a
one_entry a = ap (λ s. a.table.name ++ s) (one_option alias_text bare_name (λ b. refl) a.alias)

one_join : (a : Option JoinAst) → join_text (option_map bare_join a) ≡ join_text a
one_join = one_option join_text bare_join (λ j. ap_two (λ s t. codes " JOIN " ++ s ++ codes " ON " ++ t) (one_entry j.entry) (one_cond j.on 0))

one_filter : (a : Option CondAst) → filter_text (option_map bare_cond a) ≡ filter_text a
one_filter = one_option filter_text bare_cond (λ c. ap (λ s. codes " WHERE " ++ s) (one_cond c 0))

one_groups : (a : List ColumnAst) → groups_text (map bare_column a) ≡ groups_text a
one_groups [] = refl
one_groups (c ∷ all) = ap (λ s. codes " GROUP BY " ++ joined s) (one_list column_text bare_column one_column (c ∷ all))

one_select : (a : SelectAst) → select_text (bare_select a) ≡ select_text a
one_select a =
    ap_two (λ s t. codes "SELECT " ++ s ++ codes " FROM " ++ t ++ join_text (option_map bare_join a.join) ++ filter_text (option_map bare_cond a.filter) ++ groups_text (map bare_column a.groups)) (one_items a.items) (one_entry a.first)
    ∙ ap_two (λ s t. codes "SELECT " ++ items_text a.items ++ codes " FROM " ++ entry_text a.first ++ s ++ t ++ groups_text (map bare_column a.groups)) (one_join a.join) (one_filter a.filter)
    ∙ ap (λ s. codes "SELECT " ++ items_text a.items ++ codes " FROM " ++ entry_text a.first ++ join_text a.join ++ filter_text a.filter ++ s) (one_groups a.groups)

one_tuple : (a : TupleAst) → tuple_text (bare_tuple a) ≡ tuple_text a
one_tuple a = ap (λ s. codes "(" ++ joined s ++ codes ")") (one_list literal_text bare_literal (λ l. refl) a.values)

one_columns : (a : List NameAt) → columns_text (map bare_name a) ≡ columns_text a
one_columns [] = refl
one_columns (c ∷ all) = ap (λ s. codes " (" ++ joined s ++ codes ")") (one_list name_text bare_name (λ n. refl) (c ∷ all))

one_insert : (a : InsertAst) → insert_text (bare_insert a) ≡ insert_text a
one_insert a = ap_two (λ s t. codes "INSERT INTO " ++ a.table.name ++ s ++ codes " VALUES " ++ joined t) (one_columns a.columns) (one_list tuple_text bare_tuple one_tuple a.tuples)

one_set : (a : SetAst) → set_text (bare_set a) ≡ set_text a
one_set a = ap (λ s. a.column.name ++ codes " = " ++ s) (one_expr a.value 0)

one_update : (a : UpdateAst) → update_text (bare_update a) ≡ update_text a
one_update a = ap_two (λ s t. codes "UPDATE " ++ a.table.name ++ codes " SET " ++ joined s ++ t) (one_list set_text bare_set one_set a.sets) (one_filter a.filter)

one_delete : (a : DeleteAst) → delete_text (bare_delete a) ≡ delete_text a
one_delete a = ap (λ s. codes "DELETE FROM " ++ a.table.name ++ s) (one_filter a.filter)

one_bare : (a : Ast) → text (bare a) ≡ text a
one_bare (ast_of.Select a) = one_select a
one_bare (ast_of.Insert a) = one_insert a
one_bare (ast_of.Update a) = one_update a
one_bare (ast_of.Delete a) = one_delete a

pub one_text : (a b : Ast) → Alike a b → text a ≡ text b
one_text a b e = sym (one_bare a) ∙ ap text e ∙ one_bare b
