-- The rows of an INSERT without a problem fit their table, and so do the assignments of an UPDATE.
use Rattle.std.proofs.Common.{◌≡◌, ℕ, zero, suc, ◌+◌, ◌==◌, Bool, true, false, ◌||◌, not, nat_lt, eqb-true, Option, Some, None, List, [], ◌∷◌, ◌++◌, length, map, flat_map, slice_get, option_map, option_and_then, refl, sym, ap, ◌∙◌, arith}
use Rattle.std.specs.Prelude.{is_none, unwrap_or, zip}
use Rattle.std.specs.List.{list_all, list_any, range_with_len}
use Rattle.std.proofs.lemmas.Bool.{and_from, eq-eqb}
use Rattle.std.proofs.lemmas.List.FromFn.{length-map-range_with_len}
use Rattle.hr_rel.specs.declared.value.Value.{Value}
use Rattle.hr_rel.specs.declared.value.Value.TheVariants as value
use Rattle.hr_rel.specs.declared.catalog.ColumnDef.{ColumnDef}
use Rattle.hr_rel.specs.declared.catalog.ColKind.{ColKind}
use Rattle.hr_rel.specs.declared.catalog.ColKind.TheVariants as col
use Rattle.hr_rel.specs.declared.stmt.Set.{Set}
use Rattle.hr_rel.specs.Kinds.{is_of_kind}
use Rattle.hr_rel.specs.Holds.{row_fits}
use Rattle.hr_rel.specs.Fit as fit
use Rattle.hr_rel.specs.Fit.{agree, both_agree, expr_kind, set_fits, assign_apart}
use Rattle.hr_parse.specs.declared.ast.LitAst.{LitAst}
use Rattle.hr_parse.specs.declared.ast.LitAst.TheVariants as lit
use Rattle.hr_parse.specs.declared.ast.LiteralAst.{LiteralAst}
use Rattle.hr_parse.specs.declared.ast.NameAt.{NameAt}
use Rattle.hr_parse.specs.declared.ast.TupleAst.{TupleAst}
use Rattle.hr_parse.specs.declared.ast.SetAst.{SetAst}
use Rattle.hr_parse.specs.declared.ast.ExprAst.{out-ExprAst}
use Rattle.hr_problem.specs.declared.problem.ProblemKind.TheVariants as kind
use Rattle.hr_problem.specs.Problems.{problem_where}
use Rattle.hr_names.specs.Scope.{Scope, same_name, column_of}
use Rattle.hr_names.specs.Names.{unknown_name, same_column, kind_of}
use Rattle.hr_names.specs.Operands.{is_value, literal_problems, literal_kind, mismatch}
use Rattle.hr_check.specs.Expressions.{judged}
use Rattle.hr_check.specs.Statements.{target, target_kind, value_problems, values_problems, arity, tuple_problems, is_key, set_problems, assigned_twice, sets_problems}
use Rattle.hr_bind.specs.Bound.{bound_value, is_at, source, value_in, bound_row, bound_expr, bound_set}
use Rattle.hr_fitting.proofs.Words.{left_none, right_none, not_so, passed, position_has}
use Rattle.hr_fitting.proofs.Columns.{entries, agreed}
use Rattle.hr_fitting.proofs.Expressions.{expr_ok}

-- ---- values

-- a literal that is a value, of a kind that doesn't differ from the column's
kind_ok : (k : ColKind) (v : LitAst) → is_value v ≡ true → agree (Some k) (literal_kind v) ≡ true → is_of_kind k (bound_value v) ≡ true
kind_ok k lit.Null e f = refl
kind_ok col.Int (lit.Int n) e f = e
kind_ok col.Text (lit.Int n) e f = cc
kind_ok col.Int (lit.Text t) e f = cc
kind_ok col.Text (lit.Text t) e f = refl

-- each value of a tuple has none of the problems
each_value : (columns : List ColumnDef) (names : List NameAt) (i : ℕ) (values : List LiteralAst) (k : ℕ) (l : LiteralAst)
    → values_problems columns names i values ≡ [] → slice_get values k ≡ Some l → value_problems columns names (i + k) l ≡ []
each_value columns names i [] k l e f = cc
each_value columns names i (v ∷ values) zero l e f =
    let same : v ≡ l = cc in
    let at : i + 0 ≡ i = omega arith in
    ap (λ (n : ℕ). value_problems columns names n l) at ∙ ap (value_problems columns names i) (sym same) ∙ left_none (value_problems columns names i v) (values_problems columns names (suc i) values) e
each_value columns names i (v ∷ values) (suc k) l e f =
    let at : i + suc k ≡ suc i + k = omega arith in
    ap (λ (n : ℕ). value_problems columns names n l) at
    ∙ each_value columns names (suc i) values k l (right_none (value_problems columns names i v) (values_problems columns names (suc i) values) e) f

-- where a column's value comes from a place, the value of that place goes to the column
back : (columns : List ColumnDef) (names : List NameAt) (column place : ℕ) → source columns names column ≡ Some place → target columns names place ≡ Some column
back columns [] column place e =
    let same : column ≡ place = cc in
    ap Some (sym same)
back columns (n ∷ names) column place e =
    let found = position_has (λ (n : NameAt). is_at column (column_of columns n.name)) (n ∷ names) place e in
    ap (option_and_then (λ (n : NameAt). column_of columns n.name)) found.1 ∙ means (column_of columns found.0.name) found.2
  where
    means : (o : Option ℕ) → is_at column o ≡ true → o ≡ Some column
    means None f = cc
    means (Some at) f = ap Some (eqb-true at column f)

module _ (columns : List ColumnDef) (names : List NameAt) (values : List LiteralAst) (none : values_problems columns names 0 values ≡ []) where
  -- the value of a column is of the column's kind
  value_typed : (column : ℕ) (d : ColumnDef) → slice_get columns column ≡ Some d → is_of_kind d.kind (value_in columns names values column) ≡ true
  value_typed column d at = by (source columns names column) refl
    where
      literal_typed : (place : ℕ) (o : Option LiteralAst) → source columns names column ≡ Some place → slice_get values place ≡ o
          → is_of_kind d.kind (unwrap_or (option_map (λ (l : LiteralAst). bound_value l.value) o) value.Null) ≡ true
      literal_typed place None s g = refl
      literal_typed place (Some l) s g =
          let problems = each_value columns names 0 values place l none g in
          let own = literal_problems l in
          let differs = mismatch (target_kind columns names (0 + place)) (literal_kind l.value) l.at in
          let to : 0 + place ≡ place = omega arith in
          let kinds = agreed (target_kind columns names (0 + place)) (literal_kind l.value) l.at (right_none own differs problems) in
          let of_column : target_kind columns names (0 + place) ≡ Some d.kind =
          ap (target_kind columns names) to ∙ ap (kind_of columns) (back columns names column place s) ∙ ap (option_map (λ (d : ColumnDef). d.kind)) at in
          kind_ok d.kind l.value (passed (is_value l.value) kind.TextTooLong l.at (left_none own differs problems)) (ap (λ (k : Option ColKind). agree k (literal_kind l.value)) (sym of_column) ∙ kinds)

      by : (o : Option ℕ) → source columns names column ≡ o
          → is_of_kind d.kind (unwrap_or (option_map (λ (l : LiteralAst). bound_value l.value) (option_and_then (slice_get values) o)) value.Null) ≡ true
      by None s = refl
      by (Some place) s = literal_typed place (slice_get values place) s refl

-- ---- rows

-- columns from a number on, each beside a value of its kind
typed_from : (f : ℕ → Value) (k : ℕ) (columns : List ColumnDef) → ((i : ℕ) (d : ColumnDef) → slice_get columns i ≡ Some d → is_of_kind d.kind (f (k + i)) ≡ true)
    → list_all (λ (p : ColumnDef × Value). is_of_kind p.0.kind p.1) (zip columns (map f (range_with_len k (length columns)))) ≡ true
typed_from f k [] h = refl
typed_from f k (d ∷ columns) h =
    let here : k + 0 ≡ k = omega arith in
    and_from (is_of_kind d.kind (f k)) (list_all (λ (p : ColumnDef × Value). is_of_kind p.0.kind p.1) (zip columns (map f (range_with_len (k + 1) (length columns)))))
    (ap (λ (n : ℕ). is_of_kind d.kind (f n)) (sym here) ∙ h 0 d refl)
    (typed_from f (k + 1) columns (λ i c e. let next : k + 1 + i ≡ k + suc i = omega arith in ap (λ (n : ℕ). is_of_kind c.kind (f n)) next ∙ h (suc i) c e))

pub row_ok : (columns : List ColumnDef) (names : List NameAt) (t : TupleAst) → tuple_problems columns names t ≡ [] → row_fits columns (bound_row columns names t) ≡ true
row_ok columns names t e =
    let none = right_none (problem_where (not (length t.values == arity columns names)) kind.WrongArity t.at) (values_problems columns names 0 t.values) e in
    let f = value_in columns names t.values in
    let long = length-map-range_with_len f 0 (length columns) in
    let typed = value_typed columns names t.values none in
    and_from (length (bound_row columns names t) == length columns) (list_all (λ (p : ColumnDef × Value). is_of_kind p.0.kind p.1) (zip columns (bound_row columns names t)))
    (eq-eqb (length (map f (range_with_len 0 (length columns)))) (length columns) long)
    (typed_from f 0 columns (λ i d g. let at : 0 + i ≡ i = omega arith in ap (λ (n : ℕ). is_of_kind d.kind (f n)) at ∙ typed i d g))

-- ---- assignments

module _ (scope : Scope) (columns : List ColumnDef) (alone : entries scope ≡ columns ∷ []) where
  -- a name without a problem is a column's
  known : (o : Option ℕ) (at : ℕ) → problem_where (is_none o) kind.UnknownColumn at ≡ [] → o ≡ Some (unwrap_or o 0)
  known None at e = cc
  known (Some n) at e = refl

  assigned : (s : SetAst) → set_problems scope columns s ≡ [] → column_of columns s.column.name ≡ Some (unwrap_or (column_of columns s.column.name) 0)
  assigned s e =
      let o = column_of columns s.column.name in
      let kinds = mismatch (kind_of columns o) (judged scope s.value).kind (out-ExprAst s.value).at in
      let key = problem_where (is_key o) kind.KeyAssigned s.column.at in
      let front = left_none (unknown_name columns s.column ++ key ++ (judged scope s.value).problems) kinds e in
      let names = left_none (unknown_name columns s.column ++ key) (judged scope s.value).problems front in
      known o s.column.at (left_none (unknown_name columns s.column) key names)

  not_key : (n at : ℕ) → problem_where (is_key (Some n)) kind.KeyAssigned at ≡ [] → nat_lt 0 n ≡ true
  not_key zero at e = cc
  not_key (suc n) at e = grind arith

  pub set_ok : (s : SetAst) → set_problems scope columns s ≡ [] → set_fits (entries scope) (bound_set scope columns s) ≡ true
  set_ok s e = by (unwrap_or (column_of columns s.column.name) 0) (assigned s e)
    where
      by : (n : ℕ) → column_of columns s.column.name ≡ Some n → set_fits (entries scope) (bound_set scope columns s) ≡ true
      by n is =
          let o = column_of columns s.column.name in
          let given = (judged scope s.value).kind in
          let kinds = mismatch (kind_of columns o) given (out-ExprAst s.value).at in
          let key = problem_where (is_key o) kind.KeyAssigned s.column.at in
          let front = left_none (unknown_name columns s.column ++ key ++ (judged scope s.value).problems) kinds e in
          let names = left_none (unknown_name columns s.column ++ key) (judged scope s.value).problems front in
          let same : unwrap_or o 0 ≡ n = ap (λ (p : Option ℕ). unwrap_or p 0) is in
          let d = position_has (λ (d : ColumnDef). same_name d.name s.column.name) columns n is in
          let there : fit.column_kind (entries scope) (record { entry = 0; column = unwrap_or o 0 }) ≡ Some (Some d.0.kind) =
          ap (λ (m : ℕ). fit.column_kind (entries scope) (record { entry = 0; column = m })) same
          ∙ ap (λ (all : fit.Entries). fit.column_kind all (record { entry = 0; column = n })) alone ∙ ap (option_map (λ (d : ColumnDef). Some d.kind)) d.1 in
          let value = expr_ok scope s.value (right_none (unknown_name columns s.column ++ key) (judged scope s.value).problems front) in
          let differ = ap (λ (k : Option ColKind). agree k given) (sym (ap (kind_of columns) is ∙ ap (option_map (λ (d : ColumnDef). d.kind)) d.1))
          ∙ agreed (kind_of columns o) given (out-ExprAst s.value).at (right_none (unknown_name columns s.column ++ key ++ (judged scope s.value).problems) kinds e) in
          and_from (nat_lt 0 (unwrap_or o 0)) (both_agree (fit.column_kind (entries scope) (record { entry = 0; column = unwrap_or o 0 })) (expr_kind (entries scope) (bound_expr scope s.value)))
          (ap (nat_lt 0) same ∙ not_key n s.column.at (ap (λ (p : Option ℕ). problem_where (is_key p) kind.KeyAssigned s.column.at) (sym is) ∙ right_none (unknown_name columns s.column) key names))
          (ap (λ (k : fit.Kind). both_agree k (expr_kind (entries scope) (bound_expr scope s.value))) there ∙ ap (both_agree (Some (Some d.0.kind))) value ∙ differ)

  swap : (m n : ℕ) → (n == m) ≡ false → (m == n) ≡ false
  swap m n e = grind arith

  none_of : (s : SetAst) → column_of columns s.column.name ≡ Some (unwrap_or (column_of columns s.column.name) 0) → (sets : List SetAst) → flat_map (assigned_twice columns s) sets ≡ []
      → sets_problems scope columns sets ≡ [] → list_any (λ (t : Set). t.column == unwrap_or (column_of columns s.column.name) 0) (map (bound_set scope columns) sets) ≡ false
  none_of s is [] e f = refl
  none_of s is (t ∷ sets) e f =
      let o = column_of columns s.column.name in
      let p = column_of columns t.column.name in
      let twice = flat_map (assigned_twice columns t) sets in
      let rest = flat_map (assigned_twice columns s) sets in
      let front = left_none (set_problems scope columns t ++ twice) (sets_problems scope columns sets) f in
      let found = assigned t (left_none (set_problems scope columns t) twice front) in
      let apart = not_so (same_column o p) kind.NameTwice t.column.at (left_none (assigned_twice columns s t) rest e) in
      let differ : (unwrap_or o 0 == unwrap_or p 0) ≡ false =
      ap (λ (q : Option ℕ). same_column q (Some (unwrap_or p 0))) (sym is) ∙ ap (same_column o) (sym found) ∙ apart in
      ap (λ (b : Bool). b || list_any (λ (t : Set). t.column == unwrap_or o 0) (map (bound_set scope columns) sets)) (swap (unwrap_or p 0) (unwrap_or o 0) differ)
      ∙ none_of s is sets (right_none (assigned_twice columns s t) rest e) (right_none (set_problems scope columns t ++ twice) (sets_problems scope columns sets) f)

  pub apart_ok : (sets : List SetAst) → sets_problems scope columns sets ≡ [] → assign_apart (map (bound_set scope columns) sets) ≡ true
  apart_ok [] e = refl
  apart_ok (s ∷ sets) e =
      let twice = flat_map (assigned_twice columns s) sets in
      let front = left_none (set_problems scope columns s ++ twice) (sets_problems scope columns sets) e in
      let more = right_none (set_problems scope columns s ++ twice) (sets_problems scope columns sets) e in
      let all = map (bound_set scope columns) sets in
      and_from (not (list_any (λ (t : Set). t.column == unwrap_or (column_of columns s.column.name) 0) all)) (assign_apart all)
      (ap not (none_of s (assigned s (left_none (set_problems scope columns s) twice front)) sets (right_none (set_problems scope columns s) twice front) more)) (apart_ok sets more)

  pub sets_ok : (sets : List SetAst) → sets_problems scope columns sets ≡ [] → list_all (set_fits (entries scope)) (map (bound_set scope columns) sets) ≡ true
  sets_ok [] e = refl
  sets_ok (s ∷ sets) e =
      let twice = flat_map (assigned_twice columns s) sets in
      let front = left_none (set_problems scope columns s ++ twice) (sets_problems scope columns sets) e in
      and_from (set_fits (entries scope) (bound_set scope columns s)) (list_all (set_fits (entries scope)) (map (bound_set scope columns) sets))
      (set_ok s (left_none (set_problems scope columns s) twice front)) (sets_ok sets (right_none (set_problems scope columns s ++ twice) (sets_problems scope columns sets) e))
