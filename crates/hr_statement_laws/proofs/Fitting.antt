-- Rows that fit their catalog go on to fit it.
use Rattle.std.proofs.Common.{◌≡◌, ℕ, zero, suc, ◌+◌, ◌==◌, ℤ, ◌+ℤ◌, ◌-ℤ◌, ◌*ℤ◌, Bool, true, false, ◌&&◌, ◌||◌, cond, not, nat_lt, length, List, [], ◌∷◌, refl, ap, sym, subst, ◌∙◌}
use Rattle.std.specs.Prelude.{Option, Some, None, Result, Ok, Err, unwrap_or, slice_get, slice_set}
use Rattle.std.specs.Option.{option_map}
use Rattle.std.specs.List.{list_all, list_any, zip}
use Rattle.std.proofs.lemmas.Bool.{and_from, and_parts}
use Rattle.hr_rel.specs.declared.value.Value.{Value}
use Rattle.hr_rel.specs.declared.value.Value.TheVariants as value
use Rattle.hr_rel.specs.declared.answer.RunError.{RunError}
use Rattle.hr_rel.specs.declared.answer.RunError.TheVariants.{NullRefused, Overflow}
use Rattle.hr_rel.specs.declared.catalog.ColumnDef.{ColumnDef}
use Rattle.hr_rel.specs.declared.catalog.ColKind.{ColKind}
use Rattle.hr_rel.specs.declared.catalog.ColKind.TheVariants as kind
use Rattle.hr_rel.specs.declared.expr.ColRef.{ColRef}
use Rattle.hr_rel.specs.declared.expr.Expr.{Expr, roll-Expr, map-Expr, ind-Expr}
use Rattle.hr_rel.specs.declared.expr.Expr.TheVariants as expr
use Rattle.hr_rel.specs.declared.expr.Expr.TheOpen.{Expr-F}
use Rattle.hr_rel.specs.declared.stmt.Set.{Set}
use Rattle.hr_rel.specs.declared.stmt.UpdateStmt.{UpdateStmt}
use Rattle.hr_rel.specs.Kinds.{fits_i64, same_kind, is_of_kind, refuses}
use Rattle.hr_rel.specs.Holds.{row_fits, row_holds}
use Rattle.hr_rel.specs.Fit.{Entries, Kind, literal_kind, column_kind, is_number, number_kind, agree, both_agree, expr_kind, set_fits}
use Rattle.hr_meaning.specs.Truth.{Tuple, column_value, is_kept}
use Rattle.hr_meaning.specs.Value.{and_then, combined, operation, value_of}
use Rattle.hr_meaning.specs.Exec.{taken, set_value, assigned, updated}
use Rattle.hr_meaning.proofs.Folds.{value_lit, value_col, value_add, value_sub, value_mul, kind_lit, kind_col, kind_add, kind_sub, kind_mul}

-- ---- values of expressions

-- a value of this kind; of none it is NULL
abbrev Is : Option ColKind → Value → Type 0
Is None v = v ≡ value.Null
Is (Some k) v = is_of_kind k v ≡ true

null_is : (k : Option ColKind) → Is k value.Null
null_is None = refl
null_is (Some k) = refl

number_ok : (n : ℤ) (v : Value) (b : Bool) → fits_i64 n ≡ b → cond b (Ok (value.Int n)) (Err Overflow) ≡ Ok v → is_of_kind kind.Int v ≡ true
number_ok n v true e f =
    let same : v ≡ value.Int n = cc in
    ap (is_of_kind kind.Int) same ∙ e
number_ok n v false e f = cc

null_ok : (v : Value) → ◌≡◌ {A = Result Value RunError} (Ok value.Null) (Ok v) → is_of_kind kind.Int v ≡ true
null_ok v e =
    let same : v ≡ value.Null = cc in
    ap (is_of_kind kind.Int) same

combined_ok : (f : ℤ → ℤ → ℤ) (x y v : Value) → combined f x y ≡ Ok v → is_of_kind kind.Int v ≡ true
combined_ok f (value.Int m) (value.Int n) v e = number_ok (f m n) v (fits_i64 (f m n)) refl e
combined_ok f (value.Int m) value.Null v e = null_ok v e
combined_ok f (value.Int m) (value.Text t) v e = null_ok v e
combined_ok f value.Null y v e = null_ok v e
combined_ok f (value.Text s) y v e = null_ok v e

operation_ok : (f : ℤ → ℤ → ℤ) (a b : Result Value RunError) (v : Value) → operation f a b ≡ Ok v → is_of_kind kind.Int v ≡ true
operation_ok f (Err d) b v e = cc
operation_ok f (Ok x) (Err d) v e = cc
operation_ok f (Ok x) (Ok y) v e = combined_ok f x y v e

number_by : (b : Bool) (k : Option ColKind) → cond b (Some (Some kind.Int)) None ≡ Some k → k ≡ Some kind.Int
number_by true k e = cc
number_by false k e = cc

module _ (columns : List ColumnDef) (row : List Value) (kinds : list_all (λ (p : ColumnDef × Value). is_of_kind p.0.kind p.1) (zip columns row) ≡ true) where
  abbrev entries : Entries
  entries = columns ∷ []

  abbrev rows : Tuple
  rows = row ∷ []

  -- an expression's value is of its kind
  abbrev Typed : Expr → Type 0
  Typed e = (k : Option ColKind) (v : Value) → expr_kind entries e ≡ Some k → value_of e rows ≡ Ok v → Is k v

  literal_typed : (v w : Value) (k : Option ColKind) → literal_kind v ≡ Some k → ◌≡◌ {A = Result Value RunError} (Ok v) (Ok w) → Is k w
  literal_typed value.Null w k e f =
      let same : w ≡ value.Null = cc in
      subst (Is k) (sym same) (null_is k)
  literal_typed (value.Int n) w k e f =
      let same : w ≡ value.Int n = cc in
      subst (Is k) (sym same) (by_test (fits_i64 n) refl e)
    where
      by_test : (b : Bool) → fits_i64 n ≡ b → cond b (Some (Some kind.Int)) None ≡ Some k → Is k (value.Int n)
      by_test true g h = subst (λ (o : Option ColKind). Is o (value.Int n)) (sym (number_by true k h)) g
      by_test false g h = cc
  literal_typed (value.Text t) w k e f =
      let same : w ≡ value.Text t = cc in
      let text : k ≡ Some kind.Text = cc in
      subst (Is k) (sym same) (subst (λ (o : Option ColKind). Is o (value.Text t)) (sym text) refl)

  sum_typed : (f : ℤ → ℤ → ℤ) (a b : Kind) (x y : Result Value RunError) (k : Option ColKind) (v : Value) → number_kind a b ≡ Some k → operation f x y ≡ Ok v → Is k v
  sum_typed f a b x y k v e g = subst (λ (o : Option ColKind). Is o v) (sym (number_by (is_number a && is_number b) k e)) (operation_ok f x y v g)

-- the value at a place is of the kind of the column there
at_typed : (columns : List ColumnDef) (row : List Value) → list_all (λ (p : ColumnDef × Value). is_of_kind p.0.kind p.1) (zip columns row) ≡ true
    → (c : ℕ) (k : Option ColKind) → option_map (λ (d : ColumnDef). Some d.kind) (slice_get columns c) ≡ Some k → Is k (unwrap_or (slice_get row c) value.Null)
at_typed [] row kinds c k e = cc
at_typed (d ∷ columns) [] kinds c k e = null_is k
at_typed (d ∷ columns) (v ∷ row) kinds zero k e =
    let same : k ≡ Some d.kind = cc in
    subst (λ (o : Option ColKind). Is o v) (sym same) (and_parts (is_of_kind d.kind v) (list_all (λ (p : ColumnDef × Value). is_of_kind p.0.kind p.1) (zip columns row)) kinds).0
at_typed (d ∷ columns) (v ∷ row) kinds (suc c) k e =
    at_typed columns row (and_parts (is_of_kind d.kind v) (list_all (λ (p : ColumnDef × Value). is_of_kind p.0.kind p.1) (zip columns row)) kinds).1 c k e

module _ (columns : List ColumnDef) (row : List Value) (kinds : list_all (λ (p : ColumnDef × Value). is_of_kind p.0.kind p.1) (zip columns row) ≡ true) where
  column_typed : (entry column : ℕ) (k : Option ColKind) → column_kind (entries columns row kinds) record { entry = entry; column = column } ≡ Some k
      → Is k (column_value (rows columns row kinds) record { entry = entry; column = column })
  column_typed zero column k e = at_typed columns row kinds column k e
  column_typed (suc entry) column k e = cc

  typed_lit : (w : Value) → Typed columns row kinds (expr.Lit w)
  typed_lit w k v e f = literal_typed columns row kinds w v k (sym (kind_lit (columns ∷ []) w) ∙ e) (sym (value_lit (row ∷ []) w) ∙ f)

  typed_col : (c : ColRef) → Typed columns row kinds (expr.Col c)
  typed_col c k v e f =
      let told = sym (value_col (row ∷ []) c) ∙ f in
      let same : v ≡ column_value (row ∷ []) c = cc in
      subst (Is k) (sym same) (column_typed c.entry c.column k (sym (kind_col (columns ∷ []) c) ∙ e))

  typed_add : (a b : Expr) → Typed columns row kinds (expr.Add a b)
  typed_add a b k v e f = sum_typed columns row kinds (λ m n. m +ℤ n) (expr_kind (columns ∷ []) a) (expr_kind (columns ∷ []) b) (value_of a (row ∷ [])) (value_of b (row ∷ [])) k v
      (sym (kind_add (columns ∷ []) a b) ∙ e) (sym (value_add (row ∷ []) a b) ∙ f)

  typed_sub : (a b : Expr) → Typed columns row kinds (expr.Sub a b)
  typed_sub a b k v e f = sum_typed columns row kinds (λ m n. m -ℤ n) (expr_kind (columns ∷ []) a) (expr_kind (columns ∷ []) b) (value_of a (row ∷ [])) (value_of b (row ∷ [])) k v
      (sym (kind_sub (columns ∷ []) a b) ∙ e) (sym (value_sub (row ∷ []) a b) ∙ f)

  typed_mul : (a b : Expr) → Typed columns row kinds (expr.Mul a b)
  typed_mul a b k v e f = sum_typed columns row kinds (λ m n. m *ℤ n) (expr_kind (columns ∷ []) a) (expr_kind (columns ∷ []) b) (value_of a (row ∷ [])) (value_of b (row ∷ [])) k v
      (sym (kind_mul (columns ∷ []) a b) ∙ e) (sym (value_mul (row ∷ []) a b) ∙ f)

  typed_form : (y : Expr-F ((e : Expr) × Typed columns row kinds e)) → Typed columns row kinds (roll-Expr (map-Expr ((e : Expr) × Typed columns row kinds e) Expr (λ e. e.0) y))
  typed_form (Expr-F.Lit w) = subst (Typed columns row kinds) (sym (expr.rolls-Lit w)) (typed_lit w)
  typed_form (Expr-F.Col c) = subst (Typed columns row kinds) (sym (expr.rolls-Col c)) (typed_col c)
  typed_form (Expr-F.Add a b) = subst (Typed columns row kinds) (sym (expr.rolls-Add a.0 b.0)) (typed_add a.0 b.0)
  typed_form (Expr-F.Sub a b) = subst (Typed columns row kinds) (sym (expr.rolls-Sub a.0 b.0)) (typed_sub a.0 b.0)
  typed_form (Expr-F.Mul a b) = subst (Typed columns row kinds) (sym (expr.rolls-Mul a.0 b.0)) (typed_mul a.0 b.0)

  pub typed : (e : Expr) → Typed columns row kinds e
  typed = ind-Expr (Typed columns row kinds) (λ x y is. subst (λ z. Typed columns row kinds (roll-Expr z)) is (typed_form y))

-- ---- a value in its column

of_same_kind : (a b : ColKind) (v : Value) → same_kind a b ≡ true → is_of_kind b v ≡ true → is_of_kind a v ≡ true
of_same_kind kind.Int kind.Int v e f = f
of_same_kind kind.Int kind.Text v e f = cc
of_same_kind kind.Text kind.Int v e f = cc
of_same_kind kind.Text kind.Text v e f = f

agreeing : (a : ColKind) (k : Option ColKind) (v : Value) → agree (Some a) k ≡ true → Is k v → is_of_kind a v ≡ true
agreeing a None v e f = ap (is_of_kind a) f
agreeing a (Some b) v e f = of_same_kind a b v e f

agreeing_kinds : (a : ColKind) (k : Kind) → both_agree (Some (Some a)) k ≡ true → (o : Option ColKind) × (k ≡ Some o) × (agree (Some a) o ≡ true)
agreeing_kinds a None e = cc
agreeing_kinds a (Some o) e = (o, refl, e)

taken_ok : (d : ColumnDef) (c : ℕ) (w v : Value) (b : Bool) → refuses (d, w) ≡ b → cond b (Err (NullRefused (c + 1))) (Ok w) ≡ Ok v → (w ≡ v) × (b ≡ false)
taken_ok d c w v true e f = cc
taken_ok d c w v false e f = (cc, refl)

module _ (columns : List ColumnDef) (old : List Value) (kinds : list_all (λ (p : ColumnDef × Value). is_of_kind p.0.kind p.1) (zip columns old) ≡ true) where
  -- what an assignment gives may stand in its column
  set_by : (a : Set) (o : Option ColumnDef) (r : Result Value RunError) (v : Value) → slice_get columns a.column ≡ o → value_of a.value (old ∷ []) ≡ r
      → both_agree (option_map (λ (d : ColumnDef). Some d.kind) o) (expr_kind (columns ∷ []) a.value) ≡ true → and_then r (taken o a.column) ≡ Ok v
      → (d : ColumnDef) × (slice_get columns a.column ≡ Some d) × (is_of_kind d.kind v ≡ true) × (refuses (d, v) ≡ false)
  set_by a None r v there was fit e = cc
  set_by a (Some d) (Err x) v there was fit e = cc
  set_by a (Some d) (Ok w) v there was fit e =
      let kept = taken_ok d a.column w v (refuses (d, w)) refl e in
      let k = agreeing_kinds d.kind (expr_kind (columns ∷ []) a.value) fit in
      let is = typed columns old kinds a.value k.0 w k.1 was in
      (d, there, subst (λ (x : Value). is_of_kind d.kind x ≡ true) kept.0 (agreeing d.kind k.0 w k.2 is), subst (λ (x : Value). refuses (d, x) ≡ false) kept.0 kept.1)

  set_ok : (a : Set) (v : Value) → set_fits (columns ∷ []) a ≡ true → set_value columns old a ≡ Ok v
      → (d : ColumnDef) × (slice_get columns a.column ≡ Some d) × (is_of_kind d.kind v ≡ true) × (refuses (d, v) ≡ false)
  set_ok a v fit e =
      set_by a (slice_get columns a.column) (value_of a.value (old ∷ [])) v refl refl
      (and_parts (nat_lt 0 a.column) (both_agree (column_kind (columns ∷ []) record { entry = 0; column = a.column }) (expr_kind (columns ∷ []) a.value)) fit).1 e

-- ---- a row with another value

abbrev fits_cell : ColumnDef × Value → Bool
fits_cell p = is_of_kind p.0.kind p.1

kinds_set : (columns : List ColumnDef) (row : List Value) (c : ℕ) (d : ColumnDef) (v : Value) → slice_get columns c ≡ Some d → is_of_kind d.kind v ≡ true
    → list_all fits_cell (zip columns row) ≡ true → list_all fits_cell (zip columns (slice_set row c v)) ≡ true
kinds_set [] row c d v there is h = refl
kinds_set (x ∷ columns) [] c d v there is h = refl
kinds_set (x ∷ columns) (w ∷ row) zero d v there is h =
    let same : x ≡ d = cc in
    and_from (is_of_kind x.kind v) (list_all fits_cell (zip columns row)) (ap (λ (y : ColumnDef). is_of_kind y.kind v) same ∙ is) (and_parts (is_of_kind x.kind w) (list_all fits_cell (zip columns row)) h).1
kinds_set (x ∷ columns) (w ∷ row) (suc c) d v there is h =
    let parts = and_parts (is_of_kind x.kind w) (list_all fits_cell (zip columns row)) h in
    and_from (is_of_kind x.kind w) (list_all fits_cell (zip columns (slice_set row c v))) parts.0 (kinds_set columns row c d v there is parts.1)

neither : (a b : Bool) → (a || b) ≡ false → (a ≡ false) × (b ≡ false)
neither true b e = cc
neither false b e = (refl, e)

pub nor : (a b : Bool) → a ≡ false → b ≡ false → (a || b) ≡ false
nor true b e f = cc
nor false b e f = f

none_set : (columns : List ColumnDef) (row : List Value) (c : ℕ) (d : ColumnDef) (v : Value) → slice_get columns c ≡ Some d → refuses (d, v) ≡ false
    → list_any refuses (zip columns row) ≡ false → list_any refuses (zip columns (slice_set row c v)) ≡ false
none_set [] row c d v there is h = refl
none_set (x ∷ columns) [] c d v there is h = refl
none_set (x ∷ columns) (w ∷ row) zero d v there is h =
    let same : x ≡ d = cc in
    nor (refuses (x, v)) (list_any refuses (zip columns row)) (ap (λ (y : ColumnDef). refuses (y, v)) same ∙ is) (neither (refuses (x, w)) (list_any refuses (zip columns row)) h).1
none_set (x ∷ columns) (w ∷ row) (suc c) d v there is h =
    let parts = neither (refuses (x, w)) (list_any refuses (zip columns row)) h in
    nor (refuses (x, w)) (list_any refuses (zip columns (slice_set row c v))) parts.0 (none_set columns row c d v there is parts.1)

pub size_set : {X : Type 0} (xs : List X) (i : ℕ) (x : X) → length (slice_set xs i x) ≡ length xs
size_set [] i x = refl
size_set (y ∷ ys) zero x = refl
size_set (y ∷ ys) (suc i) x = ap suc (size_set ys i x)

pub not_true : (b : Bool) → not b ≡ true → b ≡ false
not_true true e = cc
not_true false e = refl

row_set : (columns : List ColumnDef) (row : List Value) (c : ℕ) (d : ColumnDef) (v : Value) → slice_get columns c ≡ Some d → is_of_kind d.kind v ≡ true → refuses (d, v) ≡ false
    → row_holds columns row ≡ true → row_holds columns (slice_set row c v) ≡ true
row_set columns row c d v there is free h =
    let parts = and_parts (row_fits columns row) (not (list_any refuses (zip columns row))) h in
    let fit = and_parts (length row == length columns) (list_all fits_cell (zip columns row)) parts.0 in
    and_from (row_fits columns (slice_set row c v)) (not (list_any refuses (zip columns (slice_set row c v))))
    (and_from (length (slice_set row c v) == length columns) (list_all fits_cell (zip columns (slice_set row c v))) (ap (λ (n : ℕ). n == length columns) (size_set row c v) ∙ fit.0) (kinds_set columns row c d v there is fit.1))
    (ap not (none_set columns row c d v there free (not_true (list_any refuses (zip columns row)) parts.1)))

-- ---- UPDATE of a row

module _ (columns : List ColumnDef) (old : List Value) (kinds : list_all fits_cell (zip columns old) ≡ true) where
  assigned_by : (a : Set) (sets : List Set) (row : List Value) (r : Result Value RunError) (new : List Value) → set_value columns old a ≡ r → set_fits (columns ∷ []) a ≡ true → row_holds columns row ≡ true
      → ((next : List Value) → row_holds columns next ≡ true → assigned columns old sets next ≡ Ok new → row_holds columns new ≡ true)
      → and_then r (λ v. assigned columns old sets (slice_set row a.column v)) ≡ Ok new → row_holds columns new ≡ true
  assigned_by a sets row (Err d) new was fit h others e = cc
  assigned_by a sets row (Ok v) new was fit h others e =
      let ok = set_ok columns old kinds a v fit was in
      others (slice_set row a.column v) (row_set columns row a.column ok.0 v ok.1 ok.2 ok.3 h) e

  assigned_holds : (sets : List Set) (row new : List Value) → list_all (set_fits (columns ∷ [])) sets ≡ true → row_holds columns row ≡ true → assigned columns old sets row ≡ Ok new → row_holds columns new ≡ true
  assigned_holds [] row new fit h e = ap (row_holds columns) same ∙ h
    where
      same : new ≡ row
      same = cc
  assigned_holds (a ∷ sets) row new fit h e =
      let parts = and_parts (set_fits (columns ∷ []) a) (list_all (set_fits (columns ∷ [])) sets) fit in
      assigned_by a sets row (set_value columns old a) new refl parts.0 h (λ next on more. assigned_holds sets next new parts.1 on more) e

pub updated_holds : (columns : List ColumnDef) (s : UpdateStmt) → list_all (set_fits (columns ∷ [])) s.sets ≡ true → (row new : List Value) → row_holds columns row ≡ true
    → updated columns s row ≡ Ok new → row_holds columns new ≡ true
updated_holds columns s fit row new h e = by_test (is_kept s.filter (row ∷ [])) e
  where
    by_test : (b : Bool) → cond b (assigned columns row s.sets row) (Ok row) ≡ Ok new → row_holds columns new ≡ true
    by_test true f =
        let parts = and_parts (row_fits columns row) (not (list_any refuses (zip columns row))) h in
        assigned_holds columns row (and_parts (length row == length columns) (list_all fits_cell (zip columns row)) parts.0).1 s.sets row new fit h f
    by_test false f = ap (row_holds columns) same ∙ h
      where
        same : new ≡ row
        same = cc
