-- The answer of a SELECT is the same, in whatever order the rows or pairs that it keeps are looked at.
use Rattle.std.proofs.Common.{◌≡◌, ℤ, ◌+ℤ◌, ◌-ℤ◌, ◌*ℤ◌, Bool, true, false, ◌||◌, cond, not, nat_lt, nat_le, ◌&&◌, length, List, [], ◌∷◌, map, refl, ap, sym, subst, ◌∙◌}
use Rattle.std.specs.Prelude.{Result, Ok, Err}
use Rattle.std.specs.List.{list_any, list_all}
use Rattle.std.specs.List.Sorted.{IsPermutation}
use Rattle.std.proofs.lemmas.Bool.{and_parts}
use Rattle.std.proofs.lemmas.List.{length-map}
use Rattle.std.proofs.lemmas.List.Sorted.{IsPermutation-refl, IsPermutation-map, length_permutation, list_any-IsPermutation}
use Rattle.hr_base.specs.Lists.{is_empty}
use Rattle.hr_base.specs.declared.limits.TheConstants.{MAX_ROWS, MAX_ITEMS}
use Rattle.hr_rel.specs.declared.value.Value.{Value}
use Rattle.hr_rel.specs.declared.value.Value.TheVariants as value
use Rattle.hr_rel.specs.declared.answer.Answer.{Answer}
use Rattle.hr_rel.specs.declared.answer.Answer.TheVariants.{Rows, Count, Failed}
use Rattle.hr_rel.specs.declared.answer.RunError.{RunError}
use Rattle.hr_rel.specs.declared.answer.RunError.TheVariants.{Overflow, TooManyRows, Unfit}
use Rattle.hr_rel.specs.declared.expr.ColRef.{ColRef}
use Rattle.hr_rel.specs.declared.expr.Expr.{Expr, roll-Expr, map-Expr, ind-Expr}
use Rattle.hr_rel.specs.declared.expr.Expr.TheVariants as expr
use Rattle.hr_rel.specs.declared.expr.Expr.TheOpen.{Expr-F}
use Rattle.hr_rel.specs.declared.stmt.Item.{Item}
use Rattle.hr_rel.specs.declared.stmt.Item.TheVariants as item
use Rattle.hr_rel.specs.declared.stmt.SelectStmt.{SelectStmt}
use Rattle.hr_rel.specs.declared.stmt.Stmt.TheVariants as stmt
use Rattle.hr_rel.specs.Database.{Database}
use Rattle.hr_rel.specs.Kinds.{fits_i64}
use Rattle.hr_rel.specs.Fit.{Entries, entries_of, has_table, has_column, filter_fits, is_joined, is_grouped, is_plain, item_fits, items_fit, fits}
use Rattle.hr_meaning.specs.Truth.{Tuple}
use Rattle.hr_meaning.specs.Value.{and_then, each, combined, operation, value_of}
use Rattle.hr_meaning.specs.Select.{values_of, exact_sum, sum_value, item_value, group_row, plain_row, few, shown, group_of, ascending, members, groups_of, answer_from}
use Rattle.hr_meaning.specs.Exec.{exec, meaning, failed}
use Rattle.hr_meaning.specs.Exec as run
use Rattle.hr_meaning.specs.SameAnswer.{SameAnswer}
use Rattle.hr_meaning.proofs.Folds.{value_lit, value_col, value_add, value_sub, value_mul}
use Rattle.hr_statement_laws.specs.Groups.{is_of_group, shows_groups}
use Rattle.hr_statement_laws.proofs.Groups.{StartsIn, groups_alike, members_permuted, members_start}
use Rattle.hr_statement_laws.proofs.Items.{row_alike, all_show}

-- ---- rows fail by Overflow alone

number_err : (n : ℤ) (d : RunError) (b : Bool) → cond b (Ok (value.Int n)) (Err Overflow) ≡ Err d → d ≡ Overflow
number_err n d true e = cc
number_err n d false e = cc

combined_err : (f : ℤ → ℤ → ℤ) (x y : Value) (d : RunError) → combined f x y ≡ Err d → d ≡ Overflow
combined_err f (value.Int m) (value.Int n) d e = number_err (f m n) d (fits_i64 (f m n)) e
combined_err f (value.Int m) value.Null d e = cc
combined_err f (value.Int m) (value.Text t) d e = cc
combined_err f value.Null y d e = cc
combined_err f (value.Text s) y d e = cc

-- the errors of a result are Overflow
abbrev Overflows : {X : Type 0} → Result X RunError → Type 0
Overflows r = (d : RunError) → r ≡ Err d → d ≡ Overflow

operation_err : (f : ℤ → ℤ → ℤ) (a b : Result Value RunError) → Overflows a → Overflows b → Overflows (operation f a b)
operation_err f (Err x) b on_a on_b d e = on_a d e
operation_err f (Ok x) (Err y) on_a on_b d e = on_b d e
operation_err f (Ok x) (Ok y) on_a on_b d e = combined_err f x y d e

abbrev OfRows : Expr → Type 0
OfRows e = (rows : Tuple) → Overflows (value_of e rows)

lit_err : (v : Value) → OfRows (expr.Lit v)
lit_err v rows d e =
    let told = sym (value_lit rows v) ∙ e in cc

col_err : (c : ColRef) → OfRows (expr.Col c)
col_err c rows d e =
    let told = sym (value_col rows c) ∙ e in cc

value_form : (y : Expr-F ((e : Expr) × OfRows e)) → OfRows (roll-Expr (map-Expr ((e : Expr) × OfRows e) Expr (λ e. e.0) y))
value_form (Expr-F.Lit w) = subst OfRows (sym (expr.rolls-Lit w)) (lit_err w)
value_form (Expr-F.Col c) = subst OfRows (sym (expr.rolls-Col c)) (col_err c)
value_form (Expr-F.Add a b) = subst OfRows (sym (expr.rolls-Add a.0 b.0))
    (λ rows d e. operation_err (λ m n. m +ℤ n) (value_of a.0 rows) (value_of b.0 rows) (a.1 rows) (b.1 rows) d (sym (value_add rows a.0 b.0) ∙ e))
value_form (Expr-F.Sub a b) = subst OfRows (sym (expr.rolls-Sub a.0 b.0))
    (λ rows d e. operation_err (λ m n. m -ℤ n) (value_of a.0 rows) (value_of b.0 rows) (a.1 rows) (b.1 rows) d (sym (value_sub rows a.0 b.0) ∙ e))
value_form (Expr-F.Mul a b) = subst OfRows (sym (expr.rolls-Mul a.0 b.0))
    (λ rows d e. operation_err (λ m n. m *ℤ n) (value_of a.0 rows) (value_of b.0 rows) (a.1 rows) (b.1 rows) d (sym (value_mul rows a.0 b.0) ∙ e))

value_err : (e : Expr) → OfRows e
value_err = ind-Expr OfRows (λ x y is. subst (λ z. OfRows (roll-Expr z)) is (value_form y))

sum_err : (vs : List Value) → Overflows (sum_value vs)
sum_err [] d e = cc
sum_err (v ∷ vs) d e = number_err (exact_sum (v ∷ vs)) d (fits_i64 (exact_sum (v ∷ vs))) e

item_err : (t : Tuple) (i : Item) → Overflows (item_value (t ∷ []) i)
item_err t (item.Plain x) d e = value_err x t d e
item_err t item.CountAll d e = cc
item_err t (item.Count c) d e = cc
item_err t (item.Sum c) d e = sum_err (values_of c (t ∷ [])) d e
item_err t (item.Min c) d e = cc
item_err t (item.Max c) d e = cc

module _ {X Y : Type 0} (f : X → Result Y RunError) (errors : (x : X) → Overflows (f x)) where
  each_err_by : (r : Result Y RunError) (rest : Result (List Y) RunError) → Overflows r → Overflows rest → Overflows (and_then r (λ y. and_then rest (λ ys. Ok (y ∷ ys))))
  each_err_by (Err x) rest one others d e = one d (by_first e)
    where
      by_first : ◌≡◌ {A = Result (List Y) RunError} (Err x) (Err d) → ◌≡◌ {A = Result Y RunError} (Err x) (Err d)
      by_first g = cc
  each_err_by (Ok y) (Err x) one others d e = others d e
  each_err_by (Ok y) (Ok ys) one others d e = cc

  each_err : (xs : List X) → Overflows (each f xs)
  each_err [] d e = cc
  each_err (x ∷ xs) d e = each_err_by (f x) (each f xs) (errors x) (each_err xs) d e

-- ---- all results, or Overflow

fails : {Y : Type 0} → Result (List Y) RunError → Bool
fails (Ok y) = false
fails (Err d) = true

given : {Y : Type 0} → Result (List Y) RunError → List Y
given (Ok y) = y
given (Err d) = []

module _ {X Y : Type 0} (f : X → Result (List Y) RunError) (errors : (x : X) → Overflows (f x)) where
  all_by : (r : Result (List Y) RunError) (rest : Result (List (List Y)) RunError) (b : Bool) (ys : List (List Y)) → Overflows r → rest ≡ cond b (Err Overflow) (Ok ys)
      → and_then r (λ y. and_then rest (λ more. Ok (y ∷ more))) ≡ cond (fails r || b) (Err Overflow) (Ok (given r ∷ ys))
  unfolding fails given
  all_by (Err d) rest b ys one e = ap Err (one d refl)
  all_by (Ok y) rest true ys one e = ap (λ (r : Result (List (List Y)) RunError). and_then r (λ more. Ok (y ∷ more))) e
  all_by (Ok y) rest false ys one e = ap (λ (r : Result (List (List Y)) RunError). and_then r (λ more. Ok (y ∷ more))) e

  -- each gives a list, or one of them fails, by Overflow
  all_or_overflow : (xs : List X) → each f xs ≡ cond (list_any (λ x. fails (f x)) xs) (Err Overflow) (Ok (map (λ x. given (f x)) xs))
  all_or_overflow [] = refl
  all_or_overflow (x ∷ xs) = all_by (f x) (each f xs) (list_any (λ x. fails (f x)) xs) (map (λ x. given (f x)) xs) (errors x) (all_or_overflow xs)

-- ---- answers

abbrev outcome : Bool → Bool → List (List Value) → Answer
outcome many failing rows = cond many (Failed TooManyRows) (shown (cond failing (Err Overflow) (Ok rows)))

same_outcome : (many failing : Bool) (rows others : List (List Value)) → IsPermutation rows others → SameAnswer (outcome many failing rows) (outcome many failing others)
same_outcome true failing rows others same = refl
same_outcome false true rows others same = refl
same_outcome false false rows others same = same

module _ (items : List Item) where
  row_err : (t : Tuple) → Overflows (plain_row items t)
  row_err t = each_err (item_value (t ∷ [])) (item_err t) items

  abbrev failing : List Tuple → Bool
  failing kept = list_any (λ t. fails (plain_row items t)) kept

  abbrev rows_of : List Tuple → List (List Value)
  rows_of kept = map (λ t. given (plain_row items t)) kept

  few_is : (kept : List Tuple) → few (plain_row items) kept ≡ outcome (nat_lt MAX_ROWS (length kept)) (failing kept) (rows_of kept)
  few_is kept = ap (λ (r : Result (List (List Value)) RunError). cond (nat_lt MAX_ROWS (length kept)) (Failed TooManyRows) (shown r)) (all_or_overflow (plain_row items) row_err kept)

  few_same : (kept others : List Tuple) → IsPermutation kept others → SameAnswer (few (plain_row items) kept) (few (plain_row items) others)
  few_same kept others same =
      let size = length_permutation kept others same in
      let fail = list_any-IsPermutation (λ t. fails (plain_row items t)) kept others same in
      let on_kept = few_is kept in
      let on_others : few (plain_row items) others ≡ outcome (nat_lt MAX_ROWS (length kept)) (failing kept) (rows_of others) =
      few_is others ∙ (λ i. outcome (nat_lt MAX_ROWS (size i)) (sym fail i) (rows_of others)) in
      subst (λ (a : Answer). SameAnswer a (few (plain_row items) others)) (sym on_kept)
      (subst (λ (a : Answer). SameAnswer (outcome (nat_lt MAX_ROWS (length kept)) (failing kept) (rows_of kept)) a) (sym on_others)
      (same_outcome (nat_lt MAX_ROWS (length kept)) (failing kept) (rows_of kept) (rows_of others) (IsPermutation-map (λ t. given (plain_row items t)) kept others same)))

no_groups : (a b : Bool) → (a || b) ≡ false → a ≡ false
no_groups true b e = cc
no_groups false b e = refl

pub plain_in_any_order : (s : SelectStmt) (kept others : List Tuple) → is_grouped s ≡ false → IsPermutation kept others → SameAnswer (answer_from s kept) (answer_from s others)
plain_in_any_order s kept others plain same =
    let none = no_groups (not (is_empty s.groups)) (list_any (λ (i : Item). not (is_plain i)) s.items) plain in
    let as_rows : (ts : List Tuple) → answer_from s ts ≡ few (plain_row s.items) ts = λ ts.
    (λ i. cond (none i) (few (group_row s.items) (groups_of s.groups ts)) (cond (plain i) (few (group_row s.items) (ts ∷ [])) (few (plain_row s.items) ts))) in
    subst (λ (a : Answer). SameAnswer a (answer_from s others)) (sym (as_rows kept))
    (subst (λ (a : Answer). SameAnswer (few (plain_row s.items) kept) a) (sym (as_rows others)) (few_same s.items kept others same))

-- ---- groups, and aggregates alone

module _ (items : List Item) (f h : List Value → List Tuple) (alike : (g : List Value) → group_row items (f g) ≡ group_row items (h g)) where
  each_alike : (gs : List (List Value)) → each (group_row items) (map f gs) ≡ each (group_row items) (map h gs)
  each_alike [] = refl
  each_alike (g ∷ gs) = λ i. and_then (alike g i) (λ row. and_then (each_alike gs i) (λ rows. Ok (row ∷ rows)))

  few_alike : (gs : List (List Value)) → few (group_row items) (map f gs) ≡ few (group_row items) (map h gs)
  few_alike gs =
      let size = length-map gs f ∙ sym (length-map gs h) in
      λ i. cond (nat_lt MAX_ROWS (size i)) (Failed TooManyRows) (shown (each_alike gs i))

module _ (items : List Item) (kept others : List Tuple) (same : IsPermutation kept others) where
  abbrev one_row : Result (List Value) RunError → Answer
  one_row r = cond (nat_lt MAX_ROWS 1) (Failed TooManyRows) (shown (and_then r (λ row. Ok (row ∷ []))))

  alone_alike : list_all (is_of_group []) items ≡ true → few (group_row items) (kept ∷ []) ≡ few (group_row items) (others ∷ [])
  alone_alike fit =
      ap one_row (row_alike [] [] kept others same (in_no_group kept) (in_no_group others) items fit)
    where
      in_no_group : (ts : List Tuple) → StartsIn [] [] ts
      in_no_group [] = tt
      in_no_group (t ∷ ts) = refl

  each_group_alike : (groups : List ColRef) → list_all (is_of_group groups) items ≡ true → few (group_row items) (groups_of groups kept) ≡ few (group_row items) (groups_of groups others)
  each_group_alike groups fit =
      let rows = λ (g : List Value). row_alike groups g (members groups kept g) (members groups others g) (members_permuted groups g kept others same) (members_start groups g kept) (members_start groups g others) items fit in
      few_alike items (members groups kept) (members groups others) rows (ascending (map (group_of groups) kept))
      ∙ ap (λ gs. few (group_row items) (map (members groups others) gs)) (groups_alike groups kept others same)

  -- what a SELECT that groups answers, of rows
  abbrev grouped_answer : List ColRef → List Tuple → Answer
  grouped_answer groups ts = cond (not (is_empty groups)) (few (group_row items) (groups_of groups ts)) (few (group_row items) (ts ∷ []))

  grouped_alike : (groups : List ColRef) → list_all (is_of_group groups) items ≡ true → grouped_answer groups kept ≡ grouped_answer groups others
  grouped_alike [] fit = alone_alike fit
  grouped_alike (c ∷ groups) fit = each_group_alike (c ∷ groups) fit

pub grouped_in_any_order : (s : SelectStmt) (kept others : List Tuple) → is_grouped s ≡ true → shows_groups s ≡ true → IsPermutation kept others → answer_from s kept ≡ answer_from s others
grouped_in_any_order s kept others grouped shows same =
    let as_groups : (ts : List Tuple) → answer_from s ts ≡ grouped_answer s.items kept others same s.groups ts = λ ts.
    (λ i. cond (not (is_empty s.groups)) (few (group_row s.items) (groups_of s.groups ts)) (cond (grouped i) (few (group_row s.items) (ts ∷ [])) (few (plain_row s.items) ts))) in
    as_groups kept ∙ grouped_alike s.items kept others same s.groups shows ∙ sym (as_groups others)

-- ---- every SELECT that fits

same_itself : (a : Answer) → SameAnswer a a
same_itself (Rows rows) = IsPermutation-refl rows
same_itself (Count n) = refl
same_itself (Failed e) = refl

pub fitting_in_any_order : (entries : Entries) (s : SelectStmt) (kept others : List Tuple) → items_fit entries s ≡ true → IsPermutation kept others → SameAnswer (answer_from s kept) (answer_from s others)
fitting_in_any_order entries s kept others fit same = by_groups (is_grouped s) refl
  where
    by_groups : (b : Bool) → is_grouped s ≡ b → SameAnswer (answer_from s kept) (answer_from s others)
    by_groups true e =
        let each_fits = (and_parts (not (is_empty s.items) && nat_le (length s.items) MAX_ITEMS) (list_all (item_fits entries s) s.items) fit).1 in
        let alike = grouped_in_any_order s kept others e (all_show entries s e s.items each_fits) same in
        subst (λ (a : Answer). SameAnswer (answer_from s kept) a) alike (same_itself (answer_from s kept))
    by_groups false e = plain_in_any_order s kept others e same

pub exec_in_any_order : (db : Database) (s : SelectStmt) (others : List Tuple) → fits db.catalog (stmt.Select s) ≡ true → IsPermutation (run.kept db s) others → SameAnswer (exec db (stmt.Select s)).answer (answer_from s others)
exec_in_any_order db s others fit same =
    let entries = entries_of db.catalog s.tables in
    let items = and_parts (is_joined s.tables s.on && list_all (has_table db.catalog) s.tables && filter_fits entries s.on && filter_fits entries s.filter && list_all (has_column entries) s.groups) (items_fit entries s) fit in
    let runs : (exec db (stmt.Select s)).answer ≡ answer_from s (run.kept db s) = ap (λ b. (cond b (meaning db (stmt.Select s)) (failed db Unfit)).answer) fit in
    subst (λ (a : Answer). SameAnswer a (answer_from s others)) (sym runs) (fitting_in_any_order entries s (run.kept db s) others items.1 same)
