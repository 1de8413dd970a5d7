-- What an item shows of rows in any order: a plain one the column of GROUP BY that it is, which is the same in all rows of a group.
use Rattle.std.proofs.Common.{◌≡◌, ℕ, pos, Bool, true, false, ◌==◌, ◌||◌, not, length, List, [], ◌∷◌, refl, ap, sym, ◌∙◌, eqb-true, unwrap_or, slice_get}
use Rattle.std.specs.Prelude.{Ok}
use Rattle.std.specs.List.{list_any, list_all}
use Rattle.std.specs.List.Sorted.{IsPermutation}
use Rattle.std.proofs.lemmas.Bool.{and_parts, and_from}
use Rattle.std.proofs.lemmas.List.Sorted.{length_permutation}
use Rattle.hr_rel.specs.declared.value.Value.{Value}
use Rattle.hr_rel.specs.declared.value.Value.TheVariants as value
use Rattle.hr_rel.specs.declared.expr.ColRef.{ColRef}
use Rattle.hr_rel.specs.declared.expr.Expr as expr
use Rattle.hr_rel.specs.declared.stmt.Item.{Item}
use Rattle.hr_rel.specs.declared.stmt.Item.TheVariants as item
use Rattle.hr_rel.specs.declared.stmt.SelectStmt.{SelectStmt}
use Rattle.hr_rel.specs.Database.{value_at}
use Rattle.hr_rel.specs.Fit.{Entries, is_grouped, same_column, column_in, is_group, item_fits}
use Rattle.hr_meaning.specs.Truth.{Tuple, column_value}
use Rattle.hr_meaning.specs.Value.{and_then, value_of}
use Rattle.hr_meaning.specs.Select.{values_of, first_value, item_value, group_of, group_row}
use Rattle.hr_meaning.proofs.Folds.{value_col}
use Rattle.hr_statement_laws.specs.Groups.{is_of_group}
use Rattle.hr_statement_laws.proofs.Aggregates.{values_permuted, sum_in_any_order, least_in_any_order, greatest_in_any_order}
use Rattle.hr_statement_laws.proofs.Groups.{StartsIn}

-- ---- a column of GROUP BY

same_place : (t : Tuple) (c g : ColRef) → same_column c g ≡ true → column_value t c ≡ column_value t g
same_place t c g e =
    let parts = and_parts (c.entry == g.entry) (c.column == g.column) e in
    let entry = eqb-true c.entry g.entry parts.0 in
    let column = eqb-true c.column g.column parts.1 in
    λ i. value_at (column i) (unwrap_or (slice_get t (entry i)) [])

first_item : List Value → Value
first_item [] = value.Null
first_item (v ∷ vs) = v

other_items : List Value → List Value
other_items [] = []
other_items (v ∷ vs) = vs

module _ (t u : Tuple) (c : ColRef) where
  this_or_other : (g : ColRef) (b more : Bool) → same_column c g ≡ b → (b || more) ≡ true → column_value t g ≡ column_value u g
      → (more ≡ true → column_value t c ≡ column_value u c) → column_value t c ≡ column_value u c
  this_or_other g true more e any here there = same_place t c g e ∙ here ∙ sym (same_place u c g e)
  this_or_other g false more e any here there = there any

  -- rows of one group have the same values in its columns
  same_in_group : (groups : List ColRef) → list_any (λ (g : ColRef). same_column c g) groups ≡ true → group_of groups t ≡ group_of groups u → column_value t c ≡ column_value u c
  unfolding first_item other_items
  same_in_group [] any same = cc
  same_in_group (g ∷ groups) any same =
      this_or_other g (same_column c g) (list_any (λ (h : ColRef). same_column c h) groups) refl any (ap first_item same)
      (λ other. same_in_group groups other (ap other_items same))

module _ (groups : List ColRef) where
  value_alike : (e : expr.Expr) (t u : Tuple) → is_group groups (column_in e) ≡ true → group_of groups t ≡ group_of groups u → value_of e t ≡ value_of e u
  value_alike (expr.Col c) t u shown same = value_col t c ∙ ap Ok (same_in_group t u c groups shown same) ∙ sym (value_col u c)
  value_alike _ t u shown same = cc

  module _ (g : List Value) where
    first_alike : (e : expr.Expr) → is_group groups (column_in e) ≡ true → (ts us : List Tuple) → length us ≡ length ts → StartsIn groups g ts → StartsIn groups g us → first_value e ts ≡ first_value e us
    first_alike e shown [] [] size h k = refl
    first_alike e shown [] (u ∷ us) size h k = cc
    first_alike e shown (t ∷ ts) [] size h k = cc
    first_alike e shown (t ∷ ts) (u ∷ us) size h k = value_alike e t u shown (h ∙ sym k)

    item_alike : (ts us : List Tuple) → IsPermutation ts us → StartsIn groups g ts → StartsIn groups g us → (i : Item) → is_of_group groups i ≡ true → item_value ts i ≡ item_value us i
    item_alike ts us same h k (item.Plain e) shown = first_alike e shown ts us (length_permutation ts us same) h k
    item_alike ts us same h k item.CountAll shown = ap (λ (n : ℕ). Ok (value.Int (pos n))) (sym (length_permutation ts us same))
    item_alike ts us same h k (item.Count c) shown =
        ap (λ (n : ℕ). Ok (value.Int (pos n))) (sym (length_permutation (values_of c ts) (values_of c us) (values_permuted c ts us same)))
    item_alike ts us same h k (item.Sum c) shown = sum_in_any_order (values_of c ts) (values_of c us) (values_permuted c ts us same)
    item_alike ts us same h k (item.Min c) shown = ap Ok (least_in_any_order (values_of c ts) (values_of c us) (values_permuted c ts us same))
    item_alike ts us same h k (item.Max c) shown = ap Ok (greatest_in_any_order (values_of c ts) (values_of c us) (values_permuted c ts us same))

    -- a group's row is the same, in whatever order its rows are looked at
    pub row_alike : (ts us : List Tuple) → IsPermutation ts us → StartsIn groups g ts → StartsIn groups g us → (items : List Item) → list_all (is_of_group groups) items ≡ true → group_row items ts ≡ group_row items us
    row_alike ts us same h k [] shown = refl
    row_alike ts us same h k (i ∷ items) shown =
        let parts = and_parts (is_of_group groups i) (list_all (is_of_group groups) items) shown in
        let one = item_alike ts us same h k i parts.0 in
        let others = row_alike ts us same h k items parts.1 in
        λ j. and_then (one j) (λ v. and_then (others j) (λ vs. Ok (v ∷ vs)))

-- ---- items that fit

module _ (entries : Entries) (s : SelectStmt) (grouped : is_grouped s ≡ true) where
  fit_shows : (i : Item) → item_fits entries s i ≡ true → is_of_group s.groups i ≡ true
  fit_shows (item.Plain e) fit =
      sym (ap (λ b. not b || is_group s.groups (column_in e)) grouped) ∙ (and_parts _ (not (is_grouped s) || is_group s.groups (column_in e)) fit).1
  fit_shows item.CountAll fit = refl
  fit_shows (item.Count c) fit = refl
  fit_shows (item.Sum c) fit = refl
  fit_shows (item.Min c) fit = refl
  fit_shows (item.Max c) fit = refl

  pub all_show : (items : List Item) → list_all (item_fits entries s) items ≡ true → list_all (is_of_group s.groups) items ≡ true
  all_show [] fit = refl
  all_show (i ∷ items) fit =
      let parts = and_parts (item_fits entries s i) (list_all (item_fits entries s) items) fit in
      and_from (is_of_group s.groups i) (list_all (is_of_group s.groups) items) (fit_shows i parts.0) (all_show items parts.1)
