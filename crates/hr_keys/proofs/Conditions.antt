-- What a condition that asks for a key keeps.
use Rattle.std.proofs.Common.{◌≡◌, ℕ, ℤ, Bool, true, false, ◌||◌, ◌==◌, cond, List, [], ◌∷◌, refl, ap, sym, ◌∙◌, eqb-true}
use Rattle.std.specs.Prelude.{Option, Some, int_lt}
use Rattle.std.specs.Ordering.{is_eq, int_eq}
use Rattle.std.specs.declared.cmp.Ordering.TheVariants.{Less, Equal, Greater}
use Rattle.std.specs.List.{list_any}
use Rattle.std.proofs.lemmas.Bool.{and_parts, or_parts}
use Rattle.hr_rel.specs.declared.value.Value.{Value}
use Rattle.hr_rel.specs.declared.value.Value.TheVariants.{Null, Int, Text}
use Rattle.hr_rel.specs.declared.expr.ColRef.{ColRef}
use Rattle.hr_rel.specs.declared.expr.Op.TheVariants.{Eq}
use Rattle.hr_rel.specs.declared.expr.Operand.TheVariants.{Col, Lit}
use Rattle.hr_rel.specs.declared.expr.Pred.{Pred}
use Rattle.hr_rel.specs.declared.expr.Pred.TheVariants.{Compare, And}
use Rattle.hr_meaning.specs.declared.truth.Truth.{Truth}
use Rattle.hr_meaning.specs.declared.truth.Truth.TheVariants.{True, False, Unknown}
use Rattle.hr_meaning.specs.Truth.{truth_of, is_true, both, compared, column_value, is_kept}
use Rattle.hr_meaning.specs.Insert.{has_key}
use Rattle.hr_meaning.proofs.Folds.{truth_compare, truth_and}
use Rattle.hr_keys.specs.Keys.{Asks, is_key_column, IsClear}

-- ---- AND

left_true : (a b : Truth) → is_true (both a b) ≡ true → is_true a ≡ true
left_true True b h = refl
left_true False b h = cc
left_true Unknown True h = cc
left_true Unknown False h = cc
left_true Unknown Unknown h = cc

right_true : (a b : Truth) → is_true (both a b) ≡ true → is_true b ≡ true
right_true True b h = h
right_true False b h = cc
right_true Unknown True h = refl
right_true Unknown False h = cc
right_true Unknown Unknown h = cc

pub asks_left : (n : ℤ) (a b : Pred) → Asks n (Some a) → Asks n (Some (And a b))
asks_left n a b h row k = h row (left_true (truth_of a (row ∷ [])) (truth_of b (row ∷ [])) (ap is_true (sym (truth_and (row ∷ []) a b)) ∙ k))

pub asks_right : (n : ℤ) (a b : Pred) → Asks n (Some b) → Asks n (Some (And a b))
asks_right n a b h row k = h row (right_true (truth_of a (row ∷ [])) (truth_of b (row ∷ [])) (ap is_true (sym (truth_and (row ∷ []) a b)) ∙ k))

-- ---- the key beside a number

turned : (x y : Bool) → is_eq (cond x Less (cond y Greater Equal)) ≡ is_eq (cond y Less (cond x Greater Equal))
turned true true = refl
turned true false = refl
turned false true = refl
turned false false = refl

key_first : (n : ℤ) (row : List Value) → is_true (compared Eq (column_value (row ∷ []) record { entry = 0; column = 0 }) (Int n)) ≡ true → has_key n row ≡ true
key_first n [] h = cc
key_first n (Null ∷ row) h = cc
key_first n (Text t ∷ row) h = cc
key_first n (Int m ∷ row) h = by_test (int_eq m n) refl
  where
    by_test : (b : Bool) → int_eq m n ≡ b → int_eq m n ≡ true
    by_test true e = e
    by_test false e = cc

key_last : (n : ℤ) (row : List Value) → is_true (compared Eq (Int n) (column_value (row ∷ []) record { entry = 0; column = 0 })) ≡ true → has_key n row ≡ true
key_last n [] h = cc
key_last n (Null ∷ row) h = cc
key_last n (Text t ∷ row) h = cc
key_last n (Int m ∷ row) h = turned (int_lt m n) (int_lt n m) ∙ by_test (int_eq n m) refl
  where
    by_test : (b : Bool) → int_eq n m ≡ b → int_eq n m ≡ true
    by_test true e = e
    by_test false e = cc

key_column : (c : ColRef) → is_key_column c ≡ true → c ≡ record { entry = 0; column = 0 }
key_column c h =
    let parts = and_parts (c.entry == 0) (c.column == 0) h in
    λ i. record { entry = eqb-true c.entry 0 parts.0 i; column = eqb-true c.column 0 parts.1 i }

pub asks_first : (n : ℤ) (c : ColRef) → is_key_column c ≡ true → Asks n (Some (Compare Eq (Col c) (Lit (Int n))))
asks_first n c h row k =
    key_first n row (ap (λ (d : ColRef). is_true (compared Eq (column_value (row ∷ []) d) (Int n))) (sym (key_column c h)) ∙ ap is_true (sym (truth_compare (row ∷ []) Eq (Col c) (Lit (Int n)))) ∙ k)

pub asks_last : (n : ℤ) (c : ColRef) → is_key_column c ≡ true → Asks n (Some (Compare Eq (Lit (Int n)) (Col c)))
asks_last n c h row k =
    key_last n row (ap (λ (d : ColRef). is_true (compared Eq (Int n) (column_value (row ∷ []) d))) (sym (key_column c h)) ∙ ap is_true (sym (truth_compare (row ∷ []) Eq (Lit (Int n)) (Col c))) ∙ k)

-- ---- rows without the key aren't kept

not_kept : (a b : Bool) → a ≡ false → (b ≡ true → a ≡ true) → b ≡ false
not_kept a true e h = sym (h refl) ∙ e
not_kept a false e h = refl

nor : (a b : Bool) → a ≡ false → b ≡ false → (a || b) ≡ false
nor true b e f = cc
nor false b e f = f

module _ (p q : List Value → Bool) (h : (row : List Value) → q row ≡ true → p row ≡ true) where
  none_of : (rows : List (List Value)) → list_any p rows ≡ false → list_any q rows ≡ false
  none_of [] e = refl
  none_of (row ∷ rows) e =
      let parts = or_parts (p row) (list_any p rows) e in
      nor (q row) (list_any q rows) (not_kept (p row) (q row) parts.0 (h row)) (none_of rows parts.1)

pub clear_of_kept : (n : ℤ) (filter : Option Pred) (from to : ℕ) (rows : List (List Value)) → Asks n filter → IsClear (has_key n) from to rows → IsClear (λ row. is_kept filter (row ∷ [])) from to rows
clear_of_kept n filter from to rows asks clear = (none_of (has_key n) (λ row. is_kept filter (row ∷ [])) asks _ clear.0, none_of (has_key n) (λ row. is_kept filter (row ∷ [])) asks _ clear.1)
