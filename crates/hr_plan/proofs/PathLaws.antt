-- A path finds what the statement keeps.
use Rattle.std.proofs.Common.{◌≡◌, ℕ, zero, suc, ◌+◌, ◌≤◌, ◌==◌, ℤ, Bool, true, false, ◌&&◌, ◌||◌, cond, not, nat_le, inl, inr, List, [], ◌∷◌, length, replicate, refl, ap, sym, subst, ◌∙◌, arith, eqb-true, leb-true}
use Rattle.std.specs.Prelude.{Option, Some, None, int_le, int_lt, unwrap_or, slice_get, ◌⊎◌}
use Rattle.std.specs.Ordering.{int_cmp, nat_cmp, is_eq, is_ne, is_lt, is_le, is_gt, is_ge, ordering_then, ordering_reverse}
use Rattle.std.specs.declared.cmp.Ordering.{Ordering}
use Rattle.std.specs.declared.cmp.Ordering.TheVariants.{Less, Equal, Greater}
use Rattle.std.specs.Cmp.Lexicographic.{slice_cmp}
use Rattle.std.specs.List.{list_all, zip}
use Rattle.std.proofs.lemmas.Bool.{and_from, and_parts, both_ways, false_from_ne_true}
use Rattle.std.proofs.lemmas.Cmp.{upto, tied_itself}
use Rattle.std.proofs.lemmas.Int.{ints}
use Rattle.hr_base.specs.Bytes.{is_printable}
use Rattle.hr_base.specs.declared.limits.TheConstants.{MAX_TEXT_BYTES}
use Rattle.hr_rel.specs.declared.value.Value.{Value}
use Rattle.hr_rel.specs.declared.value.Value.TheVariants as value
use Rattle.hr_rel.specs.declared.catalog.Catalog.{Catalog}
use Rattle.hr_rel.specs.declared.catalog.ColumnDef.{ColumnDef}
use Rattle.hr_rel.specs.declared.catalog.ColKind.{ColKind}
use Rattle.hr_rel.specs.declared.catalog.ColKind.TheVariants as kind
use Rattle.hr_rel.specs.declared.expr.ColRef.{ColRef}
use Rattle.hr_rel.specs.declared.expr.Op.{Op}
use Rattle.hr_rel.specs.declared.expr.Op.TheVariants as op
use Rattle.hr_rel.specs.declared.expr.Operand.{Operand}
use Rattle.hr_rel.specs.declared.expr.Operand.TheVariants as operand
use Rattle.hr_rel.specs.declared.expr.Pred.{Pred, roll-Pred, map-Pred, ind-Pred, fold-roll-Pred}
use Rattle.hr_rel.specs.declared.expr.Pred.TheVariants as pred
use Rattle.hr_rel.specs.declared.expr.Pred.TheOpen.{Pred-F}
use Rattle.hr_rel.specs.Database.{value_at, key_of, columns_of}
use Rattle.hr_rel.specs.Kinds.{fits_i64, is_null, is_of_kind}
use Rattle.hr_rel.specs.Holds.{is_key, has_number_key, row_fits}
use Rattle.hr_meaning.specs.Order.{value_cmp}
use Rattle.hr_meaning.specs.Truth.{Tuple, column_value, operand_value, both, either, tested, passes, compared, truth_of, is_true, is_kept}
use Rattle.hr_meaning.specs.declared.truth.Truth.{Truth}
use Rattle.hr_meaning.specs.declared.truth.Truth.TheVariants.{True, False, Unknown}
use Rattle.hr_meaning.specs.Select.{lesser, greater}
use Rattle.hr_meaning.proofs.Folds.{truth_compare, truth_and, truth_or}
use Rattle.hr_answer.proofs.ValueOrder.{value_total}
use Rattle.hr_parts.specs.declared.keys.Keys.{Keys}
use Rattle.hr_parts.specs.Parts.{takes}
use Rattle.hr_parts.specs.Footprints.{least_key, greatest_key}
use Rattle.hr_plan.specs.declared.path.Path.TheVariants as path
use Rattle.hr_parts.specs.Keys.{has_in, mirrored}
use Rattle.hr_parts.proofs.WholeTables.{not_above}
use Rattle.hr_parts.proofs.KeyLaws.{in_all}
use Rattle.hr_plan.specs.declared.bounds.Bounds.{Bounds}
use Rattle.hr_plan.specs.Paths.{is_within, greatest_value, all_values, values_from_to, common_values, spanning_values, values_to, values_by, is_the_column, compared_values, values_layer, values_in, kept_values, both_values, are_all_values, are_all_keys, by_values, index_path, condition_path, finds, is_short, is_stored}

-- ---- the order of values

abbrev Le : Value → Value → Type 0
Le a b = is_le (value_cmp a b) ≡ true

not_gt : (o : Ordering) → is_le o ≡ true → is_gt o ≡ false
not_gt Less h = refl
not_gt Equal h = refl
not_gt Greater h = cc

le_of : (o : Ordering) → is_gt o ≡ false → is_le o ≡ true
le_of Less h = refl
le_of Equal h = refl
le_of Greater h = cc

le_on : (a b c : Value) → Le a b → Le b c → Le a c
le_on a b c h k = le_of (value_cmp a c) (upto value_total a b c (not_gt (value_cmp a b) h) (not_gt (value_cmp b c) k))

le_itself : (a : Value) → Le a a
le_itself a = ap is_le (tied_itself value_total a)

null_first : (v : Value) → Le value.Null v
null_first value.Null = refl
null_first (value.Int n) = refl
null_first (value.Text t) = refl

back_ge : (o : Ordering) → is_ge o ≡ true → is_le (ordering_reverse o) ≡ true
back_ge Less h = cc
back_ge Equal h = refl
back_ge Greater h = refl

back_not_lt : (o : Ordering) → is_lt o ≡ false → is_le (ordering_reverse o) ≡ true
back_not_lt Less h = cc
back_not_lt Equal h = refl
back_not_lt Greater h = refl

eq_le : (o : Ordering) → is_eq o ≡ true → is_le o ≡ true
eq_le Less h = cc
eq_le Equal h = refl
eq_le Greater h = cc

eq_ge : (o : Ordering) → is_eq o ≡ true → is_ge o ≡ true
eq_ge Less h = cc
eq_ge Equal h = refl
eq_ge Greater h = cc

lt_le : (o : Ordering) → is_lt o ≡ true → is_le o ≡ true
lt_le Less h = refl
lt_le Equal h = cc
lt_le Greater h = cc

gt_ge : (o : Ordering) → is_gt o ≡ true → is_ge o ≡ true
gt_ge Less h = cc
gt_ge Equal h = cc
gt_ge Greater h = refl

-- of two values, the second is at most the first where the first is at least the second
turned : (a b : Value) → is_ge (value_cmp a b) ≡ true → Le b a
turned a b h = ap is_le (value_total.antisymm b a) ∙ back_ge (value_cmp a b) h

turned_not : (a b : Value) → is_lt (value_cmp a b) ≡ false → Le b a
turned_not a b h = ap is_le (value_total.antisymm b a) ∙ back_not_lt (value_cmp a b) h

-- ---- bounds

greater_below : (a b w : Value) (t : Bool) → Le a w → Le b w → Le (cond t b a) w
greater_below a b w true h k = k
greater_below a b w false h k = h

lesser_above : (a b w : Value) (t : Bool) → Le w a → Le w b → Le w (cond t b a)
lesser_above a b w true h k = k
lesser_above a b w false h k = h

lesser_first : (a b : Value) (t : Bool) → is_lt (value_cmp b a) ≡ t → Le (cond t b a) a
lesser_first a b true e = lt_le (value_cmp b a) e
lesser_first a b false e = le_itself a

lesser_second : (a b : Value) (t : Bool) → is_lt (value_cmp b a) ≡ t → Le (cond t b a) b
lesser_second a b true e = le_itself b
lesser_second a b false e = turned_not b a e

greater_first : (a b : Value) (t : Bool) → is_gt (value_cmp b a) ≡ t → Le a (cond t b a)
greater_first a b true e = turned b a (gt_ge (value_cmp b a) e)
greater_first a b false e = le_itself a

greater_second : (a b : Value) (t : Bool) → is_gt (value_cmp b a) ≡ t → Le b (cond t b a)
greater_second a b true e = le_itself b
greater_second a b false e = le_of (value_cmp b a) e

between : (low high w : Value) → Le low w → Le w high → is_within (Some record { low = low; high = high }) w ≡ true
between low high w h k = and_from (is_le (value_cmp low w)) (is_le (value_cmp w high)) h k

from_to : (low high w : Value) → Le low w → Le w high → is_within (values_from_to low high) w ≡ true
from_to low high w h k = ap (λ (b : Bool). is_within (cond b (Some record { low = low; high = high }) None) w) (le_on low w high h k) ∙ between low high w h k

in_both : (a b : Option Bounds) (w : Value) → is_within a w ≡ true → is_within b w ≡ true → is_within (common_values a b) w ≡ true
in_both None b w h k = h
in_both (Some a) None w h k = k
in_both (Some a) (Some b) w h k =
    let one = and_parts (is_le (value_cmp a.low w)) (is_le (value_cmp w a.high)) h in
    let two = and_parts (is_le (value_cmp b.low w)) (is_le (value_cmp w b.high)) k in
    from_to (greater a.low b.low) (lesser a.high b.high) w (greater_below a.low b.low w (is_gt (value_cmp b.low a.low)) one.0 two.0) (lesser_above a.high b.high w (is_lt (value_cmp b.high a.high)) one.1 two.1)

in_first : (a b : Option Bounds) (w : Value) → is_within a w ≡ true → is_within (spanning_values a b) w ≡ true
in_first None b w h = cc
in_first (Some a) None w h = h
in_first (Some a) (Some b) w h =
    let one = and_parts (is_le (value_cmp a.low w)) (is_le (value_cmp w a.high)) h in
    between (lesser a.low b.low) (greater a.high b.high) w
    (le_on (lesser a.low b.low) a.low w (lesser_first a.low b.low (is_lt (value_cmp b.low a.low)) refl) one.0)
    (le_on w a.high (greater a.high b.high) one.1 (greater_first a.high b.high (is_gt (value_cmp b.high a.high)) refl))

in_second : (a b : Option Bounds) (w : Value) → is_within b w ≡ true → is_within (spanning_values a b) w ≡ true
in_second None b w h = h
in_second (Some a) None w h = cc
in_second (Some a) (Some b) w h =
    let two = and_parts (is_le (value_cmp b.low w)) (is_le (value_cmp w b.high)) h in
    between (lesser a.low b.low) (greater a.high b.high) w
    (le_on (lesser a.low b.low) b.low w (lesser_second a.low b.low (is_lt (value_cmp b.low a.low)) refl) two.0)
    (le_on w b.high (greater a.high b.high) two.1 (greater_second a.high b.high (is_gt (value_cmp b.high a.high)) refl))

-- ---- conditions

module _ (k : ColKind) (column : ℕ) where
  values_compare : (o : Op) (a b : Operand) → values_in k column (pred.Compare o a b) ≡ compared_values k column o a b
  values_compare o a b = ap (values_in k column) (sym (pred.rolls-Compare o a b)) ∙ fold-roll-Pred (Option Bounds) (values_layer k column) (Pred-F.Compare o a b)

  values_is_null : (a : Operand) → values_in k column (pred.IsNull a) ≡ all_values k
  values_is_null a = ap (values_in k column) (sym (pred.rolls-IsNull a)) ∙ fold-roll-Pred (Option Bounds) (values_layer k column) (Pred-F.IsNull a)

  values_and : (a b : Pred) → values_in k column (pred.And a b) ≡ common_values (values_in k column a) (values_in k column b)
  values_and a b = ap (values_in k column) (sym (pred.rolls-And a b)) ∙ fold-roll-Pred (Option Bounds) (values_layer k column) (Pred-F.And a b)

  values_or : (a b : Pred) → values_in k column (pred.Or a b) ≡ spanning_values (values_in k column a) (values_in k column b)
  values_or a b = ap (values_in k column) (sym (pred.rolls-Or a b)) ∙ fold-roll-Pred (Option Bounds) (values_layer k column) (Pred-F.Or a b)

  values_not : (a : Pred) → values_in k column (pred.Not a) ≡ all_values k
  values_not a = ap (values_in k column) (sym (pred.rolls-Not a)) ∙ fold-roll-Pred (Option Bounds) (values_layer k column) (Pred-F.Not a)

  module _ (rows : Tuple) (w : Value) (at : value_at column (unwrap_or (slice_get rows 0) []) ≡ w) (most : Le w (greatest_value k)) where
    everywhere : is_within (all_values k) w ≡ true
    everywhere = between value.Null (greatest_value k) w (null_first w) most

    its_value : (c : ColRef) → is_the_column k column c ≡ true → column_value rows c ≡ w
    its_value c e =
        let parts = and_parts (c.entry == 0) (c.column == column) e in
        let place = eqb-true c.entry 0 parts.0 in
        let same = eqb-true c.column column parts.1 in
        (λ i. value_at (same i) (unwrap_or (slice_get rows (place i)) [])) ∙ at

    known : (x y b : Bool) → is_true (cond (x || y) Unknown (tested b)) ≡ true → (x ≡ false) × (y ≡ false) × (b ≡ true)
    known true y b h = cc
    known false true b h = cc
    known false false true h = (refl, refl, refl)
    known false false false h = cc

    unless_null : (o : Op) (v : Value) → is_null v ≡ false → is_within (values_to k o v) w ≡ true → is_within (values_by k o v) w ≡ true
    unless_null o v e h = ap (λ (b : Bool). is_within (cond b None (values_to k o v)) w) e ∙ h

    -- the column's value stands so to a literal
    value_passes : (o : Op) (v : Value) → passes o (value_cmp w v) ≡ true → is_within (values_to k o v) w ≡ true
    value_passes op.Eq v h = between v v w (turned w v (eq_ge (value_cmp w v) h)) (eq_le (value_cmp w v) h)
    value_passes op.Ne v h = everywhere
    value_passes op.Lt v h = between value.Null v w (null_first w) (lt_le (value_cmp w v) h)
    value_passes op.Le v h = between value.Null v w (null_first w) h
    value_passes op.Gt v h = between v (greatest_value k) w (turned w v (gt_ge (value_cmp w v) h)) most
    value_passes op.Ge v h = between v (greatest_value k) w (turned w v h) most

    -- a literal stands so to the column's value
    passes_value : (o : Op) (v : Value) → passes o (value_cmp v w) ≡ true → is_within (values_to k (mirrored o) v) w ≡ true
    passes_value op.Eq v h = between v v w (eq_le (value_cmp v w) h) (turned v w (eq_ge (value_cmp v w) h))
    passes_value op.Ne v h = everywhere
    passes_value op.Lt v h = between v (greatest_value k) w (lt_le (value_cmp v w) h) most
    passes_value op.Le v h = between v (greatest_value k) w h most
    passes_value op.Gt v h = between value.Null v w (null_first w) (turned v w (gt_ge (value_cmp v w) h))
    passes_value op.Ge v h = between value.Null v w (null_first w) (turned v w h)

    left_test : (o : Op) (c : ColRef) (v : Value) (b : Bool) → is_the_column k column c ≡ b → is_true (compared o (column_value rows c) v) ≡ true → is_within (cond b (values_by k o v) (all_values k)) w ≡ true
    left_test o c v true e h =
        let told = known (is_null w) (is_null v) (passes o (value_cmp w v)) (sym (ap (λ (x : Value). is_true (compared o x v)) (its_value c e)) ∙ h) in
        unless_null o v told.1 (value_passes o v told.2)
    left_test o c v false e h = everywhere

    right_test : (o : Op) (c : ColRef) (v : Value) (b : Bool) → is_the_column k column c ≡ b → is_true (compared o v (column_value rows c)) ≡ true
        → is_within (cond b (values_by k (mirrored o) v) (all_values k)) w ≡ true
    right_test o c v true e h =
        let told = known (is_null v) (is_null w) (passes o (value_cmp v w)) (sym (ap (λ (x : Value). is_true (compared o v x)) (its_value c e)) ∙ h) in
        unless_null (mirrored o) v told.0 (passes_value o v told.2)
    right_test o c v false e h = everywhere

    compared_told : (o : Op) (a b : Operand) → is_true (compared o (operand_value rows a) (operand_value rows b)) ≡ true → is_within (compared_values k column o a b) w ≡ true
    compared_told o (operand.Col c) (operand.Lit v) h = left_test o c v (is_the_column k column c) refl h
    compared_told o (operand.Lit v) (operand.Col c) h = right_test o c v (is_the_column k column c) refl h
    compared_told o (operand.Col c) (operand.Col d) h = everywhere
    compared_told o (operand.Lit v) (operand.Lit x) h = everywhere

    -- where it is true, the value is in its bounds
    abbrev Told : Pred → Type 0
    Told p = is_true (truth_of p rows) ≡ true → is_within (values_in k column p) w ≡ true

    told_compare : (o : Op) (a b : Operand) → Told (pred.Compare o a b)
    told_compare o a b h = ap (λ (bounds : Option Bounds). is_within bounds w) (values_compare o a b) ∙ compared_told o a b (sym (ap is_true (truth_compare rows o a b)) ∙ h)

    told_is_null : (a : Operand) → Told (pred.IsNull a)
    told_is_null a h = ap (λ (bounds : Option Bounds). is_within bounds w) (values_is_null a) ∙ everywhere

    both_true : (x y : Truth) → is_true (both x y) ≡ true → (is_true x ≡ true) × (is_true y ≡ true)
    both_true False y h = cc
    both_true True y h = (refl, h)
    both_true Unknown False h = cc
    both_true Unknown True h = cc
    both_true Unknown Unknown h = cc

    either_true : (x y : Truth) → is_true (either x y) ≡ true → (is_true x ≡ true) ⊎ (is_true y ≡ true)
    either_true True y h = inl refl
    either_true False y h = inr h
    either_true Unknown True h = inr refl
    either_true Unknown False h = cc
    either_true Unknown Unknown h = cc

    told_and : (a b : Pred) → Told a → Told b → Told (pred.And a b)
    told_and a b left right h =
        let parts = both_true (truth_of a rows) (truth_of b rows) (sym (ap is_true (truth_and rows a b)) ∙ h) in
        ap (λ (bounds : Option Bounds). is_within bounds w) (values_and a b) ∙ in_both (values_in k column a) (values_in k column b) w (left parts.0) (right parts.1)

    told_or : (a b : Pred) → Told a → Told b → Told (pred.Or a b)
    told_or a b left right h =
        ap (λ (bounds : Option Bounds). is_within bounds w) (values_or a b) ∙ elim (either_true (truth_of a rows) (truth_of b rows) (sym (ap is_true (truth_or rows a b)) ∙ h)) [
          | inl one ↦ in_first (values_in k column a) (values_in k column b) w (left one)
          | inr two ↦ in_second (values_in k column a) (values_in k column b) w (right two)
        ]

    told_not : (a : Pred) → Told (pred.Not a)
    told_not a h = ap (λ (bounds : Option Bounds). is_within bounds w) (values_not a) ∙ everywhere

    told_form : (y : Pred-F ((p : Pred) × Told p)) → Told (roll-Pred (map-Pred ((p : Pred) × Told p) Pred (λ p. p.0) y))
    told_form (Pred-F.Compare o a b) = subst Told (sym (pred.rolls-Compare o a b)) (told_compare o a b)
    told_form (Pred-F.IsNull a) = subst Told (sym (pred.rolls-IsNull a)) (told_is_null a)
    told_form (Pred-F.And a b) = subst Told (sym (pred.rolls-And a.0 b.0)) (told_and a.0 b.0 a.1 b.1)
    told_form (Pred-F.Or a b) = subst Told (sym (pred.rolls-Or a.0 b.0)) (told_or a.0 b.0 a.1 b.1)
    told_form (Pred-F.Not a) = subst Told (sym (pred.rolls-Not a.0)) (told_not a.0)

    told : (p : Pred) → Told p
    told = ind-Pred Told (λ x y is. subst (λ z. Told (roll-Pred z)) is (told_form y))

    kept_within : (condition : Option Pred) → is_kept condition rows ≡ true → is_within (kept_values k column condition) w ≡ true
    kept_within None h = everywhere
    kept_within (Some p) h = told p h

-- ---- values of the program

below_126 : (x : ℕ) → nat_le x 126 ≡ true → is_le (nat_cmp x 126) ≡ true
below_126 x h = let small = leb-true x 126 h in grind (arith, small)

then_le : (a b : Ordering) → is_le a ≡ true → is_le b ≡ true → is_le (ordering_then a b) ≡ true
then_le Less b h k = refl
then_le Equal b h k = k
then_le Greater b h k = cc

texts_below : (n : ℕ) (t : List ℕ) → length t ≤ n → list_all is_printable t ≡ true → is_le (slice_cmp nat_cmp t (replicate n 126)) ≡ true
texts_below zero [] fits h = refl
texts_below (suc n) [] fits h = refl
texts_below zero (x ∷ t) fits h = absurd (omega (arith, fits))
texts_below (suc n) (x ∷ t) fits h =
    let parts = and_parts (is_printable x) (list_all is_printable t) h in
    then_le (nat_cmp x 126) (slice_cmp nat_cmp t (replicate n 126)) (below_126 x (and_parts (nat_le 32 x) (nat_le x 126) parts.0).1) (texts_below n t (omega (arith, fits)) parts.1)

not_less_then : (x y : Bool) → y ≡ false → is_le (cond x Less (cond y Greater Equal)) ≡ true
not_less_then true y e = refl
not_less_then false false e = refl
not_less_then false true e = cc

no_more : (m n : ℤ) → int_le m n ≡ true → int_lt n m ≡ true → ⊥
no_more m n h k = grind (arith, ints)

int_below : (m n : ℤ) → int_le m n ≡ true → is_le (int_cmp m n) ≡ true
int_below m n h = not_less_then (int_lt m n) (int_lt n m) (false_from_ne_true (int_lt n m) (no_more m n h))

value_below : (k : ColKind) (v : Value) → is_of_kind k v ≡ true → is_short v ≡ true → Le v (greatest_value k)
value_below kind.Int value.Null e f = refl
value_below kind.Text value.Null e f = refl
value_below kind.Int (value.Int n) e f = int_below n greatest_key (not_above n e)
value_below kind.Text (value.Int n) e f = cc
value_below kind.Int (value.Text t) e f = cc
value_below kind.Text (value.Text t) e f =
    let parts = and_parts (nat_le (length t) MAX_TEXT_BYTES) (list_all is_printable t) f in
    texts_below MAX_TEXT_BYTES t (leb-true (length t) MAX_TEXT_BYTES parts.0) parts.1

-- each value from a place on is at most the greatest of its column
abbrev AreBelow : List Value → ℕ → List ColumnDef → Type 0
AreBelow row column [] = Unit {0}
AreBelow row column (d ∷ columns) = Le (value_at column row) (greatest_value d.kind) × AreBelow row (suc column) columns

module _ (row : List Value) where
  abbrev AreRest : ℕ → List Value → Type 0
  AreRest column rest = (i : ℕ) → value_at (column + i) row ≡ value_at i rest

  next_rest : (column : ℕ) (rest others : List Value) → ((i : ℕ) → value_at (suc i) rest ≡ value_at i others) → AreRest column rest → AreRest (suc column) others
  next_rest column rest others step are i = let one : suc column + i ≡ column + suc i = omega arith in ap (λ (n : ℕ). value_at n row) one ∙ are (suc i) ∙ step i

  here_is : (column : ℕ) (rest : List Value) → AreRest column rest → value_at column row ≡ value_at 0 rest
  here_is column rest are = let one : column ≡ column + 0 = omega arith in ap (λ (n : ℕ). value_at n row) one ∙ are 0

  all_below : (column : ℕ) (columns : List ColumnDef) (rest : List Value) → AreRest column rest → list_all (λ (p : ColumnDef × Value). is_of_kind p.0.kind p.1) (zip columns rest) ≡ true
      → list_all is_short rest ≡ true → AreBelow row column columns
  all_below column [] rest are kinds short = tt
  all_below column (d ∷ columns) [] are kinds short = (
    subst (λ (v : Value). Le v (greatest_value d.kind)) (sym (here_is column [] are)) (null_first (greatest_value d.kind)),
    all_below (suc column) columns [] (next_rest column [] [] (λ i. refl) are) (no_values columns) refl,
  )
    where
      no_values : (columns : List ColumnDef) → list_all (λ (p : ColumnDef × Value). is_of_kind p.0.kind p.1) (zip columns []) ≡ true
      no_values [] = refl
      no_values (d ∷ columns) = refl
  all_below column (d ∷ columns) (v ∷ rest) are kinds short =
      let kind_parts = and_parts (is_of_kind d.kind v) (list_all (λ (p : ColumnDef × Value). is_of_kind p.0.kind p.1) (zip columns rest)) kinds in
      let short_parts = and_parts (is_short v) (list_all is_short rest) short in (
        subst (λ (x : Value). Le x (greatest_value d.kind)) (sym (here_is column (v ∷ rest) are)) (value_below d.kind v kind_parts.0 short_parts.0),
        all_below (suc column) columns rest (next_rest column (v ∷ rest) rest (λ i. refl) are) kind_parts.1 short_parts.1,
      )

-- ---- paths

module _ (on filter : Option Pred) (row : List Value) (others : Tuple) (k : ℤ) (key : key_of row ≡ Some k) (fits : fits_i64 k ≡ true)
    (kept_on : is_kept on (row ∷ others) ≡ true) (kept_filter : is_kept filter (row ∷ others) ≡ true) where
  value_kept : (kind : ColKind) (column : ℕ) → Le (value_at column row) (greatest_value kind) → is_within (both_values kind column on filter) (value_at column row) ≡ true
  value_kept kind column most =
      in_both (kept_values kind column on) (kept_values kind column filter) (value_at column row)
      (kept_within kind column (row ∷ others) (value_at column row) refl most on kept_on) (kept_within kind column (row ∷ others) (value_at column row) refl most filter kept_filter)

  found_by_values : (column : ℕ) (bounds : Option Bounds) → is_within bounds (value_at column row) ≡ true → finds (by_values column bounds) row ≡ true
  found_by_values column None h = h
  found_by_values column (Some b) h = h

  index_test : (column : ℕ) (d : ColumnDef) (columns : List ColumnDef) (b : Bool) → Le (value_at column row) (greatest_value d.kind) → finds (index_path on filter (suc column) columns) row ≡ true
      → finds (cond b (by_values column (both_values d.kind column on filter)) (index_path on filter (suc column) columns)) row ≡ true
  index_test column d columns true most rest = found_by_values column (both_values d.kind column on filter) (value_kept d.kind column most)
  index_test column d columns false most rest = rest

  index_finds : (column : ℕ) (columns : List ColumnDef) → AreBelow row column columns → finds (index_path on filter column columns) row ≡ true
  index_finds column [] below = ap (takes (has_in (Some record { low = least_key; high = greatest_key }))) key ∙ in_all k fits
  index_finds column (d ∷ columns) below =
      index_test column d columns (d.indexed && not (are_all_values d.kind (both_values d.kind column on filter))) below.0 (index_finds (suc column) columns below.1)

  keys_test : (keys : Keys) (columns : List ColumnDef) (b : Bool) → AreBelow row 0 columns → has_in (Some keys) k ≡ true
      → finds (cond b (index_path on filter 0 columns) (path.Keys keys.low keys.high)) row ≡ true
  keys_test keys columns true below h = index_finds 0 columns below
  keys_test keys columns false below h = ap (takes (has_in (Some record { low = keys.low; high = keys.high }))) key ∙ h

  pub condition_finds : (keys : Option Keys) (columns : List ColumnDef) → AreBelow row 0 columns → has_in keys k ≡ true → finds (condition_path keys on filter columns) row ≡ true
  condition_finds None columns below h = cc
  condition_finds (Some keys) columns below h = keys_test keys columns (are_all_keys keys) below h

-- ---- rows of the program

with_key : (row : List Value) (o : Option ℤ) → key_of row ≡ o → is_key o ≡ true → (k : ℤ) × (key_of row ≡ Some k) × (fits_i64 k ≡ true)
with_key row None e h = cc
with_key row (Some k) e h = (k, e, h)

pub stored_key : (columns : List ColumnDef) (row : List Value) → is_stored columns row ≡ true → (k : ℤ) × (key_of row ≡ Some k) × (fits_i64 k ≡ true)
stored_key columns row h =
    let front = and_parts (row_fits columns row && has_number_key row) (list_all is_short row) h in
    with_key row (key_of row) refl (and_parts (row_fits columns row) (has_number_key row) front.0).1

pub stored_below : (columns : List ColumnDef) (row : List Value) → is_stored columns row ≡ true → AreBelow row 0 columns
stored_below columns row h =
    let parts = and_parts (row_fits columns row && has_number_key row) (list_all is_short row) h in
    let fit = (and_parts (row_fits columns row) (has_number_key row) parts.0).0 in
    let kinds = (and_parts (length row == length columns) (list_all (λ (p : ColumnDef × Value). is_of_kind p.0.kind p.1) (zip columns row)) fit).1 in
    all_below row 0 columns row (λ i. let none : 0 + i ≡ i = omega arith in ap (λ (n : ℕ). value_at n row) none) kinds parts.1
