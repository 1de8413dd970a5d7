-- What a condition is true of has its keys in the condition's interval.
use Rattle.std.proofs.Common.{◌≡◌, ℕ, suc, ◌+◌, ◌==◌, ℤ, pos, ◌+ℤ◌, ◌-ℤ◌, Bool, true, false, ◌&&◌, ◌||◌, cond, not, inl, inr, List, [], ◌∷◌, ◌++◌, refl, ap, sym, subst, ◌∙◌, arith, eqb-true}
use Rattle.std.specs.Prelude.{Option, Some, None, int_le, int_lt, unwrap_or, slice_get, ◌⊎◌}
use Rattle.std.specs.Int.{int_max, int_min}
use Rattle.std.specs.Ordering.{int_cmp, is_eq, is_ne, is_lt, is_le, is_gt, is_ge}
use Rattle.std.specs.declared.cmp.Ordering.TheVariants.{Less, Equal, Greater}
use Rattle.std.specs.List.{list_all, list_any}
use Rattle.std.proofs.lemmas.Bool.{and_from, and_parts, or_left, eq-eqb}
use Rattle.std.proofs.lemmas.Int.{ints}
use Rattle.hr_rel.specs.declared.value.Value.{Value}
use Rattle.hr_rel.specs.declared.value.Value.TheVariants as value
use Rattle.hr_rel.specs.declared.expr.ColRef.{ColRef}
use Rattle.hr_rel.specs.declared.expr.Op.{Op}
use Rattle.hr_rel.specs.declared.expr.Op.TheVariants as op
use Rattle.hr_rel.specs.declared.expr.Operand.{Operand}
use Rattle.hr_rel.specs.declared.expr.Operand.TheVariants as operand
use Rattle.hr_rel.specs.declared.expr.Pred.{Pred, roll-Pred, map-Pred, ind-Pred, fold-roll-Pred}
use Rattle.hr_rel.specs.declared.expr.Pred.TheVariants as pred
use Rattle.hr_rel.specs.declared.expr.Pred.TheOpen.{Pred-F}
use Rattle.hr_rel.specs.Database.{value_at, key_of}
use Rattle.hr_rel.specs.Kinds.{fits_i64, is_null}
use Rattle.hr_meaning.specs.Truth.{Tuple, column_value, operand_value, both, either, opposite, tested, passes, compared, truth_of, is_true, is_kept}
use Rattle.hr_meaning.specs.declared.truth.Truth.{Truth}
use Rattle.hr_meaning.specs.declared.truth.Truth.TheVariants.{True, False, Unknown}
use Rattle.hr_meaning.proofs.Folds.{truth_compare, truth_and, truth_or}
use Rattle.hr_parts.specs.declared.keys.Keys.{Keys}
use Rattle.hr_parts.specs.Footprints.{least_key, greatest_key}
use Rattle.hr_parts.specs.Keys.{has_in, all_keys, from_to, common, spanning, keys_to, mirrored, keys_by, is_the_key, compared_keys, keys_layer, keys_of, kept_keys}
use Rattle.hr_parts.proofs.Cover.{le_through}
use Rattle.hr_parts.proofs.Rows.{one_of_three}
use Rattle.hr_parts.proofs.WholeTables.{not_below, not_above}

-- ---- what the interval of a condition is, by the condition's first form

module _ (entry : ℕ) where
  pub keys_compare : (o : Op) (a b : Operand) → keys_of entry (pred.Compare o a b) ≡ compared_keys entry o a b
  keys_compare o a b = ap (keys_of entry) (sym (pred.rolls-Compare o a b)) ∙ fold-roll-Pred (Option Keys) (keys_layer entry) (Pred-F.Compare o a b)

  pub keys_is_null : (a : Operand) → keys_of entry (pred.IsNull a) ≡ all_keys
  keys_is_null a = ap (keys_of entry) (sym (pred.rolls-IsNull a)) ∙ fold-roll-Pred (Option Keys) (keys_layer entry) (Pred-F.IsNull a)

  pub keys_and : (a b : Pred) → keys_of entry (pred.And a b) ≡ common (keys_of entry a) (keys_of entry b)
  keys_and a b = ap (keys_of entry) (sym (pred.rolls-And a b)) ∙ fold-roll-Pred (Option Keys) (keys_layer entry) (Pred-F.And a b)

  pub keys_or : (a b : Pred) → keys_of entry (pred.Or a b) ≡ spanning (keys_of entry a) (keys_of entry b)
  keys_or a b = ap (keys_of entry) (sym (pred.rolls-Or a b)) ∙ fold-roll-Pred (Option Keys) (keys_layer entry) (Pred-F.Or a b)

  pub keys_not : (a : Pred) → keys_of entry (pred.Not a) ≡ all_keys
  keys_not a = ap (keys_of entry) (sym (pred.rolls-Not a)) ∙ fold-roll-Pred (Option Keys) (keys_layer entry) (Pred-F.Not a)

-- ---- intervals

pub in_all : (k : ℤ) → fits_i64 k ≡ true → has_in all_keys k ≡ true
in_all k fits = and_from (int_le least_key k) (int_le k greatest_key) (not_below k fits) (not_above k fits)

pub in_from_to : (low high k : ℤ) → int_le low k ≡ true → int_le k high ≡ true → has_in (from_to low high) k ≡ true
in_from_to low high k e f =
    ap (λ (b : Bool). has_in (cond b (Some record { low = low; high = high }) None) k) (le_through low k high e f) ∙ and_from (int_le low k) (int_le k high) e f

greatest_of_by : (x y k : ℤ) (b : Bool) → int_le x k ≡ true → int_le y k ≡ true → int_le (cond b x y) k ≡ true
greatest_of_by x y k true e f = e
greatest_of_by x y k false e f = f

least_of_by : (x y k : ℤ) (b : Bool) → int_le k x ≡ true → int_le k y ≡ true → int_le k (cond b x y) ≡ true
least_of_by x y k true e f = e
least_of_by x y k false e f = f

pub in_common : (a b : Option Keys) (k : ℤ) → has_in a k ≡ true → has_in b k ≡ true → has_in (common a b) k ≡ true
in_common None b k h g = h
in_common (Some a) None k h g = g
in_common (Some a) (Some b) k h g =
    let one = and_parts (int_le a.low k) (int_le k a.high) h in
    let two = and_parts (int_le b.low k) (int_le k b.high) g in
    in_from_to (int_max a.low b.low) (int_min a.high b.high) k (greatest_of_by a.low b.low k (int_lt b.low a.low) one.0 two.0) (least_of_by b.high a.high k (int_lt b.high a.high) two.1 one.1)

-- the lesser of two is below both, the greater above both
lesser_left : (x y k : ℤ) → int_le x k ≡ true → int_le (int_min x y) k ≡ true
lesser_left x y k h = by_test (int_lt y x) refl
  where
    by_test : (b : Bool) → int_lt y x ≡ b → int_le (cond b y x) k ≡ true
    by_test true e = grind (arith, ints)
    by_test false e = h

lesser_right : (x y k : ℤ) → int_le y k ≡ true → int_le (int_min x y) k ≡ true
lesser_right x y k h = by_test (int_lt y x) refl
  where
    by_test : (b : Bool) → int_lt y x ≡ b → int_le (cond b y x) k ≡ true
    by_test true e = h
    by_test false e = grind (arith, ints)

greater_left : (x y k : ℤ) → int_le k x ≡ true → int_le k (int_max x y) ≡ true
greater_left x y k h = by_test (int_lt y x) refl
  where
    by_test : (b : Bool) → int_lt y x ≡ b → int_le k (cond b x y) ≡ true
    by_test true e = h
    by_test false e = grind (arith, ints)

greater_right : (x y k : ℤ) → int_le k y ≡ true → int_le k (int_max x y) ≡ true
greater_right x y k h = by_test (int_lt y x) refl
  where
    by_test : (b : Bool) → int_lt y x ≡ b → int_le k (cond b x y) ≡ true
    by_test true e = grind (arith, ints)
    by_test false e = h

pub in_left : (a b : Option Keys) (k : ℤ) → has_in a k ≡ true → has_in (spanning a b) k ≡ true
in_left None b k h = cc
in_left (Some a) None k h = h
in_left (Some a) (Some b) k h =
    let parts = and_parts (int_le a.low k) (int_le k a.high) h in
    and_from (int_le (int_min a.low b.low) k) (int_le k (int_max a.high b.high)) (lesser_left a.low b.low k parts.0) (greater_left a.high b.high k parts.1)

pub in_right : (a b : Option Keys) (k : ℤ) → has_in b k ≡ true → has_in (spanning a b) k ≡ true
in_right None b k h = h
in_right (Some a) None k h = cc
in_right (Some a) (Some b) k h =
    let parts = and_parts (int_le b.low k) (int_le k b.high) h in
    and_from (int_le (int_min a.low b.low) k) (int_le k (int_max a.high b.high)) (lesser_right a.low b.low k parts.0) (greater_right a.high b.high k parts.1)

-- ---- comparisons

true_test : (b : Bool) → is_true (tested b) ≡ true → b ≡ true
true_test true h = refl
true_test false h = cc

told_eq : (x y : Bool) → is_eq (cond x Less (cond y Greater Equal)) ≡ true → (x ≡ false) × (y ≡ false)
told_eq true y h = cc
told_eq false true h = cc
told_eq false false h = (refl, refl)

told_lt : (x y : Bool) → is_lt (cond x Less (cond y Greater Equal)) ≡ true → x ≡ true
told_lt true y h = refl
told_lt false true h = cc
told_lt false false h = cc

told_le : (x y : Bool) → is_le (cond x Less (cond y Greater Equal)) ≡ true → (x ≡ true) ⊎ (y ≡ false)
told_le true y h = inl refl
told_le false true h = cc
told_le false false h = inr refl

told_gt : (x y : Bool) → is_gt (cond x Less (cond y Greater Equal)) ≡ true → y ≡ true
told_gt true y h = cc
told_gt false true h = refl
told_gt false false h = cc

told_ge : (x y : Bool) → is_ge (cond x Less (cond y Greater Equal)) ≡ true → x ≡ false
told_ge true y h = cc
told_ge false y h = refl

below : (k n : ℤ) → int_lt k n ≡ true → int_le k (n -ℤ pos 1) ≡ true
below k n h = grind (arith, ints)

above : (k n : ℤ) → int_lt n k ≡ true → int_le (n +ℤ pos 1) k ≡ true
above k n h = grind (arith, ints)

less_is_le : (k n : ℤ) → int_lt k n ≡ true → int_le k n ≡ true
less_is_le k n h = grind (arith, ints)

not_greater : (k n : ℤ) → int_lt n k ≡ false → int_le k n ≡ true
not_greater k n h = grind (arith, ints)

le_itself : (k : ℤ) → int_le k k ≡ true
le_itself k = grind (arith, ints)

module _ (k n : ℤ) (fits : fits_i64 k ≡ true) where
  equal_in : (a b : ℤ) → int_lt a b ≡ false → int_lt b a ≡ false → a ≡ k → b ≡ n → has_in (from_to n n) k ≡ true
  equal_in a b e f is_k is_n =
      let same : n ≡ k = sym is_n ∙ sym (one_of_three a b e f) ∙ is_k in
      in_from_to n n k (subst (λ (j : ℤ). int_le n j ≡ true) same (le_itself n)) (subst (λ (j : ℤ). int_le j n ≡ true) same (le_itself n))

  -- a key that stands so to a number
  pub key_passes : (o : Op) → passes o (int_cmp k n) ≡ true → has_in (keys_to o n) k ≡ true
  key_passes op.Eq h = let told = told_eq (int_lt k n) (int_lt n k) h in equal_in k n told.0 told.1 refl refl
  key_passes op.Ne h = in_all k fits
  key_passes op.Lt h = in_from_to least_key (n -ℤ pos 1) k (not_below k fits) (below k n (told_lt (int_lt k n) (int_lt n k) h))
  key_passes op.Le h = in_from_to least_key n k (not_below k fits)
      (elim (told_le (int_lt k n) (int_lt n k) h) [ inl less ↦ less_is_le k n less | inr more ↦ not_greater k n more ])
  key_passes op.Gt h = in_from_to (n +ℤ pos 1) greatest_key k (above k n (told_gt (int_lt k n) (int_lt n k) h)) (not_above k fits)
  key_passes op.Ge h = in_from_to n greatest_key k (not_greater n k (told_ge (int_lt k n) (int_lt n k) h)) (not_above k fits)

  -- the number stands so to the key
  passes_key : (o : Op) → passes o (int_cmp n k) ≡ true → has_in (keys_to (mirrored o) n) k ≡ true
  passes_key op.Eq h = let told = told_eq (int_lt n k) (int_lt k n) h in equal_in k n told.1 told.0 refl refl
  passes_key op.Ne h = in_all k fits
  passes_key op.Lt h = in_from_to (n +ℤ pos 1) greatest_key k (above k n (told_lt (int_lt n k) (int_lt k n) h)) (not_above k fits)
  passes_key op.Le h = in_from_to n greatest_key k (elim (told_le (int_lt n k) (int_lt k n) h) [ inl less ↦ less_is_le n k less | inr more ↦ not_greater n k more ]) (not_above k fits)
  passes_key op.Gt h = in_from_to least_key (n -ℤ pos 1) k (not_below k fits) (below k n (told_gt (int_lt n k) (int_lt k n) h))
  passes_key op.Ge h = in_from_to least_key n k (not_below k fits) (not_greater k n (told_ge (int_lt n k) (int_lt k n) h))

-- ---- conditions

module _ (entry : ℕ) (rows : Tuple) (k : ℤ) (at : value_at 0 (unwrap_or (slice_get rows entry) []) ≡ value.Int k) (fits : fits_i64 k ≡ true) where
  -- where it is true, the key is in its interval
  abbrev Told : Pred → Type 0
  Told p = is_true (truth_of p rows) ≡ true → has_in (keys_of entry p) k ≡ true

  key_value : (c : ColRef) → is_the_key entry c ≡ true → column_value rows c ≡ value.Int k
  key_value c e =
      let parts = and_parts (c.entry == entry) (c.column == 0) e in
      let place = eqb-true c.entry entry parts.0 in
      let column = eqb-true c.column 0 parts.1 in
      (λ i. value_at (column i) (unwrap_or (slice_get rows (place i)) [])) ∙ at

  left_by : (o : Op) (v : Value) → is_true (compared o (value.Int k) v) ≡ true → has_in (keys_by o v) k ≡ true
  left_by o value.Null h = cc
  left_by o (value.Int n) h = key_passes k n fits o (true_test (passes o (int_cmp k n)) h)
  left_by o (value.Text t) h = in_all k fits

  right_by : (o : Op) (v : Value) → is_true (compared o v (value.Int k)) ≡ true → has_in (keys_by (mirrored o) v) k ≡ true
  right_by o value.Null h = cc
  right_by o (value.Int n) h = passes_key k n fits o (true_test (passes o (int_cmp n k)) h)
  right_by o (value.Text t) h = in_all k fits

  left_test : (o : Op) (c : ColRef) (v : Value) (b : Bool) → is_the_key entry c ≡ b → is_true (compared o (column_value rows c) v) ≡ true → has_in (cond b (keys_by o v) all_keys) k ≡ true
  left_test o c v true e h = left_by o v (sym (ap (λ (w : Value). is_true (compared o w v)) (key_value c e)) ∙ h)
  left_test o c v false e h = in_all k fits

  right_test : (o : Op) (c : ColRef) (v : Value) (b : Bool) → is_the_key entry c ≡ b → is_true (compared o v (column_value rows c)) ≡ true → has_in (cond b (keys_by (mirrored o) v) all_keys) k ≡ true
  right_test o c v true e h = right_by o v (sym (ap (λ (w : Value). is_true (compared o v w)) (key_value c e)) ∙ h)
  right_test o c v false e h = in_all k fits

  compared_told : (o : Op) (a b : Operand) → is_true (compared o (operand_value rows a) (operand_value rows b)) ≡ true → has_in (compared_keys entry o a b) k ≡ true
  compared_told o (operand.Col c) (operand.Lit v) h = left_test o c v (is_the_key entry c) refl h
  compared_told o (operand.Lit v) (operand.Col c) h = right_test o c v (is_the_key entry c) refl h
  compared_told o (operand.Col c) (operand.Col d) h = in_all k fits
  compared_told o (operand.Lit v) (operand.Lit w) h = in_all k fits

  told_compare : (o : Op) (a b : Operand) → Told (pred.Compare o a b)
  told_compare o a b h = ap (λ (keys : Option Keys). has_in keys k) (keys_compare entry o a b) ∙ compared_told o a b (sym (ap is_true (truth_compare rows o a b)) ∙ h)

  told_is_null : (a : Operand) → Told (pred.IsNull a)
  told_is_null a h = ap (λ (keys : Option Keys). has_in keys k) (keys_is_null entry a) ∙ in_all k fits

  both_true : (x y : Truth) → is_true (both x y) ≡ true → (is_true x ≡ true) × (is_true y ≡ true)
  both_true False y h = cc
  both_true True y h = (refl, h)
  both_true Unknown False h = cc
  both_true Unknown True h = cc
  both_true Unknown Unknown h = cc

  either_true : (x y : Truth) → is_true (either x y) ≡ true → (is_true x ≡ true) ⊎ (is_true y ≡ true)
  either_true True y h = inl refl
  either_true False y h = inr h
  either_true Unknown True h = inr refl
  either_true Unknown False h = cc
  either_true Unknown Unknown h = cc

  told_and : (a b : Pred) → Told a → Told b → Told (pred.And a b)
  told_and a b left right h =
      let parts = both_true (truth_of a rows) (truth_of b rows) (sym (ap is_true (truth_and rows a b)) ∙ h) in
      ap (λ (keys : Option Keys). has_in keys k) (keys_and entry a b) ∙ in_common (keys_of entry a) (keys_of entry b) k (left parts.0) (right parts.1)

  told_or : (a b : Pred) → Told a → Told b → Told (pred.Or a b)
  told_or a b left right h =
      ap (λ (keys : Option Keys). has_in keys k) (keys_or entry a b) ∙ elim (either_true (truth_of a rows) (truth_of b rows) (sym (ap is_true (truth_or rows a b)) ∙ h)) [
        | inl one ↦ in_left (keys_of entry a) (keys_of entry b) k (left one)
        | inr two ↦ in_right (keys_of entry a) (keys_of entry b) k (right two)
      ]

  told_not : (a : Pred) → Told (pred.Not a)
  told_not a h = ap (λ (keys : Option Keys). has_in keys k) (keys_not entry a) ∙ in_all k fits

  told_form : (y : Pred-F ((p : Pred) × Told p)) → Told (roll-Pred (map-Pred ((p : Pred) × Told p) Pred (λ p. p.0) y))
  told_form (Pred-F.Compare o a b) = subst Told (sym (pred.rolls-Compare o a b)) (told_compare o a b)
  told_form (Pred-F.IsNull a) = subst Told (sym (pred.rolls-IsNull a)) (told_is_null a)
  told_form (Pred-F.And a b) = subst Told (sym (pred.rolls-And a.0 b.0)) (told_and a.0 b.0 a.1 b.1)
  told_form (Pred-F.Or a b) = subst Told (sym (pred.rolls-Or a.0 b.0)) (told_or a.0 b.0 a.1 b.1)
  told_form (Pred-F.Not a) = subst Told (sym (pred.rolls-Not a.0)) (told_not a.0)

  told : (p : Pred) → Told p
  told = ind-Pred Told (λ x y is. subst (λ z. Told (roll-Pred z)) is (told_form y))

  pub kept_has : (condition : Option Pred) → is_kept condition rows ≡ true → has_in (kept_keys entry condition) k ≡ true
  kept_has None h = in_all k fits
  kept_has (Some p) h = told p h
