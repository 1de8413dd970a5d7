-- Which keys the intervals have, exactly.
use Rattle.std.proofs.Common.{◌≡◌, ℕ, ℤ, pos, ◌+ℤ◌, ◌-ℤ◌, Bool, true, false, ◌&&◌, cond, refl, ap, sym, ◌∙◌, arith}
use Rattle.std.specs.Prelude.{◌≢◌, Option, Some, None, int_le, int_lt}
use Rattle.std.specs.Int.{int_max, int_min}
use Rattle.std.specs.Ordering.{int_cmp, is_eq, is_lt, is_le, is_gt, is_ge}
use Rattle.std.specs.declared.cmp.Ordering.TheVariants.{Less, Equal, Greater}
use Rattle.std.proofs.lemmas.Bool.{and_from, and_parts, both_ways, false_from_ne_true}
use Rattle.std.proofs.lemmas.Bool.Decides.{same_from_decides}
use Rattle.std.proofs.lemmas.Int.{ints}
use Rattle.hr_rel.specs.declared.expr.Op.{Op}
use Rattle.hr_rel.specs.declared.expr.Op.TheVariants as op
use Rattle.hr_rel.specs.Kinds.{fits_i64}
use Rattle.hr_meaning.specs.Truth.{passes}
use Rattle.hr_parts.specs.declared.keys.Keys.{Keys}
use Rattle.hr_parts.specs.Footprints.{least_key, greatest_key}
use Rattle.hr_parts.specs.Keys.{has_in, from_to, common, spanning, keys_to}
use Rattle.hr_parts.proofs.Cover.{le_through}
use Rattle.hr_parts.proofs.KeyLaws.{in_common, key_passes}

both_true : (x y : Bool) → (x ≡ true → y ≡ true) → (y ≡ true → x ≡ true) → x ≡ y
both_true x y f g = same_from_decides {P = y ≡ true} x y (f, g) (λ h. h, λ h. h)

-- ---- one interval

ends : (low high k : ℤ) → has_in (from_to low high) k ≡ true → (int_le low k ≡ true) × (int_le k high ≡ true)
ends low high k h = by_test (int_le low high) h
  where
    by_test : (b : Bool) → has_in (cond b (Some record { low = low; high = high }) None) k ≡ true → (int_le low k ≡ true) × (int_le k high ≡ true)
    by_test true g = and_parts (int_le low k) (int_le k high) g
    by_test false g = cc

-- ---- the common part

first_at_most : (x y : ℤ) → int_le x (int_max x y) ≡ true
first_at_most x y = by_test (int_lt y x) refl
  where
    by_test : (b : Bool) → int_lt y x ≡ b → int_le x (cond b x y) ≡ true
    by_test true e = grind (arith, ints)
    by_test false e = grind (arith, ints)

second_at_most : (x y : ℤ) → int_le y (int_max x y) ≡ true
second_at_most x y = by_test (int_lt y x) refl
  where
    by_test : (b : Bool) → int_lt y x ≡ b → int_le y (cond b x y) ≡ true
    by_test true e = grind (arith, ints)
    by_test false e = grind (arith, ints)

least_at_first : (x y : ℤ) → int_le (int_min x y) x ≡ true
least_at_first x y = by_test (int_lt y x) refl
  where
    by_test : (b : Bool) → int_lt y x ≡ b → int_le (cond b y x) x ≡ true
    by_test true e = grind (arith, ints)
    by_test false e = grind (arith, ints)

least_at_second : (x y : ℤ) → int_le (int_min x y) y ≡ true
least_at_second x y = by_test (int_lt y x) refl
  where
    by_test : (b : Bool) → int_lt y x ≡ b → int_le (cond b y x) y ≡ true
    by_test true e = grind (arith, ints)
    by_test false e = grind (arith, ints)

of_common : (a b : Option Keys) (k : ℤ) → has_in (common a b) k ≡ true → (has_in a k && has_in b k) ≡ true
of_common None b k h = h
of_common (Some a) None k h = cc
of_common (Some a) (Some b) k h =
    let within = ends (int_max a.low b.low) (int_min a.high b.high) k h in
    and_from (has_in (Some a) k) (has_in (Some b) k)
    (and_from (int_le a.low k) (int_le k a.high) (le_through a.low (int_max a.low b.low) k (first_at_most a.low b.low) within.0)
    (le_through k (int_min a.high b.high) a.high within.1 (least_at_first a.high b.high)))
    (and_from (int_le b.low k) (int_le k b.high) (le_through b.low (int_max a.low b.low) k (second_at_most a.low b.low) within.0)
    (le_through k (int_min a.high b.high) b.high within.1 (least_at_second a.high b.high)))

pub common_has : (a b : Option Keys) (k : ℤ) → has_in (common a b) k ≡ (has_in a k && has_in b k)
common_has a b k = both_true (has_in (common a b) k) (has_in a k && has_in b k) (of_common a b k) (λ h. let parts = and_parts (has_in a k) (has_in b k) h in in_common a b k parts.0 parts.1)

-- ---- the least that holds both

pub spanning_is_least : (a b c : Keys) → has_in (Some c) a.low ≡ true → has_in (Some c) a.high ≡ true → has_in (Some c) b.low ≡ true → has_in (Some c) b.high ≡ true
    → (k : ℤ) → has_in (spanning (Some a) (Some b)) k ≡ true → has_in (Some c) k ≡ true
spanning_is_least a b c low high other_low other_high k h =
    let within = and_parts (int_le (int_min a.low b.low) k) (int_le k (int_max a.high b.high)) h in
    and_from (int_le c.low k) (int_le k c.high)
    (le_through c.low (int_min a.low b.low) k (above_both (int_lt b.low a.low) (and_parts (int_le c.low a.low) (int_le a.low c.high) low).0 (and_parts (int_le c.low b.low) (int_le b.low c.high) other_low).0) within.0)
    (le_through k (int_max a.high b.high) c.high within.1 (below_both (int_lt b.high a.high) (and_parts (int_le c.low a.high) (int_le a.high c.high) high).1 (and_parts (int_le c.low b.high) (int_le b.high c.high) other_high).1))
  where
    above_both : (t : Bool) → int_le c.low a.low ≡ true → int_le c.low b.low ≡ true → int_le c.low (cond t b.low a.low) ≡ true
    above_both true e f = f
    above_both false e f = e

    below_both : (t : Bool) → int_le a.high c.high ≡ true → int_le b.high c.high ≡ true → int_le (cond t a.high b.high) c.high ≡ true
    below_both true e f = e
    below_both false e f = f

-- ---- comparisons

tells_eq : (x y : Bool) → x ≡ false → y ≡ false → is_eq (cond x Less (cond y Greater Equal)) ≡ true
tells_eq true y e f = cc
tells_eq false true e f = cc
tells_eq false false e f = refl

tells_lt : (x y : Bool) → x ≡ true → is_lt (cond x Less (cond y Greater Equal)) ≡ true
tells_lt true y e = refl
tells_lt false y e = cc

tells_le : (x y : Bool) → y ≡ false → is_le (cond x Less (cond y Greater Equal)) ≡ true
tells_le true y f = refl
tells_le false true f = cc
tells_le false false f = refl

tells_gt : (x y : Bool) → x ≡ false → y ≡ true → is_gt (cond x Less (cond y Greater Equal)) ≡ true
tells_gt true y e f = cc
tells_gt false true e f = refl
tells_gt false false e f = cc

tells_ge : (x y : Bool) → x ≡ false → is_ge (cond x Less (cond y Greater Equal)) ≡ true
tells_ge true y e = cc
tells_ge false true e = refl
tells_ge false false e = refl

not_less : (a b : ℤ) → int_le a b ≡ true → int_lt b a ≡ true → ⊥
not_less a b h k = grind (arith, ints)

not_lt : (a b : ℤ) → int_le a b ≡ true → int_lt b a ≡ false
not_lt a b h = false_from_ne_true (int_lt b a) (not_less a b h)

below_is_less : (k n : ℤ) → int_le k (n -ℤ pos 1) ≡ true → int_lt k n ≡ true
below_is_less k n h = grind (arith, ints)

above_is_greater : (k n : ℤ) → int_le (n +ℤ pos 1) k ≡ true → int_lt n k ≡ true
above_is_greater k n h = grind (arith, ints)

less_is_at_most : (k n : ℤ) → int_lt n k ≡ true → int_le n k ≡ true
less_is_at_most k n h = grind (arith, ints)

passing : (o : Op) (n k : ℤ) → o ≢ op.Ne → has_in (keys_to o n) k ≡ true → passes o (int_cmp k n) ≡ true
passing op.Eq n k ne h = let within = ends n n k h in tells_eq (int_lt k n) (int_lt n k) (not_lt n k within.0) (not_lt k n within.1)
passing op.Ne n k ne h = absurd (ne refl)
passing op.Lt n k ne h = tells_lt (int_lt k n) (int_lt n k) (below_is_less k n (ends least_key (n -ℤ pos 1) k h).1)
passing op.Le n k ne h = tells_le (int_lt k n) (int_lt n k) (not_lt k n (ends least_key n k h).1)
passing op.Gt n k ne h =
    let more = above_is_greater k n (ends (n +ℤ pos 1) greatest_key k h).0 in
    tells_gt (int_lt k n) (int_lt n k) (not_lt n k (less_is_at_most k n more)) more
passing op.Ge n k ne h = tells_ge (int_lt k n) (int_lt n k) (not_lt n k (ends n greatest_key k h).0)

pub keys_to_has : (o : Op) (n k : ℤ) → o ≢ op.Ne → fits_i64 k ≡ true → has_in (keys_to o n) k ≡ passes o (int_cmp k n)
keys_to_has o n k ne fits = both_true (has_in (keys_to o n) k) (passes o (int_cmp k n)) (passing o n k ne) (key_passes k n fits o)
