-- Sums and counts, as totals over lists, and what one place adds to them.
use Rattle.std.proofs.Common.{◌≡◌, ℕ, zero, suc, ◌+◌, ◌*◌, ◌<◌, ◌≤◌, Bool, true, false, not, ◌==◌, nat_eq, cond, Some, List, [], ◌∷◌, ◌++◌, length, map, filter, sum, count_by, refl, ap, sym, ◌∙◌, subst, arith}
use Rattle.std.specs.Map.{lookup}
use Rattle.std.specs.List.{range_with_len}
use Rattle.std.proofs.lemmas.Bool.{and_parts, eqb-true, eq-eqb, ne_eqb}
use Rattle.std.proofs.lemmas.List.Sums.{sum_by-cons, length-filter}
use Rattle.hr_base.specs.Lists.{has, is_distinct}
use Rattle.hr_base.proofs.Tests.{or_false}
use Rattle.hr_history.specs.View.{Attempt}
use Rattle.hr_records.proofs.Options.{same_some}
use Rattle.hr_moves.specs.Measure.{may_be_preempted}

module _ {X : Type 0} where
  abbrev pub total : (X → ℕ) → List X → ℕ
  total g [] = 0
  total g (x ∷ xs) = g x + total g xs

  pub count_total : (p : X → Bool) (xs : List X) → count_by p xs ≡ total (λ x. cond (p x) 1 0) xs
  count_total p [] = refl
  count_total p (x ∷ xs) = sum_by-cons (λ y. cond (p y) 1 0) x xs ∙ ap (λ n. cond (p x) 1 0 + n) (count_total p xs)

  pub total_le : (g k : X → ℕ) (xs : List X) → ((x : X) → g x ≤ k x) → total g xs ≤ total k xs
  total_le g k [] each = omega arith
  total_le g k (x ∷ xs) each = omega (arith, each x, total_le g k xs each)

  pub total_end : (g : X → ℕ) (xs : List X) (x : X) → total g (xs ++ x ∷ []) ≡ total g xs + g x
  total_end g [] x = omega arith
  total_end g (y ∷ xs) x = omega (arith, total_end g xs x)

  pub total_twice : (g h : X → ℕ) (xs : List X) → total (λ x. g x + 2 * h x) xs ≡ total g xs + 2 * total h xs
  total_twice g h [] = refl
  total_twice g h (x ∷ xs) = omega (arith, total_twice g h xs)

pub one_le : (b c : Bool) → (b ≡ true → c ≡ true) → cond b 1 0 ≤ cond c 1 0
one_le true true h = omega arith
one_le true false h = cc (h refl)
one_le false true h = omega arith
one_le false false h = omega arith

pub sum_total : (g : ℕ → ℕ) (xs : List ℕ) → sum (map g xs) ≡ total g xs
sum_total g [] = refl
sum_total g (x ∷ xs) = sum_by-cons (λ n. n) (g x) (map g xs) ∙ ap (λ n. g x + n) (sum_total g xs)

pub filter_total : (p : ℕ → Bool) (xs : List ℕ) → length (filter p xs) ≡ total (λ x. cond (p x) 1 0) xs
filter_total p xs = length-filter p xs ∙ count_total p xs

-- ---- over numbers

module _ (g k : ℕ → ℕ) where
  pub range_le : (a n : ℕ) → ((x : ℕ) → a ≤ x → x < a + n → g x ≤ k x) → total g (range_with_len a n) ≤ total k (range_with_len a n)
  range_le a zero each = omega arith
  range_le a (suc n) each = omega (arith, each a (omega arith) (omega arith), range_le (a + 1) n (λ x low high. each x (omega (arith, low)) (omega (arith, high))))

  module _ (r c d : ℕ) (other : (x : ℕ) → (x == r) ≡ false → g x ≤ k x) (here : g r + c ≤ k r + d) where
    range_by : (b : Bool) (a n : ℕ) → (a == r) ≡ b → a ≤ r → r < a + suc n
        → (a + 1 ≤ r → r < a + 1 + n → total g (range_with_len (a + 1) n) + c ≤ total k (range_with_len (a + 1) n) + d)
        → g a + total g (range_with_len (a + 1) n) + c ≤ k a + total k (range_with_len (a + 1) n) + d
    range_by true a n e low high rest =
        let same : a ≡ r = eqb-true a r e in
        let head : g a + c ≤ k a + d = subst (λ x. g x + c ≤ k x + d) (sym same) here in
        let tail = range_le (a + 1) n (λ x over under. other x (ne_eqb x r (λ is. omega (arith, same, over, is)))) in
        omega (arith, head, tail)
    range_by false a n e low high rest =
        let apart : a ≡ r → ⊥ = λ same. wrong e (eq-eqb a r same) in
        omega (arith, other a e, rest (omega (arith, low, apart)) (omega (arith, high)))
      where
        wrong : {b : Bool} → b ≡ false → b ≡ true → ⊥
        wrong x y = cc

    -- where only one place may be more, it tells by how much the total is more, or less
    pub range_at : (a n : ℕ) → a ≤ r → r < a + n → total g (range_with_len a n) + c ≤ total k (range_with_len a n) + d
    range_at a zero low high = absurd (omega (arith, low, high))
    range_at a (suc n) low high = range_by (a == r) a n refl low high (λ l h. range_at (a + 1) n l h)

pub range_more : (g : ℕ → ℕ) (a n : ℕ) → total g (range_with_len a (suc n)) ≡ total g (range_with_len a n) + g (a + n)
range_more g a zero = omega (arith, ap g zero_more)
  where
    zero_more : a + 0 ≡ a
    zero_more = omega arith
range_more g a (suc n) = omega (arith, range_more g (a + 1) n, ap g (next n))
  where
    next : (n : ℕ) → a + 1 + n ≡ a + suc n
    next n = omega arith

-- ---- over entries

abbrev Entries : Type 0
Entries = List (ℕ × Attempt)

abbrev pub counted : Entries → ℕ
counted es = total (λ (x : ℕ × Attempt). cond (may_be_preempted x) 1 0) es

module _ (k : ℕ → Attempt → Attempt) where
  abbrev changed : Entries → Entries
  changed es = map {B = ℕ × Attempt} (λ (x : ℕ × Attempt). (x.0, k x.0 x.1)) es

  pub count_le : (es : Entries) → ((t : ℕ) (a : Attempt) → may_be_preempted (t, k t a) ≡ true → may_be_preempted (t, a) ≡ true) → counted (changed es) ≤ counted es
  count_le [] each = omega arith
  count_le (x ∷ es) each = omega (arith, one_le (may_be_preempted (x.0, k x.0 x.1)) (may_be_preempted x) (each x.0 x.1), count_le es each)

  -- where no key is t
  count_other : (t : ℕ) (es : Entries) → has (map (λ (x : ℕ × Attempt). x.0) es) t ≡ false → ((u : ℕ) (a : Attempt) → (u == t) ≡ false → may_be_preempted (u, k u a) ≡ true → may_be_preempted (u, a) ≡ true) → counted (changed es) ≤ counted es
  count_other t [] none each = omega arith
  count_other t (x ∷ es) none each =
      let both = or_false (x.0 == t) (has (map (λ (y : ℕ × Attempt). y.0) es) t) none in
      omega (arith, one_le (may_be_preempted (x.0, k x.0 x.1)) (may_be_preempted x) (each x.0 x.1 both.0), count_other t es both.1 each)

  one_most : (b : Bool) → cond b 1 0 ≤ 1
  one_most true = omega arith
  one_most false = omega arith

  more_by : (t : ℕ) (x : ℕ × Attempt) (es : Entries) (b : Bool) → (x.0 == t) ≡ b → not (has (map (λ (y : ℕ × Attempt). y.0) es) x.0) ≡ true
      → ((u : ℕ) (a : Attempt) → (u == t) ≡ false → may_be_preempted (u, k u a) ≡ true → may_be_preempted (u, a) ≡ true) → counted (changed es) ≤ counted es + 1
      → cond (may_be_preempted (x.0, k x.0 x.1)) 1 0 + counted (changed es) ≤ cond (may_be_preempted x) 1 0 + counted es + 1
  more_by t x es true e alone each rest =
      let none : has (map (λ (y : ℕ × Attempt). y.0) es) t ≡ false = ap (has (map (λ (y : ℕ × Attempt). y.0) es)) (sym (eqb-true x.0 t e)) ∙ not_true (has (map (λ (y : ℕ × Attempt). y.0) es) x.0) alone in
      omega (arith, one_most (may_be_preempted (x.0, k x.0 x.1)), count_other t es none each)
    where
      not_true : (b : Bool) → not b ≡ true → b ≡ false
      not_true true h = cc h
      not_true false h = refl
  more_by t x es false e alone each rest = omega (arith, one_le (may_be_preempted (x.0, k x.0 x.1)) (may_be_preempted x) (each x.0 x.1 e), rest)

  -- at one key one more may be counted
  pub count_more : (t : ℕ) (es : Entries) → is_distinct (map (λ (x : ℕ × Attempt). x.0) es) ≡ true → ((u : ℕ) (a : Attempt) → (u == t) ≡ false → may_be_preempted (u, k u a) ≡ true → may_be_preempted (u, a) ≡ true)
      → counted (changed es) ≤ counted es + 1
  count_more t [] d each = omega arith
  count_more t (x ∷ es) d each =
      let both = and_parts (not (has (map (λ (y : ℕ × Attempt). y.0) es) x.0)) (is_distinct (map (λ (y : ℕ × Attempt). y.0) es)) d in
      more_by t x es (x.0 == t) refl both.0 each (count_more t es both.1 each)

  less_by : (t : ℕ) (a : Attempt) (x : ℕ × Attempt) (es : Entries) (b : Bool) → (t == x.0) ≡ b → cond b (Some x.1) (lookup (nat_eq t) es) ≡ Some a → may_be_preempted (t, a) ≡ true → may_be_preempted (t, k t a) ≡ false
      → ((u : ℕ) (c : Attempt) → may_be_preempted (u, k u c) ≡ true → may_be_preempted (u, c) ≡ true) → (lookup (nat_eq t) es ≡ Some a → counted (changed es) + 1 ≤ counted es)
      → cond (may_be_preempted (x.0, k x.0 x.1)) 1 0 + counted (changed es) + 1 ≤ cond (may_be_preempted x) 1 0 + counted es
  less_by t a x es true e got was gone each rest =
      let same : t ≡ x.0 = eqb-true t x.0 e in
      let its : x.1 ≡ a = same_some x.1 a got in
      let before : may_be_preempted x ≡ true = (λ i. may_be_preempted (sym same i, its i)) ∙ was in
      let after : may_be_preempted (x.0, k x.0 x.1) ≡ false = (λ i. may_be_preempted (sym same i, k (sym same i) (its i))) ∙ gone in
      omega (arith, ap {B = ℕ} (λ b. cond b 1 0) before, ap {B = ℕ} (λ b. cond b 1 0) after, count_le es each)
  less_by t a x es false e got was gone each rest = omega (arith, one_le (may_be_preempted (x.0, k x.0 x.1)) (may_be_preempted x) (each x.0 x.1), rest got)

  -- at one key one less is counted
  pub count_less : (t : ℕ) (a : Attempt) (es : Entries) → lookup (nat_eq t) es ≡ Some a → may_be_preempted (t, a) ≡ true → may_be_preempted (t, k t a) ≡ false
      → ((u : ℕ) (c : Attempt) → may_be_preempted (u, k u c) ≡ true → may_be_preempted (u, c) ≡ true) → counted (changed es) + 1 ≤ counted es
  count_less t a [] got was gone each = cc got
  count_less t a (x ∷ es) got was gone each = less_by t a x es (t == x.0) refl got was gone each (λ d. count_less t a es d was gone each)
