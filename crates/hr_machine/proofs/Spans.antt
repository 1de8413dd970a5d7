-- Rows of which none outside of a stretch passes a test.
use Rattle.std.proofs.Common.{◌≡◌, ℕ, zero, suc, ◌-◌, ◌≤◌, ◌<◌, Bool, true, false, not, ◌||◌, ◌&&◌, cond, List, [], ◌∷◌, ◌++◌, length, map, filter, take, drop, get_or, refl, ap, sym, ◌∙◌, arith}
use Rattle.std.specs.List.{list_any, remove}
use Rattle.std.proofs.lemmas.Bool.{or_parts}
use Rattle.hr_rel.specs.declared.value.Value.{Value}
use Rattle.hr_rel.specs.declared.stmt.SelectStmt.{SelectStmt}
use Rattle.hr_meaning.specs.Truth.{Tuple, is_kept}
use Rattle.hr_meaning.specs.Insert.{has_key}
use Rattle.hr_meaning.specs.Exec.{tuples, kept_rows, other_rows}
use Rattle.hr_keys.specs.Keys.{IsClear}
use Rattle.hr_machine.specs.Kept.{keeps, kept_of, single}

nor : (a b : Bool) → a ≡ false → b ≡ false → (a || b) ≡ false
nor true b e f = cc
nor false b e f = f

module _ {X : Type 0} (p : X → Bool) where
  any_front : (xs : List X) (to : ℕ) → list_any p (drop to xs) ≡ false → list_any p (take to xs) ≡ list_any p xs
  any_front [] zero e = refl
  any_front [] (suc to) e = refl
  any_front (x ∷ xs) zero e = sym e
  any_front (x ∷ xs) (suc to) e = ap (λ b. p x || b) (any_front xs to e)

  any_by : (b c d : Bool) → b ≡ false → c ≡ d → c ≡ (b || d)
  any_by true c d e f = cc
  any_by false c d e f = f

  pub any_within : (xs : List X) (from to : ℕ) → from ≤ to → list_any p (take from xs) ≡ false → list_any p (drop to xs) ≡ false → list_any p (take (to - from) (drop from xs)) ≡ list_any p xs
  any_within xs zero to le e f =
      let same : to - 0 ≡ to = omega arith in
      ap (λ n. list_any p (take n xs)) same ∙ any_front xs to f
  any_within [] (suc from) to le e f = any_front [] (to - suc from) (none (to - suc from))
    where
      none : (n : ℕ) → list_any p (drop n []) ≡ false
      none zero = refl
      none (suc n) = refl
  any_within (x ∷ xs) (suc from) zero le e f = absurd (omega (arith, le))
  any_within (x ∷ xs) (suc from) (suc to) le e f =
      let same : suc to - suc from ≡ to - from = omega arith in
      let parts = or_parts (p x) (list_any p (take from xs)) e in
      ap (λ n. list_any p (take n (drop from xs))) same ∙ any_by (p x) (list_any p (take (to - from) (drop from xs))) (list_any p xs) parts.0 (any_within xs from to (omega (arith, le)) parts.1 f)

  none_kept_by : (x : X) (xs : List X) (b : Bool) → b ≡ false → filter p xs ≡ [] → cond b (x ∷ filter p xs) (filter p xs) ≡ []
  none_kept_by x xs true e h = cc
  none_kept_by x xs false e h = h

  none_kept : (xs : List X) → list_any p xs ≡ false → filter p xs ≡ []
  none_kept [] e = refl
  none_kept (x ∷ xs) e = let parts = or_parts (p x) (list_any p xs) e in none_kept_by x xs (p x) parts.0 (none_kept xs parts.1)

  front_by : (x : X) (ys zs : List X) (b : Bool) → ys ≡ zs → cond b (x ∷ ys) ys ≡ cond b (x ∷ zs) zs
  front_by x ys zs b h = ap (λ (l : List X). cond b (x ∷ l) l) h

  filter_front : (xs : List X) (to : ℕ) → list_any p (drop to xs) ≡ false → filter p (take to xs) ≡ filter p xs
  filter_front [] zero e = refl
  filter_front [] (suc to) e = refl
  filter_front (x ∷ xs) zero e = sym (none_kept (x ∷ xs) e)
  filter_front (x ∷ xs) (suc to) e = front_by x (filter p (take to xs)) (filter p xs) (p x) (filter_front xs to e)

  filter_by : (x : X) (ys zs : List X) (b : Bool) → b ≡ false → ys ≡ zs → ys ≡ cond b (x ∷ zs) zs
  filter_by x ys zs true e h = cc
  filter_by x ys zs false e h = h

  filter_within : (xs : List X) (from to : ℕ) → from ≤ to → list_any p (take from xs) ≡ false → list_any p (drop to xs) ≡ false → filter p (take (to - from) (drop from xs)) ≡ filter p xs
  filter_within xs zero to le e f =
      let same : to - 0 ≡ to = omega arith in
      ap (λ n. filter p (take n xs)) same ∙ filter_front xs to f
  filter_within [] (suc from) to le e f = filter_front [] (to - suc from) (none (to - suc from))
    where
      none : (n : ℕ) → list_any p (drop n []) ≡ false
      none zero = refl
      none (suc n) = refl
  filter_within (x ∷ xs) (suc from) zero le e f = absurd (omega (arith, le))
  filter_within (x ∷ xs) (suc from) (suc to) le e f =
      let same : suc to - suc from ≡ to - from = omega arith in
      let parts = or_parts (p x) (list_any p (take from xs)) e in
      ap (λ n. filter p (take n (drop from xs))) same
      ∙ filter_by x (filter p (take (to - from) (drop from xs))) (filter p xs) (p x) parts.0 (filter_within xs from to (omega (arith, le)) parts.1 f)

  -- ---- none at all

  pub none_beside_one : (xs : List X) (from : ℕ) (d : X) → from < length xs → p (get_or xs from d) ≡ false → list_any p (take from xs) ≡ false → list_any p (drop (suc from) xs) ≡ false → list_any p xs ≡ false
  none_beside_one [] from d lt e f g = absurd (omega arith)
  none_beside_one (x ∷ xs) zero d lt e f g = nor (p x) (list_any p xs) e g
  none_beside_one (x ∷ xs) (suc from) d lt e f g =
      let parts = or_parts (p x) (list_any p (take from xs)) f in
      nor (p x) (list_any p xs) parts.0 (none_beside_one xs from d (omega arith) e parts.1 g)

  pub none_on_both_sides : (xs : List X) (from : ℕ) → list_any p (take from xs) ≡ false → list_any p (drop from xs) ≡ false → list_any p xs ≡ false
  none_on_both_sides [] from f g = refl
  none_on_both_sides (x ∷ xs) zero f g = g
  none_on_both_sides (x ∷ xs) (suc from) f g =
      let parts = or_parts (p x) (list_any p (take from xs)) f in
      nor (p x) (list_any p xs) parts.0 (none_on_both_sides xs from parts.1 g)

  -- ---- one element taken away

  all_left_by : (x : X) (xs : List X) (b : Bool) → b ≡ false → filter (λ y. not (p y)) xs ≡ xs → cond (not b) (x ∷ filter (λ y. not (p y)) xs) (filter (λ y. not (p y)) xs) ≡ x ∷ xs
  all_left_by x xs true e h = cc
  all_left_by x xs false e h = ap (λ (l : List X). x ∷ l) h

  pub all_left : (xs : List X) → list_any p xs ≡ false → filter (λ y. not (p y)) xs ≡ xs
  all_left [] e = refl
  all_left (x ∷ xs) e = let parts = or_parts (p x) (list_any p xs) e in all_left_by x xs (p x) parts.0 (all_left xs parts.1)

  pub none_counted : (xs : List X) → list_any p xs ≡ false → length (filter p xs) ≡ 0
  none_counted xs e = ap length (none_kept xs e)

  others_by : (x : X) (xs : List X) (b : Bool) → b ≡ true → filter (λ y. not (p y)) xs ≡ xs → cond (not b) (x ∷ filter (λ y. not (p y)) xs) (filter (λ y. not (p y)) xs) ≡ xs
  others_by x xs true e h = h
  others_by x xs false e h = cc

  pub one_taken : (xs : List X) (i : ℕ) (d : X) → i < length xs → p (get_or xs i d) ≡ true → list_any p (take i xs) ≡ false → list_any p (drop (suc i) xs) ≡ false
      → filter (λ y. not (p y)) xs ≡ remove xs i
  one_taken [] i d lt e f g = absurd (omega arith)
  one_taken (x ∷ xs) zero d lt e f g = others_by x xs (p x) e (all_left xs g)
  one_taken (x ∷ xs) (suc i) d lt e f g =
      let parts = or_parts (p x) (list_any p (take i xs)) f in
      left_by (p x) parts.0 (one_taken xs i d (omega arith) e parts.1 g)
    where
      left_by : (b : Bool) → b ≡ false → filter (λ y. not (p y)) xs ≡ remove xs i → cond (not b) (x ∷ filter (λ y. not (p y)) xs) (filter (λ y. not (p y)) xs) ≡ x ∷ remove xs i
      left_by true h k = cc
      left_by false h k = ap (λ (l : List X). x ∷ l) k

  pub one_counted : (xs : List X) (i : ℕ) (d : X) → i < length xs → p (get_or xs i d) ≡ true → list_any p (take i xs) ≡ false → list_any p (drop (suc i) xs) ≡ false → length (filter p xs) ≡ 1
  one_counted [] i d lt e f g = absurd (omega arith)
  one_counted (x ∷ xs) zero d lt e f g = counted_by (p x) e
    where
      counted_by : (b : Bool) → b ≡ true → length (cond b (x ∷ filter p xs) (filter p xs)) ≡ 1
      counted_by true h = ap suc (none_counted xs g)
      counted_by false h = cc
  one_counted (x ∷ xs) (suc i) d lt e f g =
      let parts = or_parts (p x) (list_any p (take i xs)) f in
      counted_by (p x) parts.0 (one_counted xs i d (omega arith) e parts.1 g)
    where
      counted_by : (b : Bool) → b ≡ false → length (filter p xs) ≡ 1 → length (cond b (x ∷ filter p xs) (filter p xs)) ≡ 1
      counted_by true h k = cc
      counted_by false h k = k

-- ---- what a SELECT keeps

module _ (s : SelectStmt) where
  kept_by : (row : List Value) (b : Bool) (ts : List Tuple) (rows : List (List Value)) → ts ≡ map single rows → cond b ((row ∷ []) ∷ ts) ts ≡ map single (cond b (row ∷ rows) rows)
  kept_by row true ts rows e = ap (λ (l : List Tuple). (row ∷ []) ∷ l) e
  kept_by row false ts rows e = e

  kept_as : (rows : List (List Value)) → kept_of s (tuples (rows ∷ [])) ≡ map single (filter (λ row. keeps s (row ∷ [])) rows)
  kept_as [] = refl
  kept_as (row ∷ rows) = kept_by row (keeps s (row ∷ [])) (kept_of s (tuples (rows ∷ []))) (filter (λ r. keeps s (r ∷ [])) rows) (kept_as rows)

  none_by : (a b : Bool) → b ≡ false → (a && b) ≡ false
  none_by true b e = e
  none_by false b e = refl

  none_keeps : (rows : List (List Value)) → list_any (λ row. is_kept s.filter (row ∷ [])) rows ≡ false → list_any (λ row. keeps s (row ∷ [])) rows ≡ false
  none_keeps [] e = refl
  none_keeps (row ∷ rows) e =
      let parts = or_parts (is_kept s.filter (row ∷ [])) (list_any (λ r. is_kept s.filter (r ∷ [])) rows) e in
      nor (keeps s (row ∷ [])) (list_any (λ r. keeps s (r ∷ [])) rows) (none_by (is_kept s.on (row ∷ [])) (is_kept s.filter (row ∷ [])) parts.0) (none_keeps rows parts.1)

  pub kept_within : (rows : List (List Value)) (from to : ℕ) → from ≤ to → IsClear (λ row. is_kept s.filter (row ∷ [])) from to rows
      → kept_of s (tuples (take (to - from) (drop from rows) ∷ [])) ≡ kept_of s (tuples (rows ∷ []))
  kept_within rows from to le clear =
      kept_as (take (to - from) (drop from rows))
      ∙ ap (map single) (filter_within (λ row. keeps s (row ∷ [])) rows from to le (none_keeps (take from rows) clear.0) (none_keeps (drop to rows) clear.1))
      ∙ sym (kept_as rows)
