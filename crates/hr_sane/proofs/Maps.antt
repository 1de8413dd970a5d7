-- A map over the numbers of a list, and over the keys of its entries, is a map over the list.
use Rattle.std.proofs.Common.{◌≡◌, ℕ, suc, ◌+◌, Bool, true, false, not, ◌==◌, nat_eq, Some, List, [], ◌∷◌, length, map, slice_get, refl, ap, sym, ◌∙◌, arith}
use Rattle.std.specs.Map.{lookup}
use Rattle.std.specs.List.{range_with_len}
use Rattle.std.proofs.lemmas.Bool.{and_parts, eq-eqb, ne_eqb}
use Rattle.hr_base.specs.Lists.{has, is_distinct}
use Rattle.hr_records.proofs.Options.{some_none}
use Rattle.hr_moves.specs.Changes.{map_from}
use Rattle.hr_sane.proofs.Lists.{on_true, on_false, lookup_absent}

module _ {X : Type 0} where
  pub map_is : (g : ℕ → X) (k : ℕ → X → X) (a : ℕ) (xs : List X) → ((i j : ℕ) (x : X) → a + i ≡ j → slice_get xs i ≡ Some x → g j ≡ k j x) → map g (range_with_len a (length xs)) ≡ map_from k a xs
  map_is g k a [] each = refl
  map_is g k a (x ∷ xs) each = λ n. each 0 a x (omega arith) refl n ∷ map_is g k (a + 1) xs (λ i j y at got. each (suc i) j y (omega (arith, at)) got) n

  pub map_whole : (g : ℕ → X) (a : ℕ) (xs : List X) → ((i j : ℕ) (x : X) → a + i ≡ j → slice_get xs i ≡ Some x → g j ≡ x) → map g (range_with_len a (length xs)) ≡ xs
  map_whole g a [] each = refl
  map_whole g a (x ∷ xs) each = λ n. each 0 a x (omega arith) refl n ∷ map_whole g (a + 1) xs (λ i j y at got. each (suc i) j y (omega (arith, at)) got) n

  pub map_twice : (k l : ℕ → X → X) (a : ℕ) (xs : List X) → map_from k a (map_from l a xs) ≡ map_from (λ n x. k n (l n x)) a xs
  map_twice k l a [] = refl
  map_twice k l a (x ∷ xs) = ap (λ ys. k a (l a x) ∷ ys) (map_twice k l (a + 1) xs)

  pub lookup_has : (t : ℕ) (es : List (ℕ × X)) (x : X) → lookup (nat_eq t) es ≡ Some x → has (map (λ (p : ℕ × X). p.0) es) t ≡ true
  lookup_has t es x got = by_test (has (map (λ (p : ℕ × X). p.0) es) t) refl
    where
      by_test : (b : Bool) → has (map (λ (p : ℕ × X). p.0) es) t ≡ b → has (map (λ (p : ℕ × X). p.0) es) t ≡ true
      by_test true e = e
      by_test false e = absurd (some_none x (sym got ∙ lookup_absent t es e))

  pub by_entries : (g : ℕ → X) (k : ℕ → X → X) (es : List (ℕ × X)) → is_distinct (map (λ (p : ℕ × X). p.0) es) ≡ true → ((t : ℕ) (x : X) → lookup (nat_eq t) es ≡ Some x → g t ≡ k t x)
      → map {B = ℕ × X} (λ t. (t, g t)) (map (λ (p : ℕ × X). p.0) es) ≡ map {B = ℕ × X} (λ (p : ℕ × X). (p.0, k p.0 p.1)) es
  by_entries g k [] d each = refl
  by_entries g k (e ∷ es) d each =
      let both = and_parts (not (has (map (λ (p : ℕ × X). p.0) es) e.0)) (is_distinct (map (λ (p : ℕ × X). p.0) es)) d in
      let first = each e.0 e.1 (on_true (e.0 == e.0) (Some e.1) (lookup (nat_eq e.0) es) (eq-eqb e.0 e.0 refl)) in
      let later = by_entries g k es both.1 (λ t x got. each t x (on_false (t == e.0) (Some e.1) (lookup (nat_eq t) es) (ne_eqb t e.0 (λ same. alone (has (map (λ (p : ℕ × X). p.0) es) e.0) both.0 (ap (has (map (λ (p : ℕ × X). p.0) es)) (sym same) ∙ lookup_has t es x got))) ∙ got)) in
      λ i. (e.0, first i) ∷ later i
    where
      alone : (b : Bool) → not b ≡ true → b ≡ true → ⊥
      alone true n h = cc n
      alone false n h = cc h
