-- Two sorted lists with the same elements are one list.
use Rattle.std.proofs.Common.{◌≡◌, ℕ, suc, ◌+◌, ◌≤◌, false, cond, List, [], ◌∷◌, get_or, refl, ap, subst, ◌∙◌, sym, arith}
use Rattle.std.specs.List.{sum_by}
use Rattle.std.specs.List.Sorted.{IsPermutation, IsSorted}
use Rattle.std.specs.Cmp.{IsTotalOrder}
use Rattle.std.specs.Ordering.{is_lt, is_eq, ordering_reverse}
use Rattle.std.specs.declared.cmp.Ordering.{Ordering}
use Rattle.std.specs.declared.cmp.Ordering.TheVariants.{Less, Equal, Greater}
use Rattle.std.proofs.lemmas.List.Sorted.{sum_by-IsPermutation}
use Rattle.std.proofs.lemmas.List.Sums.{sum_by-cons}
use Rattle.std.proofs.lemmas.Map.Lookups.{CmpEqualImpliesEq}

module _ {X : Type 0} (R : X → X → Ordering) (o : IsTotalOrder R) (exact : CmpEqualImpliesEq R) where
  -- nothing of the list is below x
  abbrev Low : X → List X → Type 0
  Low x [] = Unit {0}
  Low x (y ∷ ys) = (is_lt (R y x) ≡ false) × Low x ys

  abbrev Ascending : List X → Type 0
  Ascending [] = Unit {0}
  Ascending (x ∷ xs) = Low x xs × Ascending xs

  turned : (a : Ordering) → a ≡ ordering_reverse a → a ≡ Equal
  turned Less e = cc
  turned Equal e = refl
  turned Greater e = cc

  itself : (x : X) → R x x ≡ Equal
  itself x = turned (R x x) (o.antisymm x x)

  not_less : (x y z : X) (a b : Ordering) → R y x ≡ a → R z x ≡ b → is_lt a ≡ false → is_lt (R z y) ≡ false → is_lt b ≡ false
  not_less x y z a Equal e f h k = refl
  not_less x y z a Greater e f h k = refl
  not_less x y z Less Less e f h k = h
  not_less x y z Equal Less e f h k =
      let less : R z y ≡ Less = o.antisymm z y ∙ ap ordering_reverse (o.congr y x z e) ∙ sym (o.antisymm z x) ∙ f in
      sym (ap is_lt less) ∙ k
  not_less x y z Greater Less e f h k =
      let less : R z y ≡ Less = o.trans z x y f (o.antisymm x y ∙ ap ordering_reverse e) in
      sym (ap is_lt less) ∙ k

  lower : (x y : X) (ys : List X) → is_lt (R y x) ≡ false → Low y ys → Low x ys
  lower x y [] h low = tt
  lower x y (z ∷ zs) h low = (not_less x y z (R y x) (R z x) refl refl h low.0, lower x y zs h low.1)

  tail_sorted : (x : X) (xs : List X) → IsSorted R (x ∷ xs) → IsSorted R xs
  tail_sorted x xs h = λ k d le lt.
      let next : suc k + 1 ≡ suc (k + 1) = omega arith in
      subst (λ (n : ℕ). is_lt (R (get_or (x ∷ xs) n d) (get_or xs k d)) ≡ false) next (h (suc k) d (omega arith) (omega arith))

  ascending : (xs : List X) → IsSorted R xs → Ascending xs
  ascending [] h = tt
  ascending (x ∷ []) h = (tt, tt)
  ascending (x ∷ y ∷ ys) h =
      let rest = ascending (y ∷ ys) (tail_sorted x (y ∷ ys) h) in
      let first : is_lt (R y x) ≡ false = h 0 x (omega arith) (omega arith) in
      ((first, lower x y ys first rest.0), rest)

  -- how often x stands in the list
  abbrev times : X → List X → ℕ
  times x xs = sum_by (λ z. cond (is_eq (R z x)) 1 0) xs

  found_at : (x y z : X) (a : Ordering) (n : ℕ) → R z x ≡ a → 1 ≤ cond (is_eq a) 1 0 + n → is_lt (R z y) ≡ false → (1 ≤ n → is_lt (R x y) ≡ false) → is_lt (R x y) ≡ false
  found_at x y z Less n e le h rest = rest (omega arith)
  found_at x y z Equal n e le h rest = subst (λ w. is_lt (R w y) ≡ false) (exact z x e) h
  found_at x y z Greater n e le h rest = rest (omega arith)

  -- x is in a list with nothing below y, so x isn't below y
  found : (x y : X) (ys : List X) → 1 ≤ times x ys → Low y ys → is_lt (R x y) ≡ false
  found x y [] le low = absurd (omega arith)
  found x y (z ∷ zs) le low =
      let split : times x (z ∷ zs) ≡ cond (is_eq (R z x)) 1 0 + times x zs = sum_by-cons _ z zs in
      found_at x y z (R z x) (times x zs) refl (subst (λ n. 1 ≤ n) split le) low.0 (λ more. found x y zs more low.1)

  -- the first of one list isn't below the first of the other
  heads : (x y : X) (xs ys : List X) → Low y ys → times x (x ∷ xs) ≡ times x (y ∷ ys) → is_lt (R x y) ≡ false
  heads x y xs ys low same =
      let there : times x (x ∷ xs) ≡ cond (is_eq (R x x)) 1 0 + times x xs = sum_by-cons _ x xs in
      let one : ℕ = 1 in
      let once : cond (is_eq (R x x)) 1 0 ≡ one = ap (λ (a : Ordering). cond (is_eq a) 1 0) (itself x) in
      found x y (y ∷ ys) (omega (arith, there, once, same)) (ap is_lt (itself y), low)

  neither : (x y : X) (a : Ordering) → R x y ≡ a → is_lt (R x y) ≡ false → is_lt (R y x) ≡ false → R x y ≡ Equal
  neither x y Equal e h k = e
  neither x y Less e h k = cc (ap is_lt e)
  neither x y Greater e h k =
      let turned : R y x ≡ Less = o.antisymm y x ∙ ap ordering_reverse e in
      cc (ap is_lt turned)

  one_list : (xs ys : List X) → Ascending xs → Ascending ys → ((f : X → ℕ) → sum_by f xs ≡ sum_by f ys) → xs ≡ ys
  one_list [] [] as' bs same = refl
  one_list [] (y ∷ ys) as' bs same = absurd (omega (arith, same (λ z. 1), sum_by-cons (λ (z : X). 1) y ys))
  one_list (x ∷ xs) [] as' bs same = absurd (omega (arith, same (λ z. 1), sum_by-cons (λ (z : X). 1) x xs))
  one_list (x ∷ xs) (y ∷ ys) as' bs same =
      let low = heads x y xs ys bs.0 (same (λ z. cond (is_eq (R z x)) 1 0)) in
      let high = heads y x ys xs as'.0 (sym (same (λ z. cond (is_eq (R z y)) 1 0))) in
      let e : x ≡ y = exact x y (neither x y (R x y) refl low high) in
      let rest : (f : X → ℕ) → sum_by f xs ≡ sum_by f ys = λ f. omega (arith, same f, sum_by-cons f x xs, sum_by-cons f y ys, ap f e) in
      λ i. e i ∷ one_list xs ys as'.1 bs.1 rest i

  pub sorted_same : (xs ys : List X) → IsSorted R xs → IsSorted R ys → IsPermutation xs ys → xs ≡ ys
  sorted_same xs ys h k p = one_list xs ys (ascending xs h) (ascending ys k) (λ f. sym (sum_by-IsPermutation f xs ys p))
