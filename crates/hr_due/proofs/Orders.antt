-- The first that there is.
use Rattle.std.proofs.Common.{◌≡◌, ℕ, suc, ◌+◌, ◌-◌, ◌<◌, ◌≤◌, Bool, true, false, cond, Option, Some, None, find, List, [], ◌∷◌, length, get_or, map, refl, ap, sym, ◌∙◌, arith}
use Rattle.std.specs.List.{range_with_len, filter}
use Rattle.hr_base.specs.Lists.{first_some}
use Rattle.hr_history.specs.declared.entry.Event.{Event}

-- of the rules
pub rule_here : (o : Option Event) (os : List (Option Event)) (e : Event) → Some e ≡ o → Some e ≡ first_some (o ∷ os)
rule_here None os e is = cc is
rule_here (Some x) os e is = is

pub rule_past : (o : Option Event) (os : List (Option Event)) (e : Option Event) → None ≡ o → e ≡ first_some os → e ≡ first_some (o ∷ os)
rule_past None os e none is = is
rule_past (Some x) os e none is = cc none

-- of the replicas
module _ (g : ℕ → Option Event) where
  range_left : (a to : ℕ) → a < to → range_with_len a (to - a) ≡ a ∷ range_with_len (a + 1) (to - (a + 1))
  range_left a to h = let count : to - a ≡ suc (to - (a + 1)) = omega (arith, h) in ap (range_with_len a) count

  abbrev pub first_from : ℕ → ℕ → Option Event
  first_from a to = first_some (map g (range_with_len a (to - a)))

  pub first_on : (a to : ℕ) → a < to → g a ≡ None → first_from a to ≡ first_from (a + 1) to
  first_on a to h none = ap (λ xs. first_some (map g xs)) (range_left a to h) ∙ ap (λ o. first_some (o ∷ map g (range_with_len (a + 1) (to - (a + 1))))) none

  pub first_here : (a to : ℕ) (e : Event) → a < to → g a ≡ Some e → first_from a to ≡ Some e
  first_here a to e h some = ap (λ xs. first_some (map g xs)) (range_left a to h) ∙ ap (λ o. first_some (o ∷ map g (range_with_len (a + 1) (to - (a + 1))))) some

  pub first_end : (a to : ℕ) → to ≤ a → first_from a to ≡ None
  first_end a to h = let none : to - a ≡ 0 = omega (arith, h) in ap (λ n. first_some (map g (range_with_len a n))) none

-- the first of a list that passes is the head of those that pass
abbrev pub head_of : List ℕ → Option ℕ
head_of [] = None
head_of (x ∷ xs) = Some x

head_by : (b : Bool) (x : ℕ) (xs : List ℕ) (rest : Option ℕ) → rest ≡ head_of xs → cond b (Some x) rest ≡ head_of (cond b (x ∷ xs) xs)
head_by true x xs rest is = refl
head_by false x xs rest is = is

pub find_head : (p : ℕ → Bool) (xs : List ℕ) → find p xs ≡ head_of (filter p xs)
find_head p [] = refl
find_head p (x ∷ xs) = head_by (p x) x (filter p xs) (find p xs) (find_head p xs)

pub head_none : (xs : List ℕ) → length xs < 1 → None ≡ head_of xs
head_none [] h = refl
head_none (x ∷ xs) h = absurd (omega (arith, h))

pub head_some : (xs : List ℕ) → 1 ≤ length xs → Some (get_or xs 0 0) ≡ head_of xs
head_some [] h = absurd (omega (arith, h))
head_some (x ∷ xs) h = refl

pub rule_last : (o : Option Event) → o ≡ first_some (o ∷ [])
rule_last None = refl
rule_last (Some x) = refl
