-- Words on lists, tests and parts without problems that the proofs here need.
use Rattle.std.proofs.Common.{◌≡◌, ℕ, zero, suc, ◌+◌, ◌<◌, Bool, true, false, cond, ◌||◌, not, Option, Some, None, List, [], ◌∷◌, ◌++◌, length, map, flat_map, position, slice_get, option_map, option_and_then, refl, sym, ap, ◌∙◌, arith}
use Rattle.std.specs.List.{list_all, list_any, range_with_len, position_from}
use Rattle.std.proofs.lemmas.Bool.{and_from}
use Rattle.std.proofs.lemmas.Iterator.Adapters.{position_from-zero}
use Rattle.hr_base.specs.Lists.{is_empty}
use Rattle.hr_problem.specs.declared.problem.Problem.{Problem}
use Rattle.hr_problem.specs.declared.problem.ProblemKind.{ProblemKind}
use Rattle.hr_problem.specs.Problems.{problem_where}

-- ---- no problems

pub left_none : {X : Type 0} (xs ys : List X) → xs ++ ys ≡ [] → xs ≡ []
left_none [] ys e = refl
left_none (x ∷ xs) ys e = cc

pub right_none : {X : Type 0} (xs ys : List X) → xs ++ ys ≡ [] → ys ≡ []
right_none [] ys e = e
right_none (x ∷ xs) ys e = cc

-- what isn't told isn't so
pub not_so : (b : Bool) (k : ProblemKind) (at : ℕ) → problem_where b k at ≡ [] → b ≡ false
not_so true k at e = cc
not_so false k at e = refl

pub passed : (b : Bool) (k : ProblemKind) (at : ℕ) → problem_where (not b) k at ≡ [] → b ≡ true
passed true k at e = refl
passed false k at e = cc

pub not_empty : {X : Type 0} (xs : List X) (k : ProblemKind) (at : ℕ) → problem_where (is_empty xs) k at ≡ [] → not (is_empty xs) ≡ true
not_empty [] k at e = cc
not_empty (x ∷ xs) k at e = refl

pub empty_map : {X Y : Type 0} (f : X → Y) (xs : List X) → is_empty (map f xs) ≡ is_empty xs
empty_map f [] = refl
empty_map f (x ∷ xs) = refl

-- ---- tests of lists

-- where no element has a problem, each passes what follows from that
pub all_pass : {X Y : Type 0} (f : X → List Problem) (g : X → Y) (p : Y → Bool) → ((x : X) → f x ≡ [] → p (g x) ≡ true) → (xs : List X) → flat_map f xs ≡ [] → list_all p (map g xs) ≡ true
all_pass f g p h [] e = refl
all_pass f g p h (x ∷ xs) e = and_from (p (g x)) (list_all p (map g xs)) (h x (left_none (f x) (flat_map f xs) e)) (all_pass f g p h xs (right_none (f x) (flat_map f xs) e))

pub any_map : {X Y : Type 0} (p : X → Bool) (g : X → Y) (q : Y → Bool) → ((x : X) → q (g x) ≡ p x) → (xs : List X) → list_any q (map g xs) ≡ list_any p xs
any_map p g q h [] = refl
any_map p g q h (x ∷ xs) = ap (λ b. b || list_any q (map g xs)) (h x) ∙ ap (λ b. p x || b) (any_map p g q h xs)

pub all_range : (p : ℕ → Bool) (a n : ℕ) → ((i : ℕ) → i < n → p (a + i) ≡ true) → list_all p (range_with_len a n) ≡ true
all_range p a zero h = refl
all_range p a (suc n) h =
    let first : a + 0 ≡ a = omega arith in
    and_from (p a) (list_all p (range_with_len (a + 1) n)) (ap p (sym first) ∙ h 0 (omega arith))
    (all_range p (a + 1) n (λ i lt. let next : a + 1 + i ≡ a + suc i = omega arith in ap p next ∙ h (suc i) (omega (arith, lt))))

pub map_map : {X Y Z : Type 0} (f : X → Y) (g : Y → Z) (xs : List X) → map g (map f xs) ≡ map (λ x. g (f x)) xs
map_map f g [] = refl
map_map f g (x ∷ xs) = ap (λ zs. g (f x) ∷ zs) (map_map f g xs)

-- ---- elements by their place

pub get_less : {X : Type 0} (xs : List X) (k : ℕ) → k < length xs → (x : X) × (slice_get xs k ≡ Some x)
get_less [] k lt = absurd (omega (arith, lt))
get_less (x ∷ xs) zero lt = (x, refl)
get_less (x ∷ xs) (suc k) lt = get_less xs k (omega (arith, lt))

pub then_map : {X Y Z : Type 0} (f : X → Y) (g : Y → Option Z) (o : Option X) → option_and_then g (option_map f o) ≡ option_and_then (λ x. g (f x)) o
then_map f g None = refl
then_map f g (Some x) = refl

-- where a place was found from this number on, an element that passes stands there
abbrev Found : {X : Type 0} → (X → Bool) → ℕ → List X → ℕ → Type 0
Found {X} p i xs k = (j : ℕ) × (k ≡ i + j) × (x : X) × (slice_get xs j ≡ Some x) × (p x ≡ true)

found_by : {X : Type 0} (p : X → Bool) (i : ℕ) (x : X) (xs : List X) (k : ℕ) (b : Bool) → p x ≡ b → (position_from p (i + 1) xs ≡ Some k → Found p (i + 1) xs k)
    → cond b (Some i) (position_from p (i + 1) xs) ≡ Some k → Found p i (x ∷ xs) k
found_by p i x xs k true e more is =
    let same : i ≡ k = cc in
    (0, omega (arith, same), x, refl, e)
found_by p i x xs k false e more is =
    let f = more is in
    let at = f.1 in
    (suc f.0, omega (arith, at), f.2, f.3, f.4)

found_from : {X : Type 0} (p : X → Bool) (i : ℕ) (xs : List X) (k : ℕ) → position_from p i xs ≡ Some k → Found p i xs k
found_from p i [] k e = cc
found_from p i (x ∷ xs) k e = found_by p i x xs k (p x) refl (found_from p (i + 1) xs k) e

pub position_has : {X : Type 0} (p : X → Bool) (xs : List X) (k : ℕ) → position p xs ≡ Some k → (x : X) × (slice_get xs k ≡ Some x) × (p x ≡ true)
position_has p xs k e =
    let f = found_from p 0 xs k (sym (position_from-zero p xs) ∙ e) in
    let there = f.1 in
    let at : k ≡ f.0 = omega (arith, there) in
    (f.2, ap (slice_get xs) at ∙ f.3, f.4)
