-- The order in which a search finds routes: shorter ones first, and of two as long the one that is lower at the first
-- difference. A route is kept with its last member first.
use Rattle.std.proofs.Common.{◌≡◌, ℕ, suc, ◌<◌, ◌⊎◌, inl, inr, List, [], ◌∷◌, length, refl, ap, sym, subst, ◌∙◌, arith}

-- routes as long, the first lower at the first difference, from the end of the lists on
abbrev pub Lower : List ℕ → List ℕ → Type 0
Lower [] ys = ⊥
Lower (x ∷ xs) [] = ⊥
Lower (x ∷ xs) (y ∷ ys) = Lower xs ys ⊎ ((xs ≡ ys) × (x < y))

abbrev pub Before : List ℕ → List ℕ → Type 0
Before p q = (length p < length q) ⊎ ((length p ≡ length q) × Lower p q)

abbrev pub AtMost : List ℕ → List ℕ → Type 0
AtMost p q = (p ≡ q) ⊎ Before p q

lower_trans : (p q r : List ℕ) → Lower p q → Lower q r → Lower p r
lower_trans [] q r a b = absurd a
lower_trans (x ∷ xs) [] r a b = absurd a
lower_trans (x ∷ xs) (y ∷ ys) [] a b = absurd b
lower_trans (x ∷ xs) (y ∷ ys) (z ∷ zs) (inl a) (inl b) = inl (lower_trans xs ys zs a b)
lower_trans (x ∷ xs) (y ∷ ys) (z ∷ zs) (inl a) (inr b) = inl (subst (λ v. Lower xs v) b.0 a)
lower_trans (x ∷ xs) (y ∷ ys) (z ∷ zs) (inr a) (inl b) = inl (subst (λ v. Lower v zs) (sym a.0) b)
lower_trans (x ∷ xs) (y ∷ ys) (z ∷ zs) (inr a) (inr b) = inr (a.0 ∙ b.0, omega arith)

lower_self : (p : List ℕ) → Lower p p → ⊥
lower_self [] a = a
lower_self (x ∷ xs) (inl a) = lower_self xs a
lower_self (x ∷ xs) (inr a) = let l : x < x = a.1 in omega arith

pub before_self : (p : List ℕ) → Before p p → ⊥
before_self p (inl a) = omega arith
before_self p (inr a) = lower_self p a.1

pub before_trans : (p q r : List ℕ) → Before p q → Before q r → Before p r
before_trans p q r (inl a) (inl b) = inl (omega arith)
before_trans p q r (inl a) (inr b) = inl (let e : length q ≡ length r = b.0 in omega arith)
before_trans p q r (inr a) (inl b) = inl (let e : length p ≡ length q = a.0 in omega arith)
before_trans p q r (inr a) (inr b) = inr (a.0 ∙ b.0, lower_trans p q r a.1 b.1)

pub before_at_most : (p q r : List ℕ) → Before p q → AtMost q r → Before p r
before_at_most p q r a (inl e) = subst (λ v. Before p v) e a
before_at_most p q r a (inr b) = before_trans p q r a b

pub at_most_trans : (p q r : List ℕ) → AtMost p q → AtMost q r → AtMost p r
at_most_trans p q r (inl e) b = subst (λ v. AtMost v r) (sym e) b
at_most_trans p q r (inr a) b = inr (before_at_most p q r a b)

-- of two routes the earlier one is led on to earlier ones
pub led_on : (p q : List ℕ) (x y : ℕ) → Before p q → Before (x ∷ p) (y ∷ q)
led_on p q x y (inl a) = inl (omega arith)
led_on p q x y (inr a) = inr (ap (λ n. suc n) a.0, inl a.1)

pub beside : (p : List ℕ) (x y : ℕ) → x < y → Before (x ∷ p) (y ∷ p)
beside p x y l = inr (refl, inr (refl, l))

pub longer : (p : List ℕ) (x : ℕ) → Before p (x ∷ p)
longer p x = inl (omega arith)

pub led_on_same : (p q : List ℕ) (x : ℕ) → AtMost p q → AtMost (x ∷ p) (x ∷ q)
led_on_same p q x (inl e) = inl (ap (λ v. x ∷ v) e)
led_on_same p q x (inr a) = inr (led_on p q x x a)
