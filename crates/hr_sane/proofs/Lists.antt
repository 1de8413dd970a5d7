-- Look-ups in lists that are made from numbers and from keys.
use Rattle.std.proofs.Common.{◌≡◌, ℕ, zero, suc, ◌≤◌, Bool, true, false, not, ◌||◌, ◌==◌, nat_eq, cond, if◌then◌else◌, Some, None, List, [], ◌∷◌, ◌++◌, length, map, slice_get, refl, ap, sym, ◌∙◌, arith}
use Rattle.std.specs.Map.{lookup}
use Rattle.std.proofs.lemmas.Bool.{and_parts, and_from}
use Rattle.std.proofs.lemmas.Bool.Decides.{Decides-eqb}
use Rattle.hr_base.specs.Lists.{has, is_distinct}
use Rattle.hr_base.proofs.Tests.{eq_turn, or_false, has_end}
use Rattle.hr_history.specs.Attempts.{and_dispatched}

pub got_none : {X : Type 0} (xs : List X) (i : ℕ) → length xs ≤ i → slice_get xs i ≡ None
got_none [] i h = refl
got_none (x ∷ xs) zero h = absurd (omega (arith, h))
got_none (x ∷ xs) (suc i) h = got_none xs i (omega (arith, h))

-- the branch of a test that passes, or fails
pub on_true : {X : Type 0} (b : Bool) (x y : X) → b ≡ true → cond b x y ≡ x
on_true true x y e = refl
on_true false x y e = cc

pub on_false : {X : Type 0} (b : Bool) (x y : X) → b ≡ false → cond b x y ≡ y
on_false true x y e = cc
on_false false x y e = refl

pub keys_of_made : {X : Type 0} (g : ℕ → X) (ts : List ℕ) → map (λ (p : ℕ × X). p.0) (map (λ t. (t, g t)) ts) ≡ ts
keys_of_made g [] = refl
keys_of_made g (t ∷ ts) = ap (λ us. t ∷ us) (keys_of_made g ts)

module _ {X : Type 0} (g : ℕ → X) where
  by_key : (b : Bool) (t u : ℕ) (ts : List ℕ) → (t == u) ≡ b → lookup (nat_eq t) (map (λ v. (v, g v)) ts) ≡ (if has ts t then Some (g t) else None)
      → cond b (Some (g u)) (lookup (nat_eq t) (map (λ v. (v, g v)) ts)) ≡ (if (u == t) || has ts t then Some (g t) else None)
  by_key true t u ts e ih =
      let same : t ≡ u = (Decides-eqb t u).0 e in
      ap (λ v. Some (g v)) (sym same) ∙ ap (λ b. if b || has ts t then Some (g t) else None) (sym e ∙ eq_turn t u)
  by_key false t u ts e ih = ih ∙ ap (λ b. if b || has ts t then Some (g t) else None) (sym e ∙ eq_turn t u)

  pub lookup_made : (t : ℕ) (ts : List ℕ) → lookup (nat_eq t) (map (λ v. (v, g v)) ts) ≡ (if has ts t then Some (g t) else None)
  lookup_made t [] = refl
  lookup_made t (u ∷ ts) = by_key (t == u) t u ts refl (lookup_made t ts)

pub lookup_absent : {X : Type 0} (t : ℕ) (es : List (ℕ × X)) → has (map (λ (p : ℕ × X). p.0) es) t ≡ false → lookup (nat_eq t) es ≡ None
lookup_absent t [] h = refl
lookup_absent {X} t (e ∷ es) h =
    let both = or_false (e.0 == t) (has (map (λ (p : ℕ × X). p.0) es) t) h in
    ap (λ b. cond b (Some e.1) (lookup (nat_eq t) es)) (eq_turn t e.0 ∙ both.0) ∙ lookup_absent t es both.1

-- one more key that isn't there
distinct_end : (ts : List ℕ) (u : ℕ) → is_distinct ts ≡ true → has ts u ≡ false → is_distinct (ts ++ u ∷ []) ≡ true
distinct_end [] u h none = refl
distinct_end (x ∷ ts) u h none =
    let both = and_parts (not (has ts x)) (is_distinct ts) h in
    let other = or_false (x == u) (has ts u) none in
    and_from (not (has (ts ++ u ∷ []) x)) (is_distinct (ts ++ u ∷ []))
    (ap not (has_end ts u x ∙ (λ i. has ts x || (eq_turn u x ∙ other.0) i) ∙ or_nothing (has ts x)) ∙ both.0)
    (distinct_end ts u both.1 other.1)
  where
    or_nothing : (b : Bool) → (b || false) ≡ b
    or_nothing true = refl
    or_nothing false = refl

distinct_by : (b : Bool) (u : ℕ) (ts : List ℕ) → has ts u ≡ b → is_distinct ts ≡ true → is_distinct (if b then ts else ts ++ u ∷ []) ≡ true
distinct_by true u ts e h = h
distinct_by false u ts e h = distinct_end ts u h e

pub distinct_more : (u : ℕ) (ts : List ℕ) → is_distinct ts ≡ true → is_distinct (and_dispatched u ts) ≡ true
distinct_more u ts h = distinct_by (has ts u) u ts refl h
