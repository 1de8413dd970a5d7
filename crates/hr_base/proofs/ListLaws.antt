-- Laws of lists of numbers.
use Rattle.std.proofs.Common.{◌≡◌, ℕ, Bool, true, false, cond, not, ◌&&◌, ◌==◌, inl, inr, IsTrue, List, [], ◌∷◌, refl, ap, ◌∙◌, sym}
use Rattle.std.specs.List.{filter, list_all}
use Rattle.std.proofs.lemmas.Bool.{and_parts, and_from, or_cases, or_right, or_left, eq-eqb, eqb-true}
use Rattle.hr_base.specs.Lists.{has, is_distinct, once}

-- a test of what is the same transaction
pub if_same : (p : ℕ → Bool) (t u : ℕ) → (t == u) ≡ true → p t ≡ p u
if_same p t u e = ap p (eqb-true t u e)

pub has_head : (t : ℕ) (ts : List ℕ) → has (t ∷ ts) t ≡ true
has_head t ts = or_left (t == t) (has ts t) (eq-eqb t t refl)

pub has_tail : (t u : ℕ) (ts : List ℕ) → has ts t ≡ true → has (u ∷ ts) t ≡ true
has_tail t u ts h = or_right (u == t) (has ts t) h

-- the one member of a list of one
pub has_one : (t u : ℕ) → has (t ∷ []) u ≡ true → t ≡ u
has_one t u h = elim (or_cases (t == u) false h) [ inl same ↦ eqb-true t u same | inr none ↦ cc ]

-- what all of a list pass, each member passes
pub all_has : (p : ℕ → Bool) (ts : List ℕ) → list_all p ts ≡ true → (t : ℕ) → has ts t ≡ true → p t ≡ true
all_has p [] all t h = cc
all_has p (u ∷ ts) all t h =
    let parts = and_parts (p u) (list_all p ts) all in
    elim (or_cases (u == t) (has ts t) h) [ inl same ↦ sym (if_same p u t same) ∙ parts.0 | inr later ↦ all_has p ts parts.1 t later ]

pub all_from_has : (p : ℕ → Bool) (ts : List ℕ) → ((t : ℕ) → has ts t ≡ true → p t ≡ true) → list_all p ts ≡ true
all_from_has p [] each = refl
all_from_has p (u ∷ ts) each = and_from (p u) (list_all p ts) (each u (has_head u ts)) (all_from_has p ts (λ t h. each t (has_tail t u ts h)))

filter_step : (p q : ℕ → Bool) (u : ℕ) (ts : List ℕ) → p u ≡ q u → filter p ts ≡ filter q ts → filter p (u ∷ ts) ≡ filter q (u ∷ ts)
filter_step p q u ts e f = λ i. cond (e i) (u ∷ f i) (f i)

-- tests that agree on the members of a list keep the same of them
pub filter_agree_on : (p q : ℕ → Bool) (ts : List ℕ) → ((t : ℕ) → has ts t ≡ true → p t ≡ q t) → filter p ts ≡ filter q ts
filter_agree_on p q [] agree = refl
filter_agree_on p q (u ∷ ts) agree = filter_step p q u ts (agree u (has_head u ts)) (filter_agree_on p q ts (λ t h. agree t (has_tail t u ts h)))

filter_true : (ts : List ℕ) → filter (λ t. true) ts ≡ ts
filter_true [] = refl
filter_true (t ∷ ts) = ap (λ us. t ∷ us) (filter_true ts)

-- a test that all pass keeps all
pub filter_all : (p : ℕ → Bool) (ts : List ℕ) → ((t : ℕ) → has ts t ≡ true → p t ≡ true) → filter p ts ≡ ts
filter_all p ts all = filter_agree_on p (λ t. true) ts all ∙ filter_true ts

has_kept : (p : ℕ → Bool) (u t : ℕ) (ts : List ℕ) (b : Bool) → p u ≡ b → has (cond b (u ∷ filter p ts) (filter p ts)) t ≡ true
    → (has (filter p ts) t ≡ true → (p t ≡ true) × (has ts t ≡ true)) → (p t ≡ true) × (has (u ∷ ts) t ≡ true)
has_kept p u t ts false e h rest = let r = rest h in (r.0, has_tail t u ts r.1)
has_kept p u t ts true e h rest =
    elim (or_cases (u == t) (has (filter p ts) t) h) [
      | inl same ↦ (sym (if_same p u t same) ∙ e, or_left (u == t) (has ts t) same)
      | inr later ↦ (let r = rest later in (r.0, has_tail t u ts r.1))
    ]

-- a filter keeps members that pass
pub has-filter : (p : ℕ → Bool) (ts : List ℕ) (t : ℕ) → has (filter p ts) t ≡ true → (p t ≡ true) × (has ts t ≡ true)
has-filter p [] t h = cc
has-filter p (u ∷ ts) t h = has_kept p u t ts (p u) refl h (has-filter p ts t)

-- a filter keeps different transactions different
distinct_step : (p : ℕ → Bool) (t : ℕ) (ts : List ℕ) (b : Bool) → IsTrue (not (has ts t)) → IsTrue (is_distinct (filter p ts)) → IsTrue (is_distinct (cond b (t ∷ filter p ts) (filter p ts)))
distinct_step p t ts false new rest = rest
distinct_step p t ts true new rest = and_from (not (has (filter p ts) t)) _ (absent (has (filter p ts) t) refl) rest
  where
    absent : (b : Bool) → has (filter p ts) t ≡ b → not b ≡ true
    absent false e = refl
    absent true e = let there : has ts t ≡ true = (has-filter p ts t e).1 in cc (ap not there)

pub filter_distinct : (p : ℕ → Bool) (ts : List ℕ) → IsTrue (is_distinct ts) → IsTrue (is_distinct (filter p ts))
filter_distinct p [] distinct = refl
filter_distinct p (t ∷ ts) distinct =
    let parts = and_parts (not (has ts t)) (is_distinct ts) distinct in
    distinct_step p t ts (p t) parts.0 (filter_distinct p ts parts.1)

-- each of a list once is a list of different ones
not_itself : (t : ℕ) (ts : List ℕ) (b : Bool) → has (filter (λ u. not (u == t)) ts) t ≡ b → not b ≡ true
not_itself t ts false e = refl
not_itself t ts true e =
    let other : not (t == t) ≡ true = (has-filter (λ u. not (u == t)) ts t e).0 in
    let same : not (t == t) ≡ false = ap not (eq-eqb t t refl) in
    cc

pub once_distinct : (ts : List ℕ) → IsTrue (is_distinct (once ts))
once_distinct [] = refl
once_distinct (t ∷ ts) =
    let others = filter (λ (u : ℕ). not (u == t)) (once ts) in
    and_from (not (has others t)) (is_distinct others) (not_itself t (once ts) (has others t) refl) (filter_distinct (λ u. not (u == t)) (once ts) (once_distinct ts))

-- tests that agree on the members of a list are passed by all of it or by neither
pub all_agree_on : (p q : ℕ → Bool) (ts : List ℕ) → ((t : ℕ) → has ts t ≡ true → p t ≡ q t) → list_all p ts ≡ list_all q ts
all_agree_on p q [] agree = refl
all_agree_on p q (u ∷ ts) agree = λ i. agree u (has_head u ts) i && all_agree_on p q ts (λ t h. agree t (has_tail t u ts h)) i
