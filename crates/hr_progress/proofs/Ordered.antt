-- One number more among ascending ones.
use Rattle.std.proofs.Common.{◌≡◌, ◌≢◌, ℕ, zero, suc, ◌<◌, ◌≤◌, Bool, true, false, ◌==◌, nat_lt, cond, if◌then◌else◌, List, [], ◌∷◌, length, slice_get, insert, refl, ap, sym, ◌∙◌, arith}
use Rattle.std.specs.Prelude.{take_while}
use Rattle.std.proofs.lemmas.Bool.{eqb-true, eq-eqb, ne_eqb, ltb-true, lt-ltb, ltb-false, le-ltb}
use Rattle.std.proofs.lemmas.List.Sums.{take_while-cons}
use Rattle.hr_history.specs.Primary.{is_some_of}
use Rattle.hr_moves.specs.Kept.{and_in_order}

no : {b : Bool} → b ≡ true → b ≡ false → ⊥
no e d = cc

abbrev lower : ℕ → List ℕ → ℕ
lower t ts = length (take_while (λ u. nat_lt u t) ts)

-- behind a lower one
behind : (t u : ℕ) (us : List ℕ) → nat_lt u t ≡ true → and_in_order t (u ∷ us) ≡ u ∷ and_in_order t us
behind t u us e =
    let lt : u < t = ltb-true u t e in
    ap (λ b. if b then t ∷ u ∷ us else if u == t then u ∷ us else u ∷ and_in_order t us) (le-ltb t u (omega (arith, lt)))
    ∙ ap (λ b. if b then u ∷ us else u ∷ and_in_order t us) (ne_eqb u t (λ same. omega (arith, lt, same)))

one_lower : (t u : ℕ) (us : List ℕ) → nat_lt u t ≡ true → lower t (u ∷ us) ≡ suc (lower t us)
one_lower t u us e = ap length (take_while-cons (λ x. nat_lt x t) u us ∙ ap (λ b. cond b (u ∷ take_while (λ x. nat_lt x t) us) []) e)

none_lower : (t u : ℕ) (us : List ℕ) → nat_lt u t ≡ false → lower t (u ∷ us) ≡ 0
none_lower t u us e = ap length (take_while-cons (λ x. nat_lt x t) u us ∙ ap (λ b. cond b (u ∷ take_while (λ x. nat_lt x t) us) []) e)

there_by : (b : Bool) (t u n : ℕ) (us : List ℕ) → nat_lt u t ≡ b → n ≡ lower t (u ∷ us) → ((m : ℕ) → m ≡ lower t us → is_some_of t (slice_get us m) ≡ true → us ≡ and_in_order t us) → is_some_of t (slice_get (u ∷ us) n) ≡ true → u ∷ us ≡ and_in_order t (u ∷ us)
there_by true t u zero us e at rest h = absurd (omega (arith, at, one_lower t u us e))
there_by true t u (suc m) us e at rest h = ap (λ xs. u ∷ xs) (rest m (omega (arith, at, one_lower t u us e)) h) ∙ sym (behind t u us e)
there_by false t u (suc m) us e at rest h = absurd (omega (arith, at, none_lower t u us e))
there_by false t u zero us e at rest h =
    let same : t ≡ u = eqb-true t u h in
    sym (ap (λ b. if b then t ∷ u ∷ us else if u == t then u ∷ us else u ∷ and_in_order t us) (le-ltb t u (omega (arith, same)))
    ∙ ap (λ b. if b then u ∷ us else u ∷ and_in_order t us) (eq-eqb u t (sym same)))

-- it is there
pub order_there : (t n : ℕ) (ts : List ℕ) → n ≡ lower t ts → is_some_of t (slice_get ts n) ≡ true → ts ≡ and_in_order t ts
order_there t n [] at h = absurd (no h refl)
order_there t n (u ∷ us) at h = there_by (nat_lt u t) t u n us refl at (λ m e k. order_there t m us e k) h

insert_by : (b : Bool) (t u n : ℕ) (us : List ℕ) → nat_lt u t ≡ b → n ≡ lower t (u ∷ us) → ((m : ℕ) → m ≡ lower t us → is_some_of t (slice_get us m) ≡ false → insert us m t ≡ and_in_order t us) → is_some_of t (slice_get (u ∷ us) n) ≡ false → insert (u ∷ us) n t ≡ and_in_order t (u ∷ us)
insert_by true t u zero us e at rest h = absurd (omega (arith, at, one_lower t u us e))
insert_by true t u (suc m) us e at rest h = ap (λ xs. u ∷ xs) (rest m (omega (arith, at, one_lower t u us e)) h) ∙ sym (behind t u us e)
insert_by false t u (suc m) us e at rest h = absurd (omega (arith, at, none_lower t u us e))
insert_by false t u zero us e at rest h =
    let high : t ≤ u = ltb-false u t e in
    let lt : t < u = above high h in
    sym (ap (λ b. if b then t ∷ u ∷ us else if u == t then u ∷ us else u ∷ and_in_order t us) (lt-ltb t u lt))
  where
    above : t ≤ u → (t == u) ≡ false → t < u
    above high k = let differ : t ≢ u = λ same. no (eq-eqb t u same) k in omega (arith, high, differ)

-- it isn't
pub order_insert : (t n : ℕ) (ts : List ℕ) → n ≡ lower t ts → is_some_of t (slice_get ts n) ≡ false → insert ts n t ≡ and_in_order t ts
order_insert t zero [] at h = refl
order_insert t (suc n) [] at h = absurd (omega (arith, at))
order_insert t n (u ∷ us) at h = insert_by (nat_lt u t) t u n us refl at (λ m e k. order_insert t m us e k) h
