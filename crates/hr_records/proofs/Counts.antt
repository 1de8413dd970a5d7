-- Of 2f + 1 replicas, f + 1 have one in common with any other f + 1, and one that isn't among any f.
use Rattle.std.proofs.Common.{◌≡◌, ◌⊎◌, inl, inr, ℕ, zero, suc, ◌+◌, ◌*◌, ◌<◌, ◌≤◌, Bool, true, false, not, cond, ◌==◌, ◌&&◌, Option, Some, None, find, count_by, List, [], ◌∷◌, length, refl, ap, ◌∙◌, arith}
use Rattle.std.specs.List.{range_with_len}
use Rattle.std.proofs.lemmas.List.Sums.{sum_by-cons}
use Rattle.std.proofs.lemmas.Bool.{and_parts, or_cases, eqb-true}
use Rattle.hr_base.specs.Lists.{has}
use Rattle.hr_base.proofs.ListLaws.{has_head, has_tail}
use Rattle.hr_history.specs.ReplicaNumbers.{replica_numbers}
use Rattle.hr_records.proofs.Options.{find_has, find_none, has_range}

abbrev one_if : Bool → ℕ
one_if b = cond b 1 0

count_next : (p : ℕ → Bool) (x : ℕ) (xs : List ℕ) → count_by p (x ∷ xs) ≡ one_if (p x) + count_by p xs
count_next p x xs = sum_by-cons (λ y. cond (p y) 1 0) x xs

small : (b : Bool) → one_if b ≤ 1
small true = omega arith
small false = omega arith

-- what passes one test passes one of two
at_most_both : (p q s : ℕ → Bool) (xs : List ℕ) → ((x : ℕ) → has xs x ≡ true → p x ≡ true → (q x ≡ true) ⊎ (s x ≡ true)) → count_by p xs ≤ count_by q xs + count_by s xs
at_most_both p q s [] either = omega arith
at_most_both p q s (x ∷ xs) either =
    let rest = at_most_both p q s xs (λ y there e. either y (has_tail y x xs there) e) in
    omega (arith, rest, count_next p x xs, count_next q x xs, count_next s x xs, here (p x) (q x) (s x) (either x (has_head x xs)))
  where
    here : (a b c : Bool) → (a ≡ true → (b ≡ true) ⊎ (c ≡ true)) → one_if a ≤ one_if b + one_if c
    here true true c e = omega (arith, small c)
    here true false true e = omega arith
    here true false false e = elim (e refl) [ inl h ↦ absurd (wrong h) | inr h ↦ absurd (wrong h) ]
      where
        wrong : false ≡ true → ⊥
        wrong h = cc
    here false b c e = omega arith

-- two tests of which none is passed by both
apart_at_most : (p q : ℕ → Bool) (xs : List ℕ) → ((x : ℕ) → has xs x ≡ true → (p x && q x) ≡ false) → count_by p xs + count_by q xs ≤ length xs
apart_at_most p q [] apart = omega arith
apart_at_most p q (x ∷ xs) apart =
    let rest = apart_at_most p q xs (λ y there. apart y (has_tail y x xs there)) in
    omega (arith, rest, count_next p x xs, count_next q x xs, here (p x) (q x) (apart x (has_head x xs)))
  where
    here : (a b : Bool) → (a && b) ≡ false → one_if a + one_if b ≤ 1
    here true true e = cc
    here true false e = omega arith
    here false b e = omega (arith, small b)

none_below : (b a n : ℕ) → b < a → count_by (λ x. b == x) (range_with_len a n) ≡ 0
none_below b a zero lt = refl
none_below b a (suc n) lt = count_next (λ x. b == x) a (range_with_len (a + 1) n) ∙ zero_here (b == a) refl (none_below b (a + 1) n (omega (arith, lt)))
  where
    zero_here : (c : Bool) → (b == a) ≡ c → count_by (λ x. b == x) (range_with_len (a + 1) n) ≡ 0 → one_if (b == a) + count_by (λ x. b == x) (range_with_len (a + 1) n) ≡ 0
    zero_here true e rest = absurd (omega (arith, lt, eqb-true b a e))
    zero_here false e rest = omega (arith, rest, ap one_if e)

-- one number stands once in a range
once_in_range : (b a n : ℕ) → count_by (λ x. b == x) (range_with_len a n) ≤ 1
once_in_range b a zero = omega arith
once_in_range b a (suc n) = here (b == a) refl (once_in_range b (a + 1) n)
  where
    here : (c : Bool) → (b == a) ≡ c → count_by (λ x. b == x) (range_with_len (a + 1) n) ≤ 1 → count_by (λ x. b == x) (range_with_len a (suc n)) ≤ 1
    here true e rest = omega (arith, count_next (λ x. b == x) a (range_with_len (a + 1) n), ap one_if e, none_below b (a + 1) n (omega (arith, eqb-true b a e)))
    here false e rest = omega (arith, count_next (λ x. b == x) a (range_with_len (a + 1) n), ap one_if e, rest)

count_none : (xs : List ℕ) → count_by (λ x. false) xs ≡ 0
count_none [] = refl
count_none (x ∷ xs) = count_next (λ x. false) x xs ∙ ap (λ n. 0 + n) (count_none xs) ∙ refl

-- a list has at most as many of a range as it is long
few_in_range : (bad : List ℕ) (a n : ℕ) → count_by (has bad) (range_with_len a n) ≤ length bad
few_in_range [] a n = omega (arith, count_none (range_with_len a n))
few_in_range (b ∷ bad) a n =
    omega (arith, at_most_both (has (b ∷ bad)) (λ x. b == x) (has bad) (range_with_len a n) (λ x there e. or_cases (b == x) (has bad x) e), once_in_range b a n, few_in_range bad a n)

-- a test that passes wherever another does passes as often, or more
pub more_pass : (p q : ℕ → Bool) (xs : List ℕ) → ((x : ℕ) → has xs x ≡ true → p x ≡ true → q x ≡ true) → count_by p xs ≤ count_by q xs
more_pass p q xs all = omega (arith, at_most_both p q (λ x. false) xs (λ x there e. inl (all x there e)), count_none xs)

length_range : (a n : ℕ) → length (range_with_len a n) ≡ n
length_range a zero = refl
length_range a (suc n) = ap suc (length_range (a + 1) n)

both_not : (a b : Bool) → (a && not b) ≡ true → (a ≡ true) × (b ≡ false)
both_not true true e = cc
both_not true false e = (refl, refl)
both_not false b e = cc

covered : (a b : Bool) → (a && not b) ≡ false → a ≡ true → b ≡ true
covered true true e h = refl
covered true false e h = cc
covered false b e h = cc

-- f + 1 replicas have one outside any f
pub one_outside : (f : ℕ) (p : ℕ → Bool) (bad : List ℕ) → f + 1 ≤ count_by p (replica_numbers f) → length bad ≤ f → (r : ℕ) × (r < 2 * f + 1) × (p r ≡ true) × (has bad r ≡ false)
one_outside f p bad many few = by_find (find (λ r. p r && not (has bad r)) (replica_numbers f)) refl
  where
    by_find : (o : Option ℕ) → find (λ r. p r && not (has bad r)) (replica_numbers f) ≡ o → (r : ℕ) × (r < 2 * f + 1) × (p r ≡ true) × (has bad r ≡ false)
    by_find None e =
        let all = at_most_both p (has bad) (λ x. false) (replica_numbers f) (λ x there passes. inl (covered (p x) (has bad x) (find_none (λ r. p r && not (has bad r)) (replica_numbers f) e x there) passes)) in
        absurd (omega (arith, many, few, all, few_in_range bad 0 (2 * f + 1), count_none (replica_numbers f)))
    by_find (Some r) e =
        let found = find_has (λ r. p r && not (has bad r)) (replica_numbers f) r e in
        let two = both_not (p r) (has bad r) found.1 in
        let within = has_range 0 (2 * f + 1) r found.0 in
        (r, omega (arith, within.1), two.0, two.1)

-- two groups of f + 1 share a member
pub shared : (f : ℕ) (p q : ℕ → Bool) → f + 1 ≤ count_by p (replica_numbers f) → f + 1 ≤ count_by q (replica_numbers f) → (r : ℕ) × (r < 2 * f + 1) × (p r ≡ true) × (q r ≡ true)
shared f p q first second = by_find (find (λ r. p r && q r) (replica_numbers f)) refl
  where
    by_find : (o : Option ℕ) → find (λ r. p r && q r) (replica_numbers f) ≡ o → (r : ℕ) × (r < 2 * f + 1) × (p r ≡ true) × (q r ≡ true)
    by_find None e =
        absurd (omega (arith, first, second, length_range 0 (2 * f + 1), apart_at_most p q (replica_numbers f) (λ x there. find_none (λ r. p r && q r) (replica_numbers f) e x there)))
    by_find (Some r) e =
        let found = find_has (λ r. p r && q r) (replica_numbers f) r e in
        let two = and_parts (p r) (q r) found.1 in
        let within = has_range 0 (2 * f + 1) r found.0 in
        (r, omega (arith, within.1), two.0, two.1)
