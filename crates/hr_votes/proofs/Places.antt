-- What the first place of a transaction among entries tells.
use Rattle.std.proofs.Common.{◌≡◌, ℕ, zero, suc, ◌+◌, ◌<◌, ◌≤◌, Bool, true, false, not, cond, ◌||◌, nat_eq, nat_lt, Some, None, List, [], ◌∷◌, length, position, slice_get, refl, ap, sym, ◌∙◌, subst, arith}
use Rattle.std.specs.List.{position_or_len}
use Rattle.std.proofs.lemmas.Bool.{eqb-true, ltb-true, ltb-false}
use Rattle.hr_base.specs.Lists.{has}
use Rattle.hr_base.proofs.Tests.{eq_turn}
use Rattle.hr_records.proofs.Options.{some_none, same_some}

at_step : (b : Bool) (t i x : ℕ) (xs : List ℕ) → nat_eq t x ≡ b → ((j : ℕ) → position_or_len (nat_eq t) xs ≡ j → j < length xs → slice_get xs j ≡ Some t)
    → cond (not b) (1 + position_or_len (nat_eq t) xs) 0 ≡ i → i < suc (length xs) → slice_get (x ∷ xs) i ≡ Some t
at_step true t zero x xs same rest h l = ap Some (sym (eqb-true t x same))
at_step true t (suc i) x xs same rest h l = absurd (omega (arith, h))
at_step false t zero x xs same rest h l = absurd (omega (arith, h))
at_step false t (suc i) x xs same rest h l = rest i (omega (arith, h)) (omega (arith, l))

at_first : (t : ℕ) (xs : List ℕ) (i : ℕ) → position_or_len (nat_eq t) xs ≡ i → i < length xs → slice_get xs i ≡ Some t
at_first t [] i h l = absurd (omega (arith, l))
at_first t (x ∷ xs) i h l = at_step (nat_eq t x) t i x xs refl (λ j d m. at_first t xs j d m) h l

past_step : (b : Bool) (t x : ℕ) (xs : List ℕ) → nat_eq t x ≡ b → (length xs ≤ position_or_len (nat_eq t) xs → has xs t ≡ false) → suc (length xs) ≤ cond (not b) (1 + position_or_len (nat_eq t) xs) 0 → has (x ∷ xs) t ≡ false
past_step true t x xs same rest h = absurd (omega (arith, h))
past_step false t x xs same rest h = ap (λ b. b || has xs t) (eq_turn x t ∙ same) ∙ rest (omega (arith, h))

past_all : (t : ℕ) (xs : List ℕ) → length xs ≤ position_or_len (nat_eq t) xs → has xs t ≡ false
past_all t [] h = refl
past_all t (x ∷ xs) h = past_step (nat_eq t x) t x xs refl (past_all t xs) h

module _ (t : ℕ) (xs : List ℕ) where
  abbrev n : ℕ
  n = position_or_len (nat_eq t) xs

  by_some : (b : Bool) (i : ℕ) → nat_lt n (length xs) ≡ b → cond b (Some n) None ≡ Some i → slice_get xs i ≡ Some t
  by_some true i within e = at_first t xs i (same_some n i e) (subst (λ k. k < length xs) (same_some n i e) (ltb-true n (length xs) within))
  by_some false i within e = absurd (some_none i (sym e))

  by_none : (b : Bool) → nat_lt n (length xs) ≡ b → cond b (Some n) None ≡ None → has xs t ≡ false
  by_none true within e = absurd (some_none n e)
  by_none false past e = past_all t xs (ltb-false n (length xs) past)

  -- a transaction stands at its first place
  pub placed : (i : ℕ) → position (nat_eq t) xs ≡ Some i → slice_get xs i ≡ Some t
  placed i e = by_some (nat_lt n (length xs)) i refl e

  -- one that has no place isn't there
  pub missing : position (nat_eq t) xs ≡ None → has xs t ≡ false
  missing e = by_none (nat_lt n (length xs)) refl e
