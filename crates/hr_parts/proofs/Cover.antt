-- What parts cover.
use Rattle.std.proofs.Common.{◌≡◌, ℕ, ℤ, Bool, true, false, ◌&&◌, ◌||◌, ◌==◌, cond, not, inl, inr, List, [], ◌∷◌, filter, refl, ap, sym, ◌∙◌, arith, eqb-true}
use Rattle.std.specs.Prelude.{int_le}
use Rattle.std.specs.List.{list_all, list_any}
use Rattle.std.proofs.lemmas.Bool.{and_from, and_parts, or_cases, or_left, or_right, false_from_ne_true, eq-eqb}
use Rattle.std.proofs.lemmas.Int.{ints}
use Rattle.hr_parts.specs.Parts.{Part, is_in, covers, written, Untouched, Apart, share, conflict, are_apart}

pub le_through : (a b c : ℤ) → int_le a b ≡ true → int_le b c ≡ true → int_le a c ≡ true
le_through a b c h k = grind (arith, ints)

both_ways : (b : Bool) → not b ≡ true → b ≡ true → ⊥
both_ways true e f = cc
both_ways false e f = cc

-- a row that is in two parts, of which one may change it
shared : (a b : Part) (t : ℕ) (k : ℤ) → is_in t k a ≡ true → is_in t k b ≡ true → (a.written || b.written) ≡ true → conflict a b ≡ true
shared a b t k e f w =
    let a1 = and_parts ((a.table == t) && int_le a.low k) (int_le k a.high) e in
    let a0 = and_parts (a.table == t) (int_le a.low k) a1.0 in
    let b1 = and_parts ((b.table == t) && int_le b.low k) (int_le k b.high) f in
    let b0 = and_parts (b.table == t) (int_le b.low k) b1.0 in
    and_from (a.written || b.written) (share a b) w
    (and_from ((a.table == b.table) && int_le a.low b.high) (int_le b.low a.high)
    (and_from (a.table == b.table) (int_le a.low b.high) (eq-eqb a.table b.table (eqb-true a.table t a0.0 ∙ sym (eqb-true b.table t b0.0))) (le_through a.low k b.high a0.1 b1.1))
    (le_through b.low k a.high b0.1 a1.1))

module _ (t : ℕ) (k : ℤ) where
  -- what is written is among the parts
  written_step : (p : Part) (parts : List Part) (w : Bool) → list_any (is_in t k) (cond w (p ∷ written parts) (written parts)) ≡ true
      → (covers (written parts) t k ≡ true → covers parts t k ≡ true) → (is_in t k p || covers parts t k) ≡ true
  written_step p parts false h rest = or_right (is_in t k p) (covers parts t k) (rest h)
  written_step p parts true h rest =
      elim (or_cases (is_in t k p) (covers (written parts) t k) h) [ inl here ↦ or_left (is_in t k p) (covers parts t k) here | inr later ↦ or_right (is_in t k p) (covers parts t k) (rest later) ]

  pub written_covered : (parts : List Part) → covers (written parts) t k ≡ true → covers parts t k ≡ true
  written_covered [] h = h
  written_covered (p ∷ parts) h = written_step p parts p.written h (written_covered parts)

  -- a part with the row, and others that may change it
  read_by : (a p : Part) (parts : List Part) (w : Bool) → p.written ≡ w → is_in t k a ≡ true → list_any (is_in t k) (cond w (p ∷ written parts) (written parts)) ≡ true
      → (covers (written parts) t k ≡ true → list_any (conflict a) parts ≡ true) → (conflict a p || list_any (conflict a) parts) ≡ true
  read_by a p parts false e at h rest = or_right (conflict a p) (list_any (conflict a) parts) (rest h)
  read_by a p parts true e at h rest =
      elim (or_cases (is_in t k p) (covers (written parts) t k) h) [
        | inl here ↦ or_left (conflict a p) (list_any (conflict a) parts) (shared a p t k at here (or_right a.written p.written e))
        | inr later ↦ or_right (conflict a p) (list_any (conflict a) parts) (rest later)
      ]

  read_meets : (a : Part) (parts : List Part) → is_in t k a ≡ true → covers (written parts) t k ≡ true → list_any (conflict a) parts ≡ true
  read_meets a [] at h = h
  read_meets a (p ∷ parts) at h = read_by a p parts p.written refl at h (read_meets a parts at)

  -- a part that may change the row, and others with it
  write_meets : (a : Part) (parts : List Part) → is_in t k a ≡ true → a.written ≡ true → covers parts t k ≡ true → list_any (conflict a) parts ≡ true
  write_meets a [] at w h = h
  write_meets a (p ∷ parts) at w h =
      elim (or_cases (is_in t k p) (covers parts t k) h) [
        | inl here ↦ or_left (conflict a p) (list_any (conflict a) parts) (shared a p t k at here (or_left a.written p.written w))
        | inr later ↦ or_right (conflict a p) (list_any (conflict a) parts) (write_meets a parts at w later)
      ]

  module _ (others : List Part) where
    no_read : (parts : List Part) → are_apart parts others ≡ true → covers (written others) t k ≡ true → covers parts t k ≡ true → ⊥
    no_read [] apart w h = cc
    no_read (a ∷ parts) apart w h =
        let test = and_parts (not (list_any (conflict a) others)) (are_apart parts others) apart in
        elim (or_cases (is_in t k a) (covers parts t k) h) [
          | inl here ↦ both_ways (list_any (conflict a) others) test.0 (read_meets a others here w)
          | inr later ↦ no_read parts test.1 w later
        ]

    write_by : (a : Part) (parts : List Part) (w : Bool) → a.written ≡ w → not (list_any (conflict a) others) ≡ true → (covers (written parts) t k ≡ true → ⊥)
        → list_any (is_in t k) (cond w (a ∷ written parts) (written parts)) ≡ true → covers others t k ≡ true → ⊥
    write_by a parts false e none rest h there = rest h
    write_by a parts true e none rest h there =
        elim (or_cases (is_in t k a) (covers (written parts) t k) h) [
          | inl here ↦ both_ways (list_any (conflict a) others) none (write_meets a others here e there)
          | inr later ↦ rest later
        ]

    no_write : (parts : List Part) → are_apart parts others ≡ true → covers (written parts) t k ≡ true → covers others t k ≡ true → ⊥
    no_write [] apart h there = cc
    no_write (a ∷ parts) apart h there =
        let test = and_parts (not (list_any (conflict a) others)) (are_apart parts others) apart in
        write_by a parts a.written refl test.0 (λ later. no_write parts test.1 later there) h there

pub apart_by_test : (parts others : List Part) → are_apart parts others ≡ true → Apart parts others
apart_by_test parts others apart = record {
  left = λ t k w. false_from_ne_true (covers parts t k) (λ h. no_read t k others parts apart w h);
  right = λ t k w. false_from_ne_true (covers others t k) (λ h. no_write t k others parts apart w h);
}
