-- Seats and refusals, of which one is changed.
use Rattle.std.proofs.Common.{◌≡◌, ◌⊎◌, inl, inr, ℕ, zero, suc, ◌+◌, ◌<◌, ◌≤◌, Bool, true, false, ◌==◌, if◌then◌else◌, Option, Some, None, unwrap_or, List, [], ◌∷◌, ◌++◌, length, map, slice_get, slice_set, slice_index_or, refl, ap, sym, ◌∙◌, subst, arith}
use Rattle.std.specs.Option.{option_map}
use Rattle.std.proofs.lemmas.Bool.{eq-eqb, ne_eqb, eqb-true}
use Rattle.hr_base.specs.Lists.{numbered}
use Rattle.hr_moves.specs.Changes.{map_from, change_at}
use Rattle.hr_progress.proofs.Changed.{changed_here, unchanged_else, past, got_from, length_from, set_changed}
use Rattle.hr_core.specs.declared.seat.Seat.{Seat}
use Rattle.hr_core.specs.declared.seat.Seat.TheVariants as seat
use Rattle.hr_core.specs.declared.seat.Shown.{Shown}
use Rattle.hr_core.specs.Seats.{seat_in, refusal_in, flat, waiting, change_of, refused_for, IsSeat}

numbered_from : {X : Type 0} (h : ℕ → X → X) (xs : List X) (q : ℕ) → numbered (map_from h 1 xs) q ≡ option_map (h q) (numbered xs q)
numbered_from h xs zero = refl
numbered_from h xs (suc n) = got_from h 1 n (suc n) xs (omega arith)

known : {X : Type 0} (xs : List X) (q : ℕ) → 1 ≤ q → q ≤ length xs → (x : X) × (numbered xs q ≡ Some x)
known xs zero low high = absurd (omega (arith, low))
known [] (suc n) low high = absurd (omega (arith, high))
known (x ∷ xs) (suc zero) low high = (x, refl)
known (x ∷ xs) (suc (suc n)) low high = known xs (suc n) (omega arith) (omega (arith, high))

unwrapped : {X : Type 0} (h : X → X) (o : Option X) (x d : X) → o ≡ Some x → unwrap_or (option_map h o) d ≡ h (unwrap_or o d)
unwrapped h None x d e = cc e
unwrapped h (Some y) x d e = refl

-- the seat of a session after a change
pub seat_changed : (o : Option ℕ) (change : Seat → Seat) (seats : List Seat) (q : ℕ) → 1 ≤ q → q ≤ length seats → seat_in (map_from (change_of o change) 1 seats) q ≡ change_of o change q (seat_in seats q)
seat_changed o change seats q low high =
    let it = known seats q low high in
    ap (λ x. unwrap_or x seat.NothingAsked) (numbered_from (change_of o change) seats q) ∙ unwrapped (change_of o change q) (numbered seats q) it.0 seat.NothingAsked it.1

pub seats_length : (o : Option ℕ) (change : Seat → Seat) (seats : List Seat) → length (map_from (change_of o change) 1 seats) ≡ length seats
seats_length o change seats = length_from (change_of o change) 1 seats

module _ (why : Shown) (t : ℕ) (causes : List (Option Shown)) where
  flat_else : (u : ℕ) (o : Option (Option Shown)) → (u ≡ t → ⊥) → flat (option_map (change_at t (refused_for why) u) o) ≡ flat o
  flat_else u None h = refl
  flat_else u (Some x) h = unchanged_else t u (refused_for why) x h

  pub refusal_else : (u : ℕ) → (u ≡ t → ⊥) → refusal_in (map_from (change_at t (refused_for why)) 1 causes) u ≡ refusal_in causes u
  refusal_else u h = ap flat (numbered_from (change_at t (refused_for why)) causes u) ∙ flat_else u (numbered causes u) h

  flat_here : (o : Option (Option Shown)) (x : Option Shown) → o ≡ Some x → flat (option_map (change_at t (refused_for why) t) o) ≡ Some why
  flat_here None x e = cc e
  flat_here (Some y) x e = changed_here t t (refused_for why) y refl

  pub refusal_here : 1 ≤ t → t ≤ length causes → refusal_in (map_from (change_at t (refused_for why)) 1 causes) t ≡ Some why
  refusal_here low high = let it = known causes t low high in ap flat (numbered_from (change_at t (refused_for why)) causes t) ∙ flat_here (numbered causes t) it.0 it.1

  pub causes_length : length (map_from (change_at t (refused_for why)) 1 causes) ≡ length causes
  causes_length = length_from (change_at t (refused_for why)) 1 causes

-- with one more, for which nobody was refused
pub refusal_end : (causes : List (Option Shown)) (t : ℕ) → refusal_in (causes ++ None ∷ []) t ≡ refusal_in causes t
refusal_end causes zero = refl
refusal_end [] (suc zero) = refl
refusal_end [] (suc (suc n)) = refl
refusal_end (x ∷ causes) (suc zero) = refl
refusal_end (x ∷ causes) (suc (suc n)) = refusal_end causes (suc n)

-- ---- how the code changes one

same_from : (n : ℕ) (g : Seat → Seat) (k : ℕ) (xs : List Seat) → map_from (change_of (Some n) g) k xs ≡ map_from (change_at n g) k xs
same_from n g k [] = refl
same_from n g k (x ∷ xs) = ap (λ ys. (if k == n then g x else x) ∷ ys) (same_from n g (k + 1) xs)

none_from : (g : Seat → Seat) (k : ℕ) (xs : List Seat) → map_from (change_of None g) k xs ≡ xs
none_from g k [] = refl
none_from g k (x ∷ xs) = ap (λ ys. x ∷ ys) (none_from g (k + 1) xs)

beyond : {X : Type 0} (g : X → X) (m n : ℕ) (xs : List X) → n + length xs ≤ m → map_from (change_at m g) n xs ≡ xs
beyond g m n [] h = refl
beyond g m n (x ∷ xs) h = λ i. unchanged_else m n g x (λ e. omega (arith, h, e)) i ∷ beyond g m (n + 1) xs (omega (arith, h)) i

outside : (n : ℕ) (g : Seat → Seat) (xs : List Seat) → (n ≡ 0) ⊎ (length xs < n) → xs ≡ map_from (change_at n g) 1 xs
outside n g xs (inl none) = sym (past g n 1 xs (omega (arith, none)))
outside n g xs (inr more) = sym (beyond g n 1 xs (omega (arith, more)))

-- nobody's seat is changed
pub no_seat : (session : Option ℕ) (g : Seat → Seat) (xs : List Seat) (n : ℕ) → n ≡ length xs → IsSeat session n None → xs ≡ map_from (change_of session g) 1 xs
no_seat None g xs n count is = sym (none_from g 1 xs)
no_seat (Some m) g xs n count is = outside m g xs (subst (λ k. (m ≡ 0) ⊎ (k < m)) count is) ∙ sym (same_from m g 1 xs)

-- one session's is
pub one_seat : (session : Option ℕ) (g : Seat → Seat) (xs : List Seat) (n place : ℕ) (x : Seat) → n ≡ length xs → IsSeat session n (Some place) → x ≡ slice_index_or xs place x → slice_set xs place (g x) ≡ map_from (change_of session g) 1 xs
one_seat session g xs n place x count is at =
    sym (map_same (slice_set xs place (g x))) ∙ set_changed (λ (s : Seat). s) g xs place 1 (place + 1) x (g x) (omega arith) (omega (arith, is.1, count)) at refl
    ∙ ap (map_from (change_at (place + 1) g) 1) (map_same xs) ∙ sym (same_from (place + 1) g 1 xs) ∙ ap (λ o. map_from (change_of o g) 1 xs) (sym is.0)
  where
    map_same : (ys : List Seat) → map (λ (s : Seat). s) ys ≡ ys
    map_same [] = refl
    map_same (y ∷ ys) = ap (λ zs. y ∷ zs) (map_same ys)

refused_past : (why : Shown) (m k : ℕ) (xs : List (Option Shown)) → m < k → xs ≡ map_from (change_at m (refused_for why)) k xs
refused_past why m k xs h = sym (past (refused_for why) m k xs h)

refused_from : (why : Shown) (xs : List (Option Shown)) (i m k : ℕ) → m ≡ k + i → i < length xs → slice_set xs i (Some why) ≡ map_from (change_at m (refused_for why)) k xs
refused_from why [] i m k e h = absurd (omega (arith, h))
refused_from why (x ∷ xs) zero m k e h = λ i. sym (changed_here m k (refused_for why) x (omega (arith, e))) i ∷ refused_past why m (k + 1) xs (omega (arith, e)) i
refused_from why (x ∷ xs) (suc n) m k e h = λ i. sym (unchanged_else m k (refused_for why) x (λ d. omega (arith, e, d))) i ∷ refused_from why xs n m (k + 1) (omega (arith, e)) (omega (arith, h)) i

-- one transaction's refusal is kept
pub one_refusal : (why : Shown) (xs : List (Option Shown)) (i m : ℕ) → m ≡ 1 + i → i < length xs → slice_set xs i (Some why) ≡ map_from (change_at m (refused_for why)) 1 xs
one_refusal why xs i m e h = refused_from why xs i m 1 e h

some_there : (xs : List Seat) (i : ℕ) → i < length xs → (x : Seat) × (x ≡ slice_index_or xs i x)
some_there [] i h = absurd (omega (arith, h))
some_there (x ∷ xs) zero h = (x, refl)
some_there (x ∷ xs) (suc i) h = some_there xs i (omega (arith, h))

-- one session waits
pub one_waits : (session : Option ℕ) (xs : List Seat) (n place : ℕ) → n ≡ length xs → IsSeat session n (Some place) → slice_set xs place seat.Waiting ≡ map_from (change_of session waiting) 1 xs
one_waits session xs n place count is = let x = some_there xs place (omega (arith, is.1, count)) in one_seat session waiting xs n place x.0 count is x.1
