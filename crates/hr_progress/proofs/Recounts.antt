-- What is processed is counted anew at each replica.
use Rattle.std.proofs.Common.{◌≡◌, ◌≢◌, ℕ, zero, suc, ◌+◌, ◌<◌, ◌≤◌, Bool, true, false, ◌==◌, nat_lt, cond, if◌then◌else◌, Option, Some, None, unwrap_or, List, [], ◌∷◌, ◌++◌, map, length, slice_get, take_while, refl, ap, sym, subst, arith}
use Rattle.std.specs.Option.{option_map}
use Rattle.std.proofs.lemmas.Bool.{eqb-true, eq-eqb, ltb-true, lt-ltb, ltb-false, le-ltb}
use Rattle.std.proofs.lemmas.List.Sums.{take_while-cons}
use Rattle.hr_engine.specs.declared.reply.RunReply.{RunReply}
use Rattle.hr_history.specs.declared.phase.Fresh.{Fresh}
use Rattle.hr_moves.specs.Changes.{map_from, change_at}
use Rattle.hr_progress.specs.Plain.{PlainTxn, PlainProgress}
use Rattle.hr_progress.specs.Seen.{seen_replicas}
use Rattle.hr_progress.specs.Kept.{recounted, IsLeast, NoneLess}

module _ {X : Type 0} where
  -- those with a lower number are changed
  abbrev pub up_to : ℕ → (X → X) → ℕ → X → X
  up_to n g i x = if nat_lt i n then g x else x

  none_yet : (g : X → X) (i : ℕ) (x : X) → up_to 0 g i x ≡ x
  none_yet g i x = ap (λ b. if b then g x else x) (le-ltb i 0 (omega arith))

  pub up_to_none : (g : X → X) (n : ℕ) (xs : List X) → map_from (up_to 0 g) n xs ≡ xs
  up_to_none g n [] = refl
  up_to_none g n (x ∷ xs) = λ i. none_yet g n x i ∷ up_to_none g (n + 1) xs i

  pub up_to_all : (g : X → X) (k n : ℕ) (xs : List X) → n + length xs ≤ k → map_from (up_to k g) n xs ≡ map g xs
  up_to_all g k n [] h = refl
  up_to_all g k n (x ∷ xs) h = λ i. ap (λ b. if b then g x else x) (lt-ltb n k (omega (arith, h))) i ∷ up_to_all g k (n + 1) xs (omega (arith, h)) i

  one_more : (g : X → X) (k i : ℕ) (x : X) → change_at k g i (up_to k g i x) ≡ up_to (k + 1) g i x
  one_more g k i x = by (i == k) (nat_lt i k) refl refl
    where
      wrong : {b : Bool} → b ≡ true → b ≡ false → ⊥
      wrong a b = cc

      by : (b c : Bool) → (i == k) ≡ b → nat_lt i k ≡ c → (if b then g (if c then g x else x) else (if c then g x else x)) ≡ up_to (k + 1) g i x
      by true true e d = let low : i < k = ltb-true i k d in let same : i ≡ k = eqb-true i k e in absurd (omega (arith, low, same))
      by true false e d = let same : i ≡ k = eqb-true i k e in sym (ap (λ b. if b then g x else x) (lt-ltb i (k + 1) (omega (arith, same))))
      by false true e d = let low : i < k = ltb-true i k d in sym (ap (λ b. if b then g x else x) (lt-ltb i (k + 1) (omega (arith, low))))
      by false false e d =
          let high : k ≤ i = ltb-false i k d in
          sym (ap (λ b. if b then g x else x) (le-ltb i (k + 1) (past high)))
        where
          past : k ≤ i → k + 1 ≤ i
          past high = let differ : i ≢ k = λ same. wrong (eq-eqb i k same) e in omega (arith, high, differ)

  pub up_to_more : (g : X → X) (k n : ℕ) (xs : List X) → map_from (change_at k g) n (map_from (up_to k g) n xs) ≡ map_from (up_to (k + 1) g) n xs
  up_to_more g k n [] = refl
  up_to_more g k n (x ∷ xs) = λ i. one_more g k n x i ∷ up_to_more g k (n + 1) xs i

  pub not_yet : (g : X → X) (n : ℕ) (o : Option X) → option_map (up_to n g n) o ≡ o
  not_yet g n None = refl
  not_yet g n (Some x) = ap (λ b. Some (if b then g x else x)) (le-ltb n n (omega arith))

-- what is counted isn't seen
pub recounted_seen : (replies : List RunReply) (fresh : Option Fresh) (txns : List PlainTxn) (log : List ℕ) (n : ℕ) (qs : List PlainProgress) → seen_replicas replies fresh n (map (recounted txns log) qs) ≡ seen_replicas replies fresh n qs
recounted_seen replies fresh txns log n [] = refl
recounted_seen replies fresh txns log n (q ∷ qs) = λ i. seen_replicas replies fresh n (q ∷ []) ++ recounted_seen replies fresh txns log (n + 1) qs i

pub least_at : (txns : List PlainTxn) (log : List ℕ) (qs : List PlainProgress) (i : ℕ) (q : PlainProgress) → NoneLess txns log qs → slice_get qs i ≡ Some q → IsLeast txns log q
least_at txns log [] i q less at = absurd (wrong at)
  where
    wrong : {x : PlainProgress} → None ≡ Some x → ⊥
    wrong d = cc
least_at txns log (x ∷ qs) zero q less at = subst (IsLeast txns log) (ap (λ o. unwrap_or o x) at) less.0
least_at txns log (x ∷ qs) (suc i) q less at = least_at txns log qs i q less.1 at

pub none_less : (txns : List PlainTxn) (log : List ℕ) (qs : List PlainProgress) → ((i : ℕ) (q : PlainProgress) → slice_get qs i ≡ Some q → IsLeast txns log q) → NoneLess txns log qs
none_less txns log [] least = tt
none_less txns log (q ∷ qs) least = (least 0 q refl, none_less txns log qs (λ i x at. least (suc i) x at))

longer_by : (b c : Bool) (x : ℕ) (ms ns : List ℕ) → (b ≡ true → c ≡ true) → length ms ≤ length ns → length (cond b (x ∷ ms) []) ≤ length (cond c (x ∷ ns) [])
longer_by true true x ms ns more h = omega (arith, h)
longer_by true false x ms ns more h = absurd (wrong (more refl))
  where
    wrong : false ≡ true → ⊥
    wrong d = cc
longer_by false c x ms ns more h = omega arith

-- a test that passes where another does passes no less far, and no less far on a longer list
pub take_while_longer : (p q : ℕ → Bool) (xs ys : List ℕ) → ((x : ℕ) → p x ≡ true → q x ≡ true) → length (take_while p xs) ≤ length (take_while q (xs ++ ys))
take_while_longer p q [] ys more = omega arith
take_while_longer p q (x ∷ xs) ys more =
    omega (arith, ap length (take_while-cons p x xs), ap length (take_while-cons q x (xs ++ ys)), longer_by (p x) (q x) x (take_while p xs) (take_while q (xs ++ ys)) (more x) (take_while_longer p q xs ys more))
