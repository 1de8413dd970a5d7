-- Look-ups in the lists of the code.
use Rattle.std.proofs.Common.{◌≡◌, ℕ, zero, suc, ◌+◌, ◌-◌, ◌<◌, ◌≤◌, Bool, true, false, Some, None, unwrap_or, List, [], ◌∷◌, ◌++◌, map, length, slice_get, slice_set, slice_index_or, get_or, cond, Result, Ok, Err, OnOk, OnErr, refl, ap, sym, ◌∙◌, subst, arith}
use Rattle.std.specs.Prelude.{take_while}
use Rattle.std.specs.Option.{option_map}
use Rattle.std.proofs.lemmas.List.Sums.{take_while-cons}
use Rattle.std.proofs.lemmas.Option.{slice_get_read, slice_get_past}
use Rattle.hr_base.specs.Lists.{numbered, last_of}
use Rattle.hr_base.specs.declared.limits.TheConstants.{MAX_STATEMENTS}
use Rattle.hr_progress.specs.declared.txn.TxnState.{TxnState}
use Rattle.hr_progress.specs.declared.progress.Progress.{Progress}
use Rattle.hr_progress.specs.Plain.{no_txn, idle_progress, plain_txn, plain_txn_in, plain_progress, plain_replica_in}
use Rattle.hr_progress.specs.Kept.{HasGivenRoom, HaveGivenRoom}
use Rattle.hr_progress.proofs.Parts.{got_map}

pub on_err : {T E P : Type 0} (r : Result T E) → P → OnErr r P
on_err (Ok x) p = tt
on_err (Err e) p = p

pub txn_at : (txns : List TxnState) (t : ℕ) → (t ≡ 0 → ⊥) → plain_txn_in (map plain_txn txns) t ≡ unwrap_or (option_map plain_txn (slice_get txns (t - 1))) no_txn
txn_at txns zero h = absurd (h refl)
txn_at txns (suc n) h = let same : n ≡ suc n - 1 = omega arith in ap (λ o. unwrap_or o no_txn) (got_map plain_txn txns n) ∙ ap (λ i. unwrap_or (option_map plain_txn (slice_get txns i)) no_txn) same

pub numbered_at : {X : Type 0} (xs : List X) (t : ℕ) → (t ≡ 0 → ⊥) → numbered xs t ≡ slice_get xs (t - 1)
numbered_at xs zero h = absurd (h refl)
numbered_at xs (suc n) h = let same : n ≡ suc n - 1 = omega arith in ap (slice_get xs) same

-- one set anew that is seen as before
pub set_same : {X Y : Type 0} (view : X → Y) (xs : List X) (i : ℕ) (x y : X) → i < length xs → x ≡ slice_index_or xs i x → view y ≡ view x → map view (slice_set xs i y) ≡ map view xs
set_same view [] i x y h at same = absurd (omega (arith, h))
set_same view (z ∷ xs) zero x y h at same = ap (λ w. w ∷ map view xs) (same ∙ ap view at)
set_same view (z ∷ xs) (suc i) x y h at same = ap (λ ws. view z ∷ ws) (set_same view xs i x y (omega (arith, h)) at same)

pub room_at : (xs : List TxnState) (i : ℕ) (x : TxnState) → i < length xs → x ≡ slice_index_or xs i x → HaveGivenRoom xs → HasGivenRoom x
room_at [] i x h at room = absurd (omega (arith, h))
room_at (z ∷ xs) zero x h at room = subst HasGivenRoom (sym at) room.0
room_at (z ∷ xs) (suc i) x h at room = room_at xs i x (omega (arith, h)) at room.1

pub room_set : (xs : List TxnState) (i : ℕ) (y : TxnState) → HasGivenRoom y → HaveGivenRoom xs → HaveGivenRoom (slice_set xs i y)
room_set [] i y h room = room
room_set (z ∷ xs) zero y h room = (h, room.1)
room_set (z ∷ xs) (suc i) y h room = (room.0, room_set xs i y h room.1)

-- ---- how far a test passes

long_by : {X : Type 0} (b : Bool) (x : X) (ys : List X) (n : ℕ) → suc n ≤ length (cond b (x ∷ ys) []) → n ≤ length ys
long_by true x ys n h = omega (arith, h)
long_by false x ys n h = absurd (omega (arith, h))

pub on_ok : {T E P : Type 0} (r : Result T E) → P → OnOk r P
on_ok (Ok x) p = p
on_ok (Err e) p = tt

module _ (p : ℕ → Bool) where
  pub rest_of : (x : ℕ) (xs : List ℕ) (n : ℕ) → suc n ≤ length (take_while p (x ∷ xs)) → (p x ≡ true) × (n ≤ length (take_while p xs))
  rest_of x xs n h = by (p x) refl (subst (λ ys. suc n ≤ length ys) (take_while-cons p x xs) h)
    where
      by : (b : Bool) → p x ≡ b → suc n ≤ length (cond b (x ∷ take_while p xs) []) → (p x ≡ true) × (n ≤ length (take_while p xs))
      by true e g = (e, omega (arith, g))
      by false e g = absurd (omega (arith, g))

  pub passing : (x : ℕ) (xs : List ℕ) → p x ≡ true → length (take_while p (x ∷ xs)) ≡ suc (length (take_while p xs))
  passing x xs e = ap length (take_while-cons p x xs ∙ ap (λ b. cond b (x ∷ take_while p xs) []) e)

  -- one more passes
  pub front_more : (xs : List ℕ) (n x : ℕ) → n ≤ length (take_while p xs) → slice_get xs n ≡ Some x → p x ≡ true → n + 1 ≤ length (take_while p xs)
  front_more [] n x h at e = absurd (wrong at)
    where
      wrong : {a : ℕ} → None ≡ Some a → ⊥
      wrong d = cc
  front_more (y ∷ xs) zero x h at e = omega (arith, passing y xs (ap p (inner at) ∙ e))
    where
      inner : {a b : ℕ} → Some a ≡ Some b → a ≡ b
      inner {a} q = ap (λ o. unwrap_or o a) q
  front_more (y ∷ xs) (suc n) x h at e =
      let r = rest_of y xs n h in
      omega (arith, passing y xs r.0, front_more xs n x r.1 at e)

  -- the next fails
  pub front_end : (xs : List ℕ) (n x : ℕ) → n ≤ length (take_while p xs) → slice_get xs n ≡ Some x → p x ≡ false → n ≡ length (take_while p xs)
  front_end [] n x h at e = absurd (wrong at)
    where
      wrong : {a : ℕ} → None ≡ Some a → ⊥
      wrong d = cc
  front_end (y ∷ xs) zero x h at e = sym (ap length (take_while-cons p y xs ∙ ap (λ b. cond b (y ∷ take_while p xs) []) (ap p (inner at) ∙ e)))
    where
      inner : {a b : ℕ} → Some a ≡ Some b → a ≡ b
      inner {a} q = ap (λ o. unwrap_or o a) q
  front_end (y ∷ xs) (suc n) x h at e =
      let r = rest_of y xs n h in
      omega (arith, passing y xs r.0, front_end xs n x r.1 at e)

  -- no more come
  pub front_all : (xs : List ℕ) (n : ℕ) → n ≤ length (take_while p xs) → length xs ≤ n → n ≡ length (take_while p xs)
  front_all [] n h e = omega (arith, h)
  front_all (y ∷ xs) zero h e = absurd (omega (arith, e))
  front_all (y ∷ xs) (suc n) h e =
      let r = rest_of y xs n h in
      omega (arith, passing y xs r.0, front_all xs n r.1 (omega (arith, e)))

pub room_more : (xs : List TxnState) (y : TxnState) → HasGivenRoom y → HaveGivenRoom xs → HaveGivenRoom (xs ++ y ∷ [])
room_more [] y h room = (h, tt)
room_more (x ∷ xs) y h room = (room.0, room_more xs y h room.1)

-- ---- replicas

pub replica_found : (qs : List Progress) (r : ℕ) (x : Progress) → r < length qs → x ≡ get_or qs r x → plain_replica_in (map plain_progress qs) r ≡ plain_progress x
replica_found qs r x h at = ap (λ o. unwrap_or o idle_progress) (got_map plain_progress qs r ∙ ap (option_map plain_progress) (slice_get_read qs (length qs) r x refl h at))

pub replica_missing : (qs : List Progress) (r : ℕ) → length qs ≤ r → plain_replica_in (map plain_progress qs) r ≡ idle_progress
replica_missing qs r h = ap (λ o. unwrap_or o idle_progress) (got_map plain_progress qs r ∙ ap (option_map plain_progress) (slice_get_past qs r h))

pub few_statements : (xs : List TxnState) (t : ℕ) → HaveGivenRoom xs → (plain_txn_in (map plain_txn xs) t).statements ≤ MAX_STATEMENTS
few_statements xs zero room = omega arith
few_statements [] (suc n) room = omega arith
few_statements (x ∷ xs) (suc zero) room = room.0.1
few_statements (x ∷ xs) (suc (suc n)) room = few_statements xs (suc n) room.1

-- the last one of a list
pub last_got : {X : Type 0} (xs : List X) → slice_get xs (length xs - 1) ≡ last_of xs
last_got [] = refl
last_got (x ∷ []) = refl
last_got (x ∷ y ∷ xs) =
    let here : suc (suc (length xs)) - 1 ≡ suc (length xs) = omega arith in
    let there : length xs ≡ suc (length xs) - 1 = omega arith in
    ap (slice_get (x ∷ y ∷ xs)) here ∙ ap (slice_get (y ∷ xs)) there ∙ last_got (y ∷ xs)

pub txn_found : (xs : List TxnState) (t : ℕ) (x : TxnState) → 1 ≤ t → t ≤ length xs → x ≡ slice_index_or xs (t - 1) x → plain_txn_in (map plain_txn xs) t ≡ plain_txn x
txn_found xs t x first last at =
    txn_at xs t (λ e. omega (arith, e, first)) ∙ ap (λ o. unwrap_or (option_map plain_txn o) no_txn) (slice_get_read xs (length xs) (t - 1) x refl (omega (arith, first, last)) at)
