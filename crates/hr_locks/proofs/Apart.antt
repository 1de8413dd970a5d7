-- No two transactions hold what conflicts: what each change of the locks keeps.
use Rattle.std.proofs.Common.{◌≡◌, ℕ, zero, suc, Bool, true, false, not, cond, ◌&&◌, ◌||◌, ◌==◌, Option, Some, None, List, [], ◌∷◌, ◌++◌, take, filter, refl, ap, sym, ◌∙◌}
use Rattle.std.specs.List.{list_any, list_all}
use Rattle.std.proofs.lemmas.Bool.{and_parts, and_from, eq-eqb}
use Rattle.std.proofs.lemmas.List.{append-nil}
use Rattle.std.proofs.lemmas.List.Folds.{list_all-append}
use Rattle.hr_locks.specs.declared.need.Need.{Need}
use Rattle.hr_locks.specs.declared.need.Lock.{Lock}
use Rattle.hr_locks.specs.declared.grant.Grant.{Grant}
use Rattle.hr_locks.specs.declared.grant.Grant.TheVariants as grant
use Rattle.hr_locks.specs.declared.grant.LastGrant.{LastGrant}
use Rattle.hr_locks.specs.Grants.{IsDue, locks_given}
use Rattle.hr_locks.specs.Seen.{locks_before}
use Rattle.hr_locks.specs.Locks.{is_conflict, is_against, is_in_the_way, locks_on, is_apart_from, is_apart}

module _ {X : Type 0} (p : X → Bool) where
  all_part_step : (q : X → Bool) (x : X) (xs : List X) (b : Bool) → list_all p (x ∷ xs) ≡ true → list_all p (filter q xs) ≡ true → list_all p (cond b (x ∷ filter q xs) (filter q xs)) ≡ true
  all_part_step q x xs true h rest = and_from (p x) (list_all p (filter q xs)) (and_parts (p x) (list_all p xs) h).0 rest
  all_part_step q x xs false h rest = rest

  all_part : (q : X → Bool) (xs : List X) → list_all p xs ≡ true → list_all p (filter q xs) ≡ true
  all_part q [] h = refl
  all_part q (x ∷ xs) h = all_part_step q x xs (q x) h (all_part q xs (and_parts (p x) (list_all p xs) h).1)

  all_front : (n : ℕ) (xs : List X) → list_all p xs ≡ true → list_all p (take n xs) ≡ true
  all_front zero [] h = refl
  all_front zero (x ∷ xs) h = refl
  all_front (suc n) [] h = refl
  all_front (suc n) (x ∷ xs) h = (let parts = and_parts (p x) (list_all p xs) h in and_from (p x) (list_all p (take n xs)) parts.0 (all_front n xs parts.1))

module _ {N : Type 0} (meets : N → N → Bool) where
  abbrev later : Lock N → List (Lock N) → Bool
  later lock locks = list_all (is_apart_from meets lock) locks

  -- ---- fewer locks

  part_step : (q : Lock N → Bool) (x : Lock N) (xs : List (Lock N)) (b : Bool) → is_apart meets (x ∷ xs) ≡ true → is_apart meets (filter q xs) ≡ true → is_apart meets (cond b (x ∷ filter q xs) (filter q xs)) ≡ true
  part_step q x xs true h rest = and_from (later x (filter q xs)) (is_apart meets (filter q xs)) (all_part (is_apart_from meets x) q xs (and_parts (later x xs) (is_apart meets xs) h).0) rest
  part_step q x xs false h rest = rest

  pub apart_part : (q : Lock N → Bool) (xs : List (Lock N)) → is_apart meets xs ≡ true → is_apart meets (filter q xs) ≡ true
  apart_part q [] h = refl
  apart_part q (x ∷ xs) h = part_step q x xs (q x) h (apart_part q xs (and_parts (later x xs) (is_apart meets xs) h).1)

  pub apart_front : (n : ℕ) (xs : List (Lock N)) → is_apart meets xs ≡ true → is_apart meets (take n xs) ≡ true
  apart_front zero [] h = refl
  apart_front zero (x ∷ xs) h = refl
  apart_front (suc n) [] h = refl
  apart_front (suc n) (x ∷ xs) h =
      let parts = and_parts (later x xs) (is_apart meets xs) h in
      and_from (later x (take n xs)) (is_apart meets (take n xs)) (all_front (is_apart_from meets x) n xs parts.0) (apart_front n xs parts.1)

  -- ---- more locks of one transaction

  same_one : (t : ℕ) (b : Bool) → ((t == t) || b) ≡ true
  same_one t b = ap (λ a. a || b) (eq-eqb t t refl)

  of_its_own : (t : ℕ) (need : Need N) (needs : List (Need N)) → later (record { txn = t; need = need }) (locks_on t needs) ≡ true
  of_its_own t need [] = refl
  of_its_own t need (n ∷ needs) = and_from ((t == t) || not (is_conflict meets need n)) (later (record { txn = t; need = need }) (locks_on t needs)) (same_one t (not (is_conflict meets need n))) (of_its_own t need needs)

  apart_own : (t : ℕ) (needs : List (Need N)) → is_apart meets (locks_on t needs) ≡ true
  apart_own t [] = refl
  apart_own t (n ∷ needs) = and_from (later (record { txn = t; need = n }) (locks_on t needs)) (is_apart meets (locks_on t needs)) (of_its_own t n needs) (apart_own t needs)

  or_of : (a b : Bool) → (a ≡ false → b ≡ true) → (a || b) ≡ true
  or_of true b h = refl
  or_of false b h = h refl

  not_first : (a b : Bool) → (a || b) ≡ false → a ≡ false
  not_first true b h = h
  not_first false b h = refl

  not_second : (a b : Bool) → (a || b) ≡ false → b ≡ false
  not_second true b h = cc
  not_second false b h = h

  -- one lock, which conflicts with none of the needs where it is of another
  with_needs : (t : ℕ) (lock : Lock N) (needs : List (Need N)) → ((lock.txn == t) ≡ false → list_any (λ need. is_conflict meets lock.need need) needs ≡ false) → later lock (locks_on t needs) ≡ true
  with_needs t lock [] none = refl
  with_needs t lock (n ∷ needs) none =
      and_from ((lock.txn == t) || not (is_conflict meets lock.need n)) (later lock (locks_on t needs))
      (or_of (lock.txn == t) (not (is_conflict meets lock.need n)) (λ e. ap not (not_first (is_conflict meets lock.need n) (list_any (λ need. is_conflict meets lock.need need) needs) (none e))))
      (with_needs t lock needs (λ e. not_second (is_conflict meets lock.need n) (list_any (λ need. is_conflict meets lock.need need) needs) (none e)))

  -- nobody else is in the way
  abbrev IsFree : List (Lock N) → ℕ → List (Need N) → Type 0
  IsFree locks t needs = (u : ℕ) → (not (u == t) && is_in_the_way meets locks needs u) ≡ false

  and_rest : (a b c : Bool) → (a && (b || c)) ≡ false → (a && c) ≡ false
  and_rest true true c h = cc
  and_rest true false c h = h
  and_rest false b c h = refl

  of_first : (a b c : Bool) → (not a && ((true && b) || c)) ≡ false → a ≡ false → b ≡ false
  of_first true b c h e = cc
  of_first false true c h e = h
  of_first false false c h e = refl

  free_first : (t : ℕ) (lock : Lock N) (locks : List (Lock N)) (needs : List (Need N)) → IsFree (lock ∷ locks) t needs → (lock.txn == t) ≡ false → list_any (λ need. is_conflict meets lock.need need) needs ≡ false
  free_first t lock locks needs free =
      of_first (lock.txn == t) (list_any (λ need. is_conflict meets lock.need need) needs) (is_in_the_way meets locks needs lock.txn)
      (ap (λ b. not (lock.txn == t) && ((b && list_any (λ need. is_conflict meets lock.need need) needs) || is_in_the_way meets locks needs lock.txn)) (sym (eq-eqb lock.txn lock.txn refl)) ∙ free lock.txn)

  pub apart_more : (locks : List (Lock N)) (t : ℕ) (needs : List (Need N)) → is_apart meets locks ≡ true → IsFree locks t needs → is_apart meets (locks ++ locks_on t needs) ≡ true
  apart_more [] t needs h free = apart_own t needs
  apart_more (lock ∷ locks) t needs h free =
      let parts = and_parts (later lock locks) (is_apart meets locks) h in
      and_from (later lock (locks ++ locks_on t needs)) (is_apart meets (locks ++ locks_on t needs))
      (list_all-append (is_apart_from meets lock) locks (locks_on t needs)
      ∙ and_from (later lock locks) (later lock (locks_on t needs)) parts.0 (with_needs t lock needs (free_first t lock locks needs free)))
      (apart_more locks t needs parts.1 (λ u. and_rest (not (u == t)) (is_against meets needs u lock) (is_in_the_way meets locks needs u) (free u)))

  -- ---- the calls of a table

  pub apart_request : (locks new : List (Lock N)) (waits : ℕ → List ℕ) (t : ℕ) (needs : List (Need N)) (grant : Grant)
      → IsDue (is_in_the_way meets locks needs) waits t grant → new ≡ locks ++ locks_given t needs grant → is_apart meets locks ≡ true → is_apart meets new ≡ true
  apart_request locks new waits t needs grant.Granted due e h = ap (is_apart meets) e ∙ apart_more locks t needs h (λ u. sym (due.all u))
  apart_request locks new waits t needs (grant.Blocked named) due e h = ap (is_apart meets) (e ∙ append-nil locks) ∙ h
  apart_request locks new waits t needs (grant.Deadlock cycle) due e h = ap (is_apart meets) (e ∙ append-nil locks) ∙ h

  pub apart_release : (t : ℕ) (locks new : List (Lock N)) → new ≡ filter (λ (lock : Lock N). not (lock.txn == t)) locks → is_apart meets locks ≡ true → is_apart meets new ≡ true
  apart_release t locks new e h = ap (is_apart meets) e ∙ apart_part (λ (lock : Lock N). not (lock.txn == t)) locks h

  apart_before : (last : Option LastGrant) (locks : List (Lock N)) → is_apart meets locks ≡ true → is_apart meets (locks_before last locks) ≡ true
  apart_before None locks h = h
  apart_before (Some last) locks h = apart_front last.locks locks h

  pub apart_undo : (last : Option LastGrant) (locks new : List (Lock N)) → new ≡ locks_before last locks → is_apart meets locks ≡ true → is_apart meets new ≡ true
  apart_undo last locks new e h = ap (is_apart meets) e ∙ apart_before last locks h
