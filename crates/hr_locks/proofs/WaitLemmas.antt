-- Whom a transaction waits for, after lists of waits were changed.
use Rattle.std.proofs.Common.{◌≡◌, ◌≤◌, ◌<◌, ℕ, zero, suc, Bool, true, false, not, cond, ◌||◌, ◌==◌, if◌then◌else◌, Option, Some, List, [], ◌∷◌, ◌++◌, map, filter, take, drop, length, get_or, slice_set, refl, ap, sym, ◌∙◌, arith}
use Rattle.std.proofs.lemmas.Bool.{eqb-true, true≢false}
use Rattle.std.proofs.lemmas.List.{append-nil}
use Rattle.hr_base.specs.Lists.{is_ascending}
use Rattle.hr_base.proofs.Tests.{eq_turn, in_filter}
use Rattle.hr_locks.specs.declared.wait.Wait.{Wait}
use Rattle.hr_locks.specs.Waits.{wait_in, wait_seen, without, is_the_one, pairs, named_in, seen_waits, waits_of_others}
use Rattle.hr_locks.proofs.Routes.{above_first, ascending_rest}
use Rattle.hr_locks.proofs.HolderLemmas.{cons_ascending}

-- a part of an ascending list is ascending
part_step : (p : ℕ → Bool) (x : ℕ) (xs : List ℕ) → is_ascending (x ∷ xs) ≡ true → is_ascending (filter p xs) ≡ true → (b : Bool) → is_ascending (cond b (x ∷ filter p xs) (filter p xs)) ≡ true
part_step p x xs a rest true = cons_ascending x (filter p xs) rest (λ u h. above_first x xs a u (in_filter p xs u h))
part_step p x xs a rest false = rest

pub part_ascending : (p : ℕ → Bool) (xs : List ℕ) → is_ascending xs ≡ true → is_ascending (filter p xs) ≡ true
part_ascending p [] a = refl
part_ascending p (x ∷ xs) a = part_step p x xs a (part_ascending p xs (ascending_rest x xs a)) (p x)

-- ---- waits as pairs

pub named_pairs : (ws : List Wait) (t : ℕ) → named_in (pairs ws) t ≡ wait_in ws t
named_pairs [] t = refl
named_pairs (w ∷ ws) t = ap (λ v. if w.txn == t then w.names.items else v) (named_pairs ws t)

-- ---- the waits of some are left out

module _ (out : ℕ → Bool) where
  abbrev left : List Wait → List Wait
  left ws = filter (λ (w : Wait). not (out w.txn)) ws

  -- one of those has no wait before `rest`
  out_step : (w : Wait) (ws : List Wait) (rest : List (ℕ × List ℕ)) (t : ℕ) (b : Bool) → out w.txn ≡ b → out t ≡ true
      → named_in (pairs (left ws) ++ rest) t ≡ named_in rest t → named_in (pairs (cond (not b) (w ∷ left ws) (left ws)) ++ rest) t ≡ named_in rest t
  out_step w ws rest t true e o more = more
  out_step w ws rest t false e o more = by (w.txn == t) refl
    where
      by : (c : Bool) → (w.txn == t) ≡ c → (if c then w.names.items else named_in (pairs (left ws) ++ rest) t) ≡ named_in rest t
      by true same = absurd (true≢false (sym o ∙ ap out (sym (eqb-true w.txn t same)) ∙ e))
      by false other = more

  left_out : (ws : List Wait) (rest : List (ℕ × List ℕ)) (t : ℕ) → out t ≡ true → named_in (pairs (left ws) ++ rest) t ≡ named_in rest t
  left_out [] rest t o = refl
  left_out (w ∷ ws) rest t o = out_step w ws rest t (out w.txn) refl o (left_out ws rest t o)

  -- and the others have the wait that they had
  in_step : (w : Wait) (ws : List Wait) (rest : List (ℕ × List ℕ)) (t : ℕ) (b : Bool) → out w.txn ≡ b → out t ≡ false
      → named_in (pairs (left ws) ++ rest) t ≡ wait_in ws t
      → named_in (pairs (cond (not b) (w ∷ left ws) (left ws)) ++ rest) t ≡ (if w.txn == t then w.names.items else wait_in ws t)
  in_step w ws rest t false e o more = ap (λ v. if w.txn == t then w.names.items else v) more
  in_step w ws rest t true e o more = by (w.txn == t) refl
    where
      by : (c : Bool) → (w.txn == t) ≡ c → named_in (pairs (left ws) ++ rest) t ≡ (if c then w.names.items else wait_in ws t)
      by true same = absurd (true≢false (sym e ∙ ap out (eqb-true w.txn t same) ∙ o))
      by false other = more

  left_in : (ws : List Wait) (rest : List (ℕ × List ℕ)) (t : ℕ) → out t ≡ false → named_in rest t ≡ [] → named_in (pairs (left ws) ++ rest) t ≡ wait_in ws t
  left_in [] rest t o none = none
  left_in (w ∷ ws) rest t o none = in_step w ws rest t (out w.txn) refl o (left_in ws rest t o none)

  -- with nothing behind it
  left_wait : (ws : List Wait) (t : ℕ) → named_in (pairs (left ws)) t ≡ (if out t then [] else wait_in ws t)
  left_wait ws t = by (out t) refl
    where
      alone : named_in (pairs (left ws)) t ≡ named_in (pairs (left ws) ++ []) t
      alone = ap (λ v. named_in v t) (sym (append-nil (pairs (left ws))))

      by : (b : Bool) → out t ≡ b → named_in (pairs (left ws)) t ≡ (if b then [] else wait_in ws t)
      by true o = alone ∙ left_out ws [] t o
      by false o = alone ∙ left_in ws [] t o refl

-- the waits that are seen
pub seen_wait : (granted : Option ℕ) (ws : List Wait) (t : ℕ) → named_in (pairs (seen_waits granted ws)) t ≡ wait_seen granted ws t
seen_wait granted ws t = left_wait (is_the_one granted) ws t

pub seen_in : (granted : Option ℕ) (ws : List Wait) (t : ℕ) → wait_in (seen_waits granted ws) t ≡ wait_seen granted ws t
seen_in granted ws t = sym (named_pairs (seen_waits granted ws) t) ∙ seen_wait granted ws t

-- whose wait is dropped with that of `a`
abbrev gone : Option ℕ → ℕ → ℕ → Bool
gone granted a u = (u == a) || is_the_one granted u

two_tests : {X : Type 0} (a b : Bool) (x y : X) → (if a || b then x else y) ≡ (if a then x else (if b then x else y))
two_tests true b x y = refl
two_tests false b x y = refl

-- where the wait of `a` is dropped
pub dropped_wait : (granted : Option ℕ) (a : ℕ) (ws : List Wait) (t : ℕ) → wait_in (waits_of_others granted a ws) t ≡ (if t == a then [] else wait_seen granted ws t)
dropped_wait granted a ws t =
    sym (named_pairs (waits_of_others granted a ws) t)
    ∙ left_wait (gone granted a) ws t
    ∙ two_tests (t == a) (is_the_one granted t) [] (wait_in ws t)

-- and where it waits for others then
pub put_pair : (granted : Option ℕ) (a : ℕ) (names : List ℕ) (ws : List Wait) (t : ℕ)
    → named_in (pairs (waits_of_others granted a ws) ++ (a, names) ∷ []) t ≡ (if t == a then names else wait_seen granted ws t)
put_pair granted a names ws t = by (t == a) refl (is_the_one granted t) refl
  where
    rest : List (ℕ × List ℕ)
    rest = (a, names) ∷ []

    at_end : (b : Bool) → (t == a) ≡ b → named_in rest t ≡ (if b then names else [])
    at_end b e = ap (λ c. if c then names else []) (eq_turn a t ∙ e)

    by : (b : Bool) → (t == a) ≡ b → (c : Bool) → is_the_one granted t ≡ c
        → named_in (pairs (waits_of_others granted a ws) ++ rest) t ≡ (if b then names else (if c then [] else wait_in ws t))
    by true e c d = left_out (gone granted a) ws rest t (ap (λ v. v || is_the_one granted t) e) ∙ at_end true e
    by false e true d = left_out (gone granted a) ws rest t (ap (λ v. v || is_the_one granted t) e ∙ d) ∙ at_end false e
    by false e false d = left_in (gone granted a) ws rest t (ap (λ v. v || is_the_one granted t) e ∙ d) (at_end false e)

pub put_wait_in : (granted : Option ℕ) (a : ℕ) (names : List ℕ) (old new : List Wait) (t : ℕ) → pairs new ≡ pairs (waits_of_others granted a old) ++ (a, names) ∷ []
    → wait_in new t ≡ (if t == a then names else wait_seen granted old t)
put_wait_in granted a names old new t e = sym (named_pairs new t) ∙ ap (λ v. named_in v t) e ∙ put_pair granted a names old t

-- where the wait of `a` is kept back from now on
pub kept_wait : (granted : Option ℕ) (a : ℕ) (ws : List Wait) (t : ℕ) → wait_seen (Some a) (seen_waits granted ws) t ≡ (if t == a then [] else wait_seen granted ws t)
kept_wait granted a ws t =
    ap (λ b. if b then [] else wait_in (seen_waits granted ws) t) (eq_turn a t)
    ∙ ap (λ v. if t == a then [] else v) (seen_in granted ws t)

-- ---- nobody waits for one any more

module _ (a : ℕ) where
  abbrev pub parted : ℕ × List ℕ → ℕ × List ℕ
  parted w = (w.0, without a w.1)

  parted_if : (b : Bool) (x y : List ℕ) → (if b then without a x else without a y) ≡ without a (if b then x else y)
  parted_if true x y = refl
  parted_if false x y = refl

  pub parted_wait : (ws : List (ℕ × List ℕ)) (t : ℕ) → named_in (map parted ws) t ≡ without a (named_in ws t)
  parted_wait [] t = refl
  parted_wait (w ∷ ws) t =
      ap (λ v. if w.0 == t then without a w.1 else v) (parted_wait ws t)
      ∙ parted_if (w.0 == t) w.1 (named_in ws t)

  pub forgotten_wait : (granted : Option ℕ) (old dropped new : List Wait) (t : ℕ) → dropped ≡ waits_of_others granted a old → pairs new ≡ map parted (pairs dropped)
      → wait_in new t ≡ (if t == a then [] else without a (wait_seen granted old t))
  forgotten_wait granted old dropped new t d e =
      sym (named_pairs new t)
      ∙ ap (λ v. named_in v t) e
      ∙ parted_wait (pairs dropped) t
      ∙ ap (without a) (named_pairs dropped t ∙ ap (λ v. wait_in v t) d ∙ dropped_wait granted a old t)
      ∙ sym (parted_if (t == a) [] (wait_seen granted old t))

  -- the waits so far, and the others
  abbrev pub so_far : ℕ → List (ℕ × List ℕ) → List (ℕ × List ℕ)
  so_far i all = map parted (take i all) ++ drop i all

  pub forget_one : (i : ℕ) (ws : List Wait) (all : List (ℕ × List ℕ)) (new d : Wait) → i < length ws → new.txn ≡ (get_or ws i d).txn
      → new.names.items ≡ without a (get_or ws i d).names.items → pairs ws ≡ so_far i all → pairs (slice_set ws i new) ≡ so_far (suc i) all
  forget_one i [] all new d l e f so = absurd (omega arith)
  forget_one zero (w ∷ ws) [] new d l e f so = cc
  forget_one zero (w ∷ ws) (p ∷ all) new d l e f so =
      let first : p ≡ (w.txn, w.names.items) = cc in
      let here : (new.txn, new.names.items) ≡ parted p = ap (λ n. (n, new.names.items)) (e ∙ ap (λ (v : ℕ × List ℕ). v.0) (sym first)) ∙ ap (λ v. (p.0, v)) (f ∙ ap (λ (v : ℕ × List ℕ). without a v.1) (sym first)) in
      let rest : pairs ws ≡ all = cc in
      ap (λ v. v ∷ pairs ws) here ∙ ap (λ v. parted p ∷ v) rest
  forget_one (suc i) (w ∷ ws) [] new d l e f so = cc
  forget_one (suc i) (w ∷ ws) (p ∷ all) new d l e f so =
      let first : (w.txn, w.names.items) ≡ parted p = cc in
      let rest : pairs ws ≡ so_far i all = cc in
      ap (λ v. (w.txn, w.names.items) ∷ v) (forget_one i ws all new d (omega arith) e f rest) ∙ ap (λ v. v ∷ so_far (suc i) all) first

  pub forget_all : (i : ℕ) (all : List (ℕ × List ℕ)) → length (so_far i all) ≤ i → so_far i all ≡ map parted all
  forget_all zero [] l = refl
  forget_all zero (p ∷ all) l = absurd (omega arith)
  forget_all (suc i) [] l = refl
  forget_all (suc i) (p ∷ all) l = ap (λ v. parted p ∷ v) (forget_all i all (omega arith))
