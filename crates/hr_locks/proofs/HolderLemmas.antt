-- Ascending lists with one more, and who is in the way of a request.
use Rattle.std.proofs.Common.{◌≡◌, ◌≢◌, ℕ, zero, suc, Bool, true, false, not, ◌&&◌, ◌||◌, ◌==◌, nat_lt, ◌<◌, ◌≤◌, ◌+◌, inl, inr, List, [], ◌∷◌, ◌++◌, length, get_or, take, drop, refl, ap, sym, subst, ◌∙◌, arith}
use Rattle.std.proofs.lemmas.Bool.{and_from, or_cases, eqb-true, lt-ltb, ltb-true, ltb-false}
use Rattle.hr_base.specs.Lists.{has, is_ascending}
use Rattle.hr_base.proofs.ListLaws.{has_head, has_tail}
use Rattle.std.specs.List.{list_any}
use Rattle.std.proofs.lemmas.List.Folds.{list_any_more, list_any-append}
use Rattle.std.proofs.lemmas.List.{take_more}
use Rattle.hr_locks.specs.declared.need.Lock.{Lock}
use Rattle.hr_locks.specs.declared.need.Need.{Need}
use Rattle.hr_locks.specs.Locks.{is_conflict, is_against, is_in_the_way}
use Rattle.hr_locks.proofs.Routes.{above_first, ascending_rest}

-- one more in a list
or_last : (b : Bool) → (b || false) ≡ (false || b)
or_last true = refl
or_last false = refl

or_turn : (a b c : Bool) → (a || (b || c)) ≡ ((b || c) || a)
or_turn true true c = refl
or_turn true false true = refl
or_turn true false false = refl
or_turn false true c = refl
or_turn false false true = refl
or_turn false false false = refl

or_nest : (a b c d : Bool) → b ≡ (c || d) → (a || b) ≡ ((a || c) || d)
or_nest true b c d e = refl
or_nest false b c d e = e

pub has_put : (xs : List ℕ) (at t u : ℕ) → has (take at xs ++ t ∷ drop at xs) u ≡ (has xs u || (t == u))
has_put [] zero t u = or_last (t == u)
has_put [] (suc at) t u = or_last (t == u)
has_put (x ∷ xs) zero t u = or_turn (t == u) (x == u) (has xs u)
has_put (x ∷ xs) (suc at) t u = or_nest (x == u) (has (take at xs ++ t ∷ drop at xs) u) (has xs u) (t == u) (has_put xs at t u)

-- what stands before an ascending list, if it is less than each
pub cons_ascending : (x : ℕ) (ys : List ℕ) → is_ascending ys ≡ true → ((u : ℕ) → has ys u ≡ true → x < u) → is_ascending (x ∷ ys) ≡ true
cons_ascending x [] a less = refl
cons_ascending x (y ∷ ys) a less = and_from _ (is_ascending (y ∷ ys)) (lt-ltb x y (less y (has_head y ys))) a

less_than_put : (x t u : ℕ) (xs : List ℕ) → is_ascending (x ∷ xs) ≡ true → x < t → (has xs u || (t == u)) ≡ true → x < u
less_than_put x t u xs a l h =
    elim (or_cases (has xs u) (t == u) h) [
      | inl i ↦ above_first x xs a u i
      | inr e ↦ subst (λ v. x < v) (eqb-true t u e) l
    ]

-- a number put where those before are less and the next is greater
pub ascending_put : (xs : List ℕ) (at t : ℕ) → is_ascending xs ≡ true → ((k : ℕ) → k < at → get_or xs k 0 < t) → (at < length xs → t < get_or xs at 0)
    → at ≤ length xs → is_ascending (take at xs ++ t ∷ drop at xs) ≡ true
ascending_put [] zero t a before after w = refl
ascending_put [] (suc at) t a before after w = refl
ascending_put (x ∷ xs) zero t a before after w = and_from _ (is_ascending (x ∷ xs)) (lt-ltb t x (after (omega arith))) a
ascending_put (x ∷ xs) (suc at) t a before after w =
    cons_ascending x (take at xs ++ t ∷ drop at xs)
    (ascending_put xs at t (ascending_rest x xs a) (λ k l. before (suc k) (omega arith)) (λ l. after (omega arith)) (omega arith))
    (λ u h. less_than_put x t u xs a (before zero (omega arith)) (sym (has_put xs at t u) ∙ h))

-- what stands at a place of a list is in it
pub has_at : (xs : List ℕ) (at t : ℕ) → at < length xs → get_or xs at 0 ≡ t → has xs t ≡ true
has_at [] at t l e = absurd (omega arith)
has_at (x ∷ xs) zero t l e = subst (λ v. has (x ∷ xs) v ≡ true) e (has_head x xs)
has_at (x ∷ xs) (suc at) t l e = has_tail t x xs (has_at xs at t (omega arith) e)

same_more : (o b : Bool) → (b ≡ true → o ≡ true) → o ≡ (o || b)
same_more true b h = refl
same_more false true h = h refl
same_more false false h = refl

-- nothing changes for one that is there
pub has_already : (xs : List ℕ) (at t : ℕ) → at < length xs → get_or xs at 0 ≡ t → (u : ℕ) → has xs u ≡ (has xs u || (t == u))
has_already xs at t l e u = same_more (has xs u) (t == u) (λ same. subst (λ v. has xs v ≡ true) (eqb-true t u same) (has_at xs at t l e))

-- one more lock: `b`, it is of t; `d`, t is the asker; `e`, it is of the asker; `a`, it conflicts
in_way_table : (w a b d e : Bool) → (not e && a) ≡ true → (b ≡ true → e ≡ d) → ((not d && w) || b) ≡ (not d && (w || (b && a)))
in_way_table true a true true true h s = cc
in_way_table true a true true false h s = cc (s refl)
in_way_table true a true false e h s = refl
in_way_table false a true true true h s = cc
in_way_table false a true true false h s = cc (s refl)
in_way_table false true true false e h s = refl
in_way_table false false true false true h s = cc
in_way_table false false true false false h s = cc
in_way_table w a false true e h s = refl
in_way_table true a false false e h s = refl
in_way_table false a false false e h s = refl

out_of_way_table : (w a b d e : Bool) → (not e && a) ≡ false → (b ≡ true → e ≡ d) → (not d && w) ≡ (not d && (w || (b && a)))
out_of_way_table w a b true e h s = refl
out_of_way_table true a b false e h s = refl
out_of_way_table false a false false e h s = refl
out_of_way_table false false true false e h s = refl
out_of_way_table false true true false true h s = cc (s refl)
out_of_way_table false true true false false h s = cc

or_assoc : (a b c : Bool) → ((a || b) || c) ≡ (a || (b || c))
or_assoc true b c = refl
or_assoc false b c = refl

or_nothing : (a : Bool) → (a || false) ≡ a
or_nothing true = refl
or_nothing false = refl

-- `h`: whether t was a holder before
module _ (txn t asker : ℕ) (h w a : Bool) where
  of_asker : (txn == t) ≡ true → (txn == asker) ≡ (t == asker)
  of_asker e = ap (λ v. v == asker) (eqb-true txn t e)

  -- the holders with those of one more lock
  pub more_in_way : (n o : Bool) → n ≡ (o || (txn == t)) → o ≡ (h || (not (t == asker) && w)) → (not (txn == asker) && a) ≡ true → n ≡ (h || (not (t == asker) && (w || ((txn == t) && a))))
  more_in_way n o e f against =
      e ∙ ap (λ v. v || (txn == t)) f ∙ or_assoc h (not (t == asker) && w) (txn == t)
      ∙ ap (λ v. h || v) (in_way_table w a (txn == t) (t == asker) (txn == asker) against of_asker)

  pub same_in_way : (o : Bool) → o ≡ (h || (not (t == asker) && w)) → (not (txn == asker) && a) ≡ false → o ≡ (h || (not (t == asker) && (w || ((txn == t) && a))))
  same_in_way o f against = f ∙ ap (λ v. h || v) (out_of_way_table w a (txn == t) (t == asker) (txn == asker) against of_asker)

neither : (a b : Bool) → a ≡ false → b ≡ false → (a || b) ≡ false
neither true b e f = e
neither false b e f = f

differs : (a b : ℕ) → (a ≡ b → ⊥) → (a == b) ≡ false
differs a b d = by (a == b) refl
  where
    by : (c : Bool) → (a == b) ≡ c → c ≡ false
    by true e = absurd (d (eqb-true a b e))
    by false e = refl

-- in an ascending list each is less than all that stand behind it
pub less_behind : (xs : List ℕ) → is_ascending xs ≡ true → (i j : ℕ) → i < j → j < length xs → get_or xs i 0 < get_or xs j 0
less_behind [] a i j l within = absurd (omega arith)
less_behind (x ∷ xs) a i zero l within = absurd (omega arith)
less_behind (x ∷ xs) a zero (suc j) l within = above_first x xs a (get_or xs j 0) (has_at xs j (get_or xs j 0) (omega arith) refl)
less_behind (x ∷ xs) a (suc i) (suc j) l within = less_behind xs (ascending_rest x xs a) i j (omega arith) (omega arith)

-- where the one in the middle is less than t, those before it are
pub lower_half : (xs : List ℕ) (at t : ℕ) → is_ascending xs ≡ true → at < length xs → get_or xs at 0 < t → (k : ℕ) → k < at + 1 → get_or xs k 0 < t
lower_half xs at t a within less k l = by (nat_lt k at) refl
  where
    by : (b : Bool) → nat_lt k at ≡ b → get_or xs k 0 < t
    by true before =
        let h : k < at = ltb-true k at before in
        let two = less_behind xs a k at h within in
        omega (arith, two)
    by false other =
        let same : k ≡ at = (let not_less : at ≤ k = ltb-false k at other in omega arith) in
        subst (λ n. get_or xs n 0 < t) (sym same) less

-- and where it isn't, those behind it aren't
pub upper_half : (xs : List ℕ) (at t : ℕ) → is_ascending xs ≡ true → t ≤ get_or xs at 0 → (k : ℕ) → at ≤ k → k < length xs → t ≤ get_or xs k 0
upper_half xs at t a more k l within = by (nat_lt at k) refl
  where
    by : (b : Bool) → nat_lt at k ≡ b → t ≤ get_or xs k 0
    by true behind =
        let h : at < k = ltb-true at k behind in
        let two = less_behind xs a at k h within in
        omega (arith, two)
    by false other =
        let same : at ≡ k = (let not_less : k ≤ at = ltb-false at k other in omega arith) in
        subst (λ n. t ≤ get_or xs n 0) same more

-- a number that isn't at its place in an ascending list isn't in it
pub not_in : (xs : List ℕ) (at t : ℕ) → ((k : ℕ) → k < at → get_or xs k 0 < t) → ((k : ℕ) → at ≤ k → k < length xs → t < get_or xs k 0) → has xs t ≡ false
not_in [] at t before after = refl
not_in (x ∷ xs) zero t before after = neither (x == t) (has xs t) (differs x t (λ e. (let l : t < x = after zero (omega arith) (omega arith) in omega arith))) (not_in xs zero t (λ k l. absurd (omega arith)) (λ k l within. after (suc k) (omega arith) (omega arith)))
not_in (x ∷ xs) (suc at) t before after = neither (x == t) (has xs t) (differs x t (λ e. (let l : x < t = before zero (omega arith) in omega arith))) (not_in xs at t (λ k l. before (suc k) (omega arith)) (λ k l within. after (suc k) (omega arith) (omega arith)))

strictly : (t g : ℕ) → t ≤ g → (g ≡ t → ⊥) → t < g
strictly t g l differ = omega arith

-- what is not less from a place on, and doesn't stand there, is greater from there on
pub greater_from : (xs : List ℕ) (at t : ℕ) → is_ascending xs ≡ true → ((k : ℕ) → at ≤ k → k < length xs → t ≤ get_or xs k 0) → (at < length xs → get_or xs at 0 ≢ t)
    → (k : ℕ) → at ≤ k → k < length xs → t < get_or xs k 0
greater_from xs at t a not_less other k l within = by (nat_lt at k) refl
  where
    here : at < length xs → t < get_or xs at 0
    here w = strictly t (get_or xs at 0) (not_less at (omega arith) w) (other w)

    by : (b : Bool) → nat_lt at k ≡ b → t < get_or xs k 0
    by true behind =
        let h : at < k = ltb-true at k behind in
        let first : t < get_or xs at 0 = here (omega arith) in
        let two = less_behind xs a at k h within in
        omega (arith, two)
    by false now =
        let same : at ≡ k = (let not_more : k ≤ at = ltb-false at k now in omega arith) in
        subst (λ n. t < get_or xs n 0) same (here (omega arith))

-- who is in the way of one need, with one more lock
pub one_lock : {N : Type 0} (meets : N → N → Bool) (locks : List (Lock N)) (need : Need N) (at t : ℕ) (lock : Lock N) → at < length locks → lock ≡ get_or locks at lock
    → (is_in_the_way meets (take at locks) (need ∷ []) t || ((lock.txn == t) && is_conflict meets lock.need need)) ≡ is_in_the_way meets (take (at + 1) locks) (need ∷ []) t
one_lock meets locks need at t lock l is =
    ap (λ b. is_in_the_way meets (take at locks) (need ∷ []) t || ((lock.txn == t) && b)) (sym (or_nothing (is_conflict meets lock.need need)))
    ∙ ap (λ b. is_in_the_way meets (take at locks) (need ∷ []) t || b) (ap (is_against meets (need ∷ []) t) is)
    ∙ sym (list_any_more (is_against meets (need ∷ []) t) locks at lock l)

-- who is in the way of more needs
spread : (b p q r s : Bool) → ((b && (p || q)) || (r || s)) ≡ (((b && p) || r) || ((b && q) || s))
spread true true q r s = refl
spread true false true true s = refl
spread true false true false s = refl
spread true false false r s = refl
spread false p q r s = refl

needs_both : {N : Type 0} (meets : N → N → Bool) (locks : List (Lock N)) (needs others : List (Need N)) (t : ℕ)
    → is_in_the_way meets locks (needs ++ others) t ≡ (is_in_the_way meets locks needs t || is_in_the_way meets locks others t)
needs_both meets [] needs others t = refl
needs_both meets (lock ∷ locks) needs others t =
    let c : Need _ → Bool = λ need. is_conflict meets lock.need need in
    (λ i. ((lock.txn == t) && list_any-append c needs others i) || needs_both meets locks needs others t i)
    ∙ spread (lock.txn == t) (list_any c needs) (list_any c others) (is_in_the_way meets locks needs t) (is_in_the_way meets locks others t)

shut_both : (d p q : Bool) → ((not d && p) || (not d && q)) ≡ (not d && (p || q))
shut_both true p q = refl
shut_both false p q = refl

pub one_need : {N : Type 0} (meets : N → N → Bool) (locks : List (Lock N)) (needs : List (Need N)) (at t asker : ℕ) (need : Need N) → at < length needs → need ≡ get_or needs at need
    → ((not (t == asker) && is_in_the_way meets locks (take at needs) t) || (not (t == asker) && is_in_the_way meets locks (need ∷ []) t))
    ≡ (not (t == asker) && is_in_the_way meets locks (take (at + 1) needs) t)
one_need meets locks needs at t asker need l is =
    shut_both (t == asker) (is_in_the_way meets locks (take at needs) t) (is_in_the_way meets locks (need ∷ []) t)
    ∙ ap (λ b. not (t == asker) && b)
    (sym (needs_both meets locks (take at needs) (need ∷ []) t)
    ∙ ap (λ v. is_in_the_way meets locks v t) (ap (λ v. take at needs ++ v ∷ []) is ∙ sym (take_more needs at need l)))

-- with no needs nobody is in the way
pub no_needs : {N : Type 0} (meets : N → N → Bool) (locks : List (Lock N)) (t : ℕ) → is_in_the_way meets locks [] t ≡ false
no_needs meets [] t = refl
no_needs meets (lock ∷ locks) t = neither ((lock.txn == t) && false) (is_in_the_way meets locks [] t) (and_none (lock.txn == t)) (no_needs meets locks t)
  where
    and_none : (b : Bool) → (b && false) ≡ false
    and_none true = refl
    and_none false = refl

pub shut_none : (d b : Bool) → b ≡ false → false ≡ (not d && b)
shut_none true b e = refl
shut_none false b e = sym e
