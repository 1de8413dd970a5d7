-- Routes that lead back to the asker are the cycles that would close, and the order of routes is that of telling.
use Rattle.std.proofs.Common.{◌≡◌, ◌<◌, ◌+◌, ℕ, suc, Bool, true, false, not, ◌&&◌, ◌||◌, ◌==◌, nat_lt, if◌then◌else◌, inl, inr, List, [], ◌∷◌, ◌++◌, length, reverse, refl, ap, sym, subst, ◌∙◌, arith}
use Rattle.std.specs.Ordering.{nat_cmp, is_le, ordering_then}
use Rattle.std.specs.declared.cmp.Ordering.{Ordering}
use Rattle.std.specs.declared.cmp.Ordering.TheVariants.{Less, Equal}
use Rattle.std.specs.Cmp.{nat_cmp_is}
use Rattle.std.specs.Cmp.Lexicographic.{slice_cmp}
use Rattle.std.proofs.lemmas.Bool.{and_parts, and_from, or_left, or_right, eq-eqb, eqb-true, lt-ltb, ltb-true, ltb_from_iff, true≢false}
use Rattle.std.proofs.lemmas.Bool.Decides.{Decides-eqb}
use Rattle.std.specs.Bool.{one_answer}
use Rattle.std.proofs.lemmas.List.{append_assoc, append-nil, reverse-append}
use Rattle.hr_base.specs.Lists.{has}
use Rattle.hr_locks.specs.Cycles.{is_chain, closes, is_told_before, IsToldCycle}
use Rattle.hr_locks.specs.Waits.{next_in}
use Rattle.hr_locks.proofs.Orders.{Lower, AtMost, at_most_trans}
use Rattle.hr_locks.proofs.Routes.{head_of, IsRoute}

-- the first list the other way round, before the second
abbrev pub turn : List ℕ → List ℕ → List ℕ
turn [] acc = acc
turn (x ∷ xs) acc = turn xs (x ∷ acc)

turn_reverse : (xs acc : List ℕ) → turn xs acc ≡ reverse xs ++ acc
turn_reverse [] acc = refl
turn_reverse (x ∷ xs) acc =
    turn_reverse xs (x ∷ acc) ∙ sym (append_assoc (reverse xs) (x ∷ []) acc) ∙ ap (λ v. v ++ acc) (sym (reverse-append (x ∷ []) xs))

pub turned : (xs : List ℕ) → reverse xs ≡ turn xs []
turned xs = sym (append-nil (reverse xs)) ∙ sym (turn_reverse xs [])

turn_turn : (xs ys zs : List ℕ) → turn (turn xs ys) zs ≡ turn ys (xs ++ zs)
turn_turn [] ys zs = refl
turn_turn (x ∷ xs) ys zs = turn_turn xs (x ∷ ys) zs

turn_length : (xs ys : List ℕ) → length (turn xs ys) ≡ length xs + length ys
turn_length [] ys = omega arith
turn_length (x ∷ xs) ys = let rest = turn_length xs (x ∷ ys) in omega (arith, rest)

-- ---- the order of telling

same_number : (x : ℕ) → nat_cmp x x ≡ Equal
same_number x = sym (nat_cmp_is x x Equal refl)

less_number : (x y : ℕ) → x < y → nat_cmp x y ≡ Less
less_number x y l = sym (nat_cmp_is x y Less l)

same_first : (x : ℕ) (a b : List ℕ) → slice_cmp nat_cmp (x ∷ a) (x ∷ b) ≡ slice_cmp nat_cmp a b
same_first x a b = ap (λ o. ordering_then o (slice_cmp nat_cmp a b)) (same_number x)

same_list : (a : List ℕ) → slice_cmp nat_cmp a a ≡ Equal
same_list [] = refl
same_list (x ∷ a) = same_first x a a ∙ same_list a

same_turned : (xs a b : List ℕ) → slice_cmp nat_cmp a b ≡ Less → slice_cmp nat_cmp (turn xs a) (turn xs b) ≡ Less
same_turned [] a b l = l
same_turned (x ∷ xs) a b l = same_turned xs (x ∷ a) (x ∷ b) (same_first x a b ∙ l)

lower_cmp : (p q a b : List ℕ) → Lower p q → slice_cmp nat_cmp (turn p a) (turn q b) ≡ Less
lower_cmp [] q a b l = absurd l
lower_cmp (x ∷ xs) [] a b l = absurd l
lower_cmp (x ∷ xs) (y ∷ ys) a b (inl l) = lower_cmp xs ys (x ∷ a) (y ∷ b) l
lower_cmp (x ∷ xs) (y ∷ ys) a b (inr l) =
    subst (λ v. slice_cmp nat_cmp (turn xs (x ∷ a)) (turn v (y ∷ b)) ≡ Less) l.0
    (same_turned xs (x ∷ a) (y ∷ b) (ap (λ o. ordering_then o (slice_cmp nat_cmp a b)) (less_number x y l.1)))

told_by : (a b : List ℕ) (o : Ordering) → length a ≡ length b → slice_cmp nat_cmp a b ≡ o → is_le o ≡ true → is_told_before a b ≡ true
told_by a b o e c le =
    or_right (nat_lt (length a) (length b)) _
    (and_from (length a == length b) (is_le (slice_cmp nat_cmp a b)) (eq-eqb (length a) (length b) e) (ap is_le c ∙ le))

turned_as_long : (p q : List ℕ) → length p ≡ length q → length (turn p []) ≡ length (turn q [])
turned_as_long p q e =
    let a = turn_length p [] in
    let b = turn_length q [] in
    omega (arith, a, b)

told : (p q : List ℕ) → AtMost p q → is_told_before (turn p []) (turn q []) ≡ true
told p q (inl e) = subst (λ v. is_told_before (turn p []) (turn v []) ≡ true) e (told_by (turn p []) (turn p []) Equal refl (same_list (turn p [])) refl)
told p q (inr (inl l)) =
    let a = turn_length p [] in
    let b = turn_length q [] in
    or_left (nat_lt (length (turn p [])) (length (turn q []))) _ (lt-ltb (length (turn p [])) (length (turn q [])) (omega (arith, a, b)))
told p q (inr (inr l)) = told_by (turn p []) (turn q []) Less (turned_as_long p q l.0) (lower_cmp p q [] [] l.1) refl

-- what both begin with doesn't count
or_and_same : (a b c d e f : Bool) → a ≡ d → b ≡ e → c ≡ f → (a || (b && c)) ≡ (d || (e && f))
or_and_same a b c d e f p q r = λ i. p i || (q i && r i)

less_suc : (a b : ℕ) → nat_lt (suc a) (suc b) ≡ nat_lt a b
less_suc a b = ltb_from_iff ((λ h. let l : suc a < suc b = ltb-true (suc a) (suc b) h in omega arith), (λ l. lt-ltb (suc a) (suc b) (omega arith)))

same_suc : (a b : ℕ) → (suc a == suc b) ≡ (a == b)
same_suc a b = one_answer (suc a == suc b) (a == b) (Decides-eqb (suc a) (suc b)) ((λ h. ap (λ n. suc n) ((Decides-eqb a b).0 h)), (λ e. (Decides-eqb a b).1 (omega arith)))

told_rest : (x : ℕ) (a b : List ℕ) → is_told_before (x ∷ a) (x ∷ b) ≡ true → is_told_before a b ≡ true
told_rest x a b h =
    sym (or_and_same (nat_lt (suc (length a)) (suc (length b))) (suc (length a) == suc (length b)) (is_le (slice_cmp nat_cmp (x ∷ a) (x ∷ b)))
    (nat_lt (length a) (length b)) (length a == length b) (is_le (slice_cmp nat_cmp a b)) (less_suc (length a) (length b)) (same_suc (length a) (length b)) (ap is_le (same_first x a b))) ∙ h

-- ---- routes and paths

module _ (waits : ℕ → List ℕ) (asker : ℕ) (holders : List ℕ) where
  abbrev pub next : ℕ → List ℕ
  next t = next_in waits asker holders t

  next_asker : (t : ℕ) → t ≡ asker → next t ≡ holders
  next_asker t e = ap (λ b. if b then holders else waits t) (eq-eqb t asker e)

  next_other : (t : ℕ) → (t == asker) ≡ false → next t ≡ waits t
  next_other t e = ap (λ b. if b then holders else waits t) e

  -- a route, read the other way round, is the asker with a path that closes
  pub record Path (cycle : List ℕ) : Type 0 where
    pub path : List ℕ
    pub is : cycle ≡ asker ∷ path
    pub closed : closes (has holders) waits asker path ≡ true

  path_of : (z y : ℕ) (ys suffix : List ℕ) → IsRoute next asker (z ∷ y ∷ ys) → is_chain waits (z ∷ suffix ++ asker ∷ []) ≡ true → Path (turn ys (y ∷ z ∷ suffix))
  path_of z y [] suffix route chain =
      record {
        path = z ∷ suffix;
        is = ap (λ v. v ∷ z ∷ suffix) route.2;
        closed = and_from (not (z == asker) && has holders z) (is_chain waits (z ∷ suffix ++ asker ∷ []))
            (and_from (not (z == asker)) (has holders z) (ap not route.0) (sym (ap (λ v. has v z) (next_asker y route.2)) ∙ route.1)) chain;
      }
  path_of z y (x ∷ xs) suffix route chain =
      path_of y x xs (z ∷ suffix) route.2
      (and_from (has (waits y) z) (is_chain waits (z ∷ suffix ++ asker ∷ [])) (sym (ap (λ v. has v z) (next_other y (route.2).0)) ∙ route.1) chain)

  pub route_closes : (p : List ℕ) → has holders asker ≡ false → IsRoute next asker p → has (next (head_of p)) asker ≡ true → Path (turn p [])
  route_closes [] apart route h = absurd route
  route_closes (x ∷ []) apart route h = absurd (true≢false (sym h ∙ ap (λ v. has v asker) (next_asker x route) ∙ apart))
  route_closes (z ∷ y ∷ ys) apart route h =
      path_of z y ys [] route (and_from (has (waits z) asker) true (sym (ap (λ v. has v asker) (next_other z route.0)) ∙ h) refl)

  -- a path that closes has a route that isn't after it
  pub record Route (q : List ℕ) : Type 0 where
    pub by : List ℕ
    pub route : IsRoute next asker by
    pub back : has (next (head_of by)) asker ≡ true
    pub at_most : AtMost by q

  route_of : (t : ℕ) (acc path : List ℕ) → (t == asker) ≡ false → IsRoute next asker (t ∷ acc) → is_chain waits (t ∷ path ++ asker ∷ []) ≡ true → Route (turn path (t ∷ acc))
  route_of t acc [] other route chain =
      record {
        by = t ∷ acc;
        route = route;
        back = ap (λ v. has v asker) (next_other t other) ∙ (and_parts (has (waits t) asker) true chain).0;
        at_most = inl refl;
      }
  route_of t acc (x ∷ xs) other route chain = by_case (λ e r k. route_of x (t ∷ acc) xs e r k) (x == asker) refl
    where
      parts : (has (waits t) x ≡ true) × (is_chain waits (x ∷ xs ++ asker ∷ []) ≡ true)
      parts = (let two = and_parts (has (waits t) x) (is_chain waits (x ∷ xs ++ asker ∷ [])) chain in (two.0, two.1))

      by_case : ((x == asker) ≡ false → IsRoute next asker (x ∷ t ∷ acc) → is_chain waits (x ∷ xs ++ asker ∷ []) ≡ true → Route (turn xs (x ∷ t ∷ acc)))
          → (b : Bool) → (x == asker) ≡ b → Route (turn xs (x ∷ t ∷ acc))
      by_case go true e =
          let long = turn_length xs (x ∷ t ∷ acc) in
          record {
            by = t ∷ acc;
            route = route;
            back = ap (λ v. has v asker) (next_other t other) ∙ subst (λ v. has (waits t) v ≡ true) (eqb-true x asker e) parts.0;
            at_most = inr (inl (omega (arith, long)));
          }
      by_case go false e =
          go e (e, ap (λ v. has v x) (next_other t other) ∙ parts.0, route) parts.1

  not_true : (b : Bool) → not b ≡ true → b ≡ false
  not_true true h = cc
  not_true false h = refl

  pub closes_route : (path : List ℕ) → closes (has holders) waits asker path ≡ true → Route (turn (asker ∷ path) [])
  closes_route [] h = absurd (true≢false (sym h))
  closes_route (t ∷ path) h =
      let parts = and_parts (not (t == asker) && has holders t) (is_chain waits (t ∷ path ++ asker ∷ [])) h in
      let first = and_parts (not (t == asker)) (has holders t) parts.0 in
      let other : (t == asker) ≡ false = not_true (t == asker) first.0 in
      route_of t (asker ∷ []) path other (other, ap (λ v. has v t) (next_asker asker refl) ∙ first.1, refl) parts.1

  -- the first route back to the asker gives the cycle that is told
  pub told_cycle : (p : List ℕ) → has holders asker ≡ false → IsRoute next asker p → has (next (head_of p)) asker ≡ true
      → ((q : List ℕ) → IsRoute next asker q → has (next (head_of q)) asker ≡ true → AtMost p q)
      → (path : List ℕ) × (reverse p ≡ asker ∷ path) × IsToldCycle (has holders) waits asker path
  told_cycle p apart route h least =
      let it = route_closes p apart route h in (
        it.path,
        turned p ∙ it.is,
        record {
          closed = it.closed;
          first = λ other c.
              let r = closes_route other c in
              let q = turn (asker ∷ other) [] in
              let back : turn q [] ≡ asker ∷ other = turn_turn (asker ∷ other) [] [] ∙ append-nil (asker ∷ other) in
              told_rest asker it.path other
              (subst (λ v. is_told_before v (asker ∷ other) ≡ true) it.is
              (subst (λ v. is_told_before (turn p []) v ≡ true) back
              (told p q (at_most_trans p r.by q (least r.by r.route r.back) r.at_most))));
        },
      )

  pub no_cycle : ((q : List ℕ) → IsRoute next asker q → has (next (head_of q)) asker ≡ true → ⊥) → (path : List ℕ) → closes (has holders) waits asker path ≡ false
  no_cycle none path = by_case (closes (has holders) waits asker path) refl
    where
      by_case : (b : Bool) → closes (has holders) waits asker path ≡ b → b ≡ false
      by_case true e = (let r = closes_route path e in absurd (none r.by r.route r.back))
      by_case false e = refl
