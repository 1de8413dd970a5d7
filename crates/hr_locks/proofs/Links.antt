-- The routes to those in a queue, and what one step of a search makes of them.
use Rattle.std.proofs.Common.{◌≡◌, ◌<◌, ◌+◌, ℕ, zero, suc, Bool, true, false, ◌||◌, ◌==◌, if◌then◌else◌, inl, inr, List, [], ◌∷◌, ◌++◌, Option, Some, None, IfSome, length, get_or, refl, ap, sym, subst, ◌∙◌, arith}
use Rattle.std.specs.List.{list_any}
use Rattle.std.proofs.lemmas.Bool.{or_cases, or_left, or_right, eq-eqb, eqb-true, true≢false}
use Rattle.std.proofs.lemmas.List.{append_assoc, length-append, get_or_append_left}
use Rattle.std.proofs.Math.Seq.{get_or-append_seam}
use Rattle.std.proofs.lemmas.List.Folds.{list_any-append}
use Rattle.hr_base.specs.Lists.{is_ascending}
use Rattle.hr_locks.specs.declared.search.Link.{Link}
use Rattle.hr_locks.specs.Searches.{reaches, led_on, rest_by, route_by, routes_on, routes, IsLinkedFrom, IsLinked}
use Rattle.hr_locks.proofs.Routes.{In, head_of, ascending_rest, State, at_first, Mid, mid_skip, mid_add}

pub one_more : (found : List (List ℕ)) (r : List ℕ) → length (found ++ r ∷ []) ≡ suc (length found)
one_more [] r = refl
one_more (p ∷ ps) r = ap (λ n. suc n) (one_more ps r)

-- routes stay as they were found
prefix : (found : List (List ℕ)) (links : List Link) (k : ℕ) → k < length found → get_or (routes_on found links) k [] ≡ get_or found k []
prefix found [] k l = refl
prefix found (link ∷ links) k l =
    let more = one_more found (route_by found link) in
    prefix (found ++ route_by found link ∷ []) links k (omega (arith, more)) ∙ get_or_append_left found (route_by found link ∷ []) [] k l

routes_push : (found : List (List ℕ)) (links : List Link) (new : Link) → routes_on found (links ++ new ∷ []) ≡ routes_on found links ++ route_by (routes_on found links) new ∷ []
routes_push found [] new = refl
routes_push found (link ∷ links) new = routes_push (found ++ route_by found link ∷ []) links new

pub routes_length : (found : List (List ℕ)) (links : List Link) → length (routes_on found links) ≡ length found + length links
routes_length found [] = omega arith
routes_length found (link ∷ links) =
    let more = one_more found (route_by found link) in
    let rest = routes_length (found ++ route_by found link ∷ []) links in
    omega (arith, more, rest)

-- the route to each is led on from the one that it was found by
rest_same : (found : List (List ℕ)) (links : List Link) (by : Option ℕ) → IfSome by (λ j. j < length found) → rest_by found by ≡ rest_by (routes_on found links) by
rest_same found links None within = refl
rest_same found links (Some j) within = sym (prefix found links j within)

route_from : (found : List (List ℕ)) (links : List Link) → IsLinkedFrom (length found) links → (i : ℕ) (d : Link) → i < length links
    → get_or (routes_on found links) (length found + i) [] ≡ route_by (routes_on found links) (get_or links i d)
route_from found [] linked i d l = absurd (omega arith)
route_from found (link ∷ links) linked zero d l =
    let r = route_by found link in
    let more = one_more found r in
    let first : length found + zero ≡ length found = omega arith in
    ap (λ n. get_or (routes_on (found ++ r ∷ []) links) n []) first
    ∙ prefix (found ++ r ∷ []) links (length found) (omega (arith, more))
    ∙ get_or-append_seam found r [] []
    ∙ ap (λ v. link.txn ∷ v) (rest_same found (link ∷ links) link.by linked.0)
route_from found (link ∷ links) linked (suc i) d l =
    let r = route_by found link in
    let more : length (found ++ r ∷ []) ≡ suc (length found) = one_more found r in
    let there : length found + suc i ≡ length (found ++ r ∷ []) + i = omega (arith, more) in
    ap (λ n. get_or (routes_on (found ++ r ∷ []) links) n []) there
    ∙ route_from (found ++ r ∷ []) links (subst (λ n. IsLinkedFrom n links) (sym more) linked.1) i d (omega arith)

pub route_at : (links : List Link) → IsLinked links → (i : ℕ) (d : Link) → i < length links → get_or (routes links) i [] ≡ route_by (routes links) (get_or links i d)
route_at links linked i d l =
    let there : i ≡ 0 + i = omega arith in
    ap (λ n. get_or (routes links) n []) there ∙ route_from [] links linked i d l

-- the one that one was found by stands before it
by_before : (n : ℕ) (links : List Link) → IsLinkedFrom n links → (i : ℕ) (d : Link) → i < length links → IfSome (get_or links i d).by (λ j. j < n + i)
by_before n [] linked i d l = absurd (omega arith)
by_before n (link ∷ links) linked zero d l = less link.by linked.0
  where
    less : (by : Option ℕ) → IfSome by (λ j. j < n) → IfSome by (λ j. j < n + zero)
    less None h = h
    less (Some j) h = omega arith
by_before n (link ∷ links) linked (suc i) d l = less (get_or links i d).by (by_before (suc n) links linked.1 i d (omega arith))
  where
    less : (by : Option ℕ) → IfSome by (λ j. j < suc n + i) → IfSome by (λ j. j < n + suc i)
    less None h = h
    less (Some j) h = omega arith

pub found_before : (links : List Link) → IsLinked links → (i : ℕ) (d : Link) → i < length links → IfSome (get_or links i d).by (λ j. j < i)
found_before links linked i d l = less (get_or links i d).by (by_before 0 links linked i d l)
  where
    less : (by : Option ℕ) → IfSome by (λ j. j < 0 + i) → IfSome by (λ j. j < i)
    less None h = h
    less (Some j) h = omega arith

linked_push : (n : ℕ) (links : List Link) (t at : ℕ) → IsLinkedFrom n links → at < n + length links → IsLinkedFrom n (links ++ record { txn = t; by = Some at } ∷ [])
linked_push n [] t at linked l = (omega arith, tt)
linked_push n (link ∷ links) t at linked l = (linked.0, linked_push (suc n) links t at linked.1 (omega arith))

-- ---- who was found

abbrev leads : ℕ → List ℕ → Bool
leads t q = head_of q == t

or_nest : (a c d : Bool) → ((a || (c || false)) || d) ≡ (a || (c || d))
or_nest true c d = refl
or_nest false true d = refl
or_nest false false d = refl

or_none : (a : Bool) → a ≡ (a || false)
or_none true = refl
or_none false = refl

routes_lead : (t : ℕ) (found : List (List ℕ)) (links : List Link) → list_any (leads t) (routes_on found links) ≡ (list_any (leads t) found || reaches links t)
routes_lead t found [] = or_none (list_any (leads t) found)
routes_lead t found (link ∷ links) =
    let r = route_by found link in
    routes_lead t (found ++ r ∷ []) links
    ∙ ap (λ b. b || reaches links t) (list_any-append (leads t) found (r ∷ []))
    ∙ or_nest (list_any (leads t) found) (link.txn == t) (reaches links t)

any_in : (t : ℕ) (ps : List (List ℕ)) → list_any (leads t) ps ≡ true → (q : List ℕ) × In q ps × (head_of q ≡ t)
any_in t [] h = absurd (true≢false (sym h))
any_in t (p ∷ ps) h =
    elim (or_cases (head_of p == t) (list_any (leads t) ps) h) [
      | inl e ↦ (p, inl refl, eqb-true (head_of p) t e)
      | inr i ↦ (let r = any_in t ps i in (r.0, inr r.1, r.2))
    ]

in_any : (t : ℕ) (ps : List (List ℕ)) (q : List ℕ) → In q ps → head_of q ≡ t → list_any (leads t) ps ≡ true
in_any t [] q i e = absurd i
in_any t (p ∷ ps) q (inl same) e = or_left (head_of p == t) (list_any (leads t) ps) (eq-eqb (head_of p) t (ap head_of (sym same) ∙ e))
in_any t (p ∷ ps) q (inr i) e = or_right (head_of p == t) (list_any (leads t) ps) (in_any t ps q i e)

pub found_route : (links : List Link) (t : ℕ) → reaches links t ≡ true → (q : List ℕ) × In q (routes links) × (head_of q ≡ t)
found_route links t h = any_in t (routes links) (routes_lead t [] links ∙ h)

pub not_found : (links : List Link) (t : ℕ) → reaches links t ≡ false → (q : List ℕ) → In q (routes links) → head_of q ≡ t → ⊥
not_found links t h q i e = true≢false (sym (in_any t (routes links) q i e) ∙ routes_lead t [] links ∙ h)

-- ---- a step

-- what a search knows: those before `at` were led on
pub record Searched (next : ℕ → List ℕ) (asker : ℕ) (links : List Link) (at : ℕ) : Type 0 where
  pub done : List (List ℕ)
  pub todo : List (List ℕ)
  pub place : length done ≡ at
  pub state : State next asker (routes links) done todo
  pub linked : IsLinked links

pub searched_first : (next : ℕ → List ℕ) (asker : ℕ) → Searched next asker (record { txn = asker; by = None } ∷ []) 0
searched_first next asker = record {
  done = [];
  todo = (asker ∷ []) ∷ [];
  place = refl;
  state = at_first next asker;
  linked = (tt, tt);
}

module _ (next : ℕ → List ℕ) (asker : ℕ) (done : List (List ℕ)) (p : List ℕ) (at : ℕ) where
  pub record Led (links : List Link) : Type 0 where
    pub todo : List (List ℕ)
    pub mid : Mid next asker (routes links) done p todo []
    pub linked : IsLinked links

  -- one more of the wait, where `go` goes on with the others
  lead_by : (links : List Link) (todo : List (List ℕ)) (t : ℕ) (ns : List ℕ) → Mid next asker (routes links) done p todo (t ∷ ns) → IsLinked links → at < length links
      → get_or (routes links) at [] ≡ p → is_ascending (t ∷ ns) ≡ true
      → ((more : List Link) (others : List (List ℕ)) → Mid next asker (routes more) done p others ns → IsLinked more → at < length more → get_or (routes more) at [] ≡ p → Led (led_on at ns more))
      → (b : Bool) → reaches links t ≡ b → Led (led_on at ns (if b then links else links ++ record { txn = t; by = Some at } ∷ []))
  lead_by links todo t ns m linked l here asc go true e =
      let q = found_route links t e in
      go links todo (mid_skip next asker (routes links) done p todo t ns m q.0 q.1 q.2) linked l here
  lead_by links todo t ns m linked l here asc go false e =
      let new : Link = record { txn = t; by = Some at } in
      let pushed : routes (links ++ new ∷ []) ≡ routes links ++ (t ∷ p) ∷ [] =
      routes_push [] links new ∙ ap (λ v. routes links ++ (t ∷ v) ∷ []) here in
      let len = routes_length [] links in
      let more = length-append links (new ∷ []) in
      go (links ++ new ∷ []) (todo ++ (t ∷ p) ∷ [])
      (subst (λ v. Mid next asker v done p (todo ++ (t ∷ p) ∷ []) ns) (sym pushed)
      (mid_add next asker (routes links) done p todo t ns m asc (not_found links t e)))
      (linked_push 0 links t at linked (omega arith))
      (omega (arith, more))
      (ap (λ v. get_or v at []) pushed ∙ get_or_append_left (routes links) ((t ∷ p) ∷ []) [] at (omega (arith, len)) ∙ here)

  pub lead : (links : List Link) (todo : List (List ℕ)) (ns : List ℕ) → Mid next asker (routes links) done p todo ns → IsLinked links → at < length links
      → get_or (routes links) at [] ≡ p → is_ascending ns ≡ true → Led (led_on at ns links)
  lead links todo [] m linked l here asc = record { todo = todo; mid = m; linked = linked }
  lead links todo (t ∷ ns) m linked l here asc =
      lead_by links todo t ns m linked l here asc (λ more others n k w h. lead more others ns n k w h (ascending_rest t ns asc)) (reaches links t) refl

-- ---- the way back

-- how far it is to the asker at most
abbrev pub left : Option ℕ → ℕ
left None = 0
left (Some here) = here + 1

less_left : (by : Option ℕ) (here : ℕ) → IfSome by (λ j. j < here) → left by < here + 1
less_left None here h = omega arith
less_left (Some j) here h = omega arith

still_within : (by : Option ℕ) (here n : ℕ) → IfSome by (λ j. j < here) → here < n → IfSome by (λ j. j < n)
still_within None here n h l = h
still_within (Some j) here n h l = omega arith

-- the way so far, with one more, and what is left of the route
module _ (links : List Link) (linked : IsLinked links) (here : ℕ) (link : Link) (within : here < length links) (is : link ≡ get_or links here link) where
  found_by : IfSome link.by (λ j. j < here)
  found_by = subst (λ v. IfSome v (λ j. j < here)) (ap (λ (v : Link). v.by) (sym is)) (found_before links linked here link within)

  pub way_less : left link.by < here + 1
  way_less = less_left link.by here found_by

  pub way_within : IfSome link.by (λ j. j < length links)
  way_within = still_within link.by here (length links) found_by within

  pub way_on : (way whole : List ℕ) → way ++ get_or (routes links) here [] ≡ whole → (way ++ link.txn ∷ []) ++ rest_by (routes links) link.by ≡ whole
  way_on way whole h =
      append_assoc way (link.txn ∷ []) (rest_by (routes links) link.by)
      ∙ ap (λ v. way ++ v) (ap (route_by (routes links)) is ∙ sym (route_at links linked here link within))
      ∙ h
