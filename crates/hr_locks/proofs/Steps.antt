-- One step of a search: the one at a place of the queue is led on.
use Rattle.std.proofs.Common.{◌≡◌, ◌<◌, ◌≤◌, ◌+◌, ◌-◌, ℕ, zero, suc, Bool, true, false, ◌==◌, if◌then◌else◌, inl, inr, List, [], ◌∷◌, ◌++◌, Option, Some, length, get_or, take, map, refl, ap, sym, subst, ◌∙◌, arith}
use Rattle.std.proofs.lemmas.Bool.{or_cases, eqb-true, true≢false}
use Rattle.std.proofs.lemmas.List.{length-append, get_or_append_left, take-append-le, take_more, map-append}
use Rattle.std.proofs.Math.Seq.{get_or-append_seam}
use Rattle.hr_base.specs.Lists.{has, is_ascending}
use Rattle.hr_locks.specs.declared.search.Link.{Link}
use Rattle.hr_locks.specs.declared.wait.Wait.{Wait}
use Rattle.hr_locks.specs.Waits.{wait_seen, next_in}
use Rattle.hr_locks.specs.Searches.{reaches, led_on, routes}
use Rattle.hr_locks.proofs.Orders.{AtMost}
use Rattle.hr_locks.proofs.Routes.{In, in_right, head_of, IsRoute, State, Mid, mid_start, mid_finish, closest, none_closes, Sorted, sorted_between}
use Rattle.hr_locks.proofs.Links.{one_more, routes_length, route_at, Searched, lead}
use Rattle.hr_locks.proofs.Unread.{unread, unread_taken}

-- the queue grows by no more than the wait that is read
led_length : (at : ℕ) (ns : List ℕ) (links : List Link) → length (led_on at ns links) ≤ length links + length ns
led_length at [] links = omega arith
led_length at (t ∷ ns) links = by (λ more. led_length at ns more) (reaches links t)
  where
    by : ((more : List Link) → length (led_on at ns more) ≤ length more + length ns)
        → (b : Bool) → length (led_on at ns (if b then links else links ++ record { txn = t; by = Some at } ∷ [])) ≤ length links + suc (length ns)
    by go true = let rest = go links in omega (arith, rest)
    by go false =
        let new : Link = record { txn = t; by = Some at } in
        let rest = go (links ++ new ∷ []) in
        let more = length-append links (new ∷ []) in
        omega (arith, rest, more)

-- and keeps what it has
led_take : (at : ℕ) (ns : List ℕ) (links : List Link) (n : ℕ) → n ≤ length links → take n (led_on at ns links) ≡ take n links
led_take at [] links n l = refl
led_take at (t ∷ ns) links n l = by (λ more k. led_take at ns more n k) (reaches links t)
  where
    by : ((more : List Link) → n ≤ length more → take n (led_on at ns more) ≡ take n more)
        → (b : Bool) → take n (led_on at ns (if b then links else links ++ record { txn = t; by = Some at } ∷ [])) ≡ take n links
    by go true = go links l
    by go false =
        let new : Link = record { txn = t; by = Some at } in
        let more = length-append links (new ∷ []) in
        go (links ++ new ∷ []) (omega (arith, more)) ∙ take-append-le n links (new ∷ []) l

abbrev pub txn_of : Link → ℕ
txn_of link = link.txn

-- those that were led on, with one more
read_more : (at : ℕ) (ns : List ℕ) (links : List Link) (d : Link) → at < length links
    → map txn_of (take (at + 1) (led_on at ns links)) ≡ map txn_of (take at links) ++ (get_or links at d).txn ∷ []
read_more at ns links d l =
    ap (map txn_of) (led_take at ns links (at + 1) (omega arith) ∙ take_more links at d l)
    ∙ map-append txn_of (take at links) (get_or links at d ∷ [])

-- where one that was led on stands
read_at : (links : List Link) (at t : ℕ) → has (map txn_of (take at links)) t ≡ true → (i : ℕ) × (i < at) × (i < length links) × ((d : Link) → (get_or links i d).txn ≡ t)
read_at [] zero t h = absurd (true≢false (sym h))
read_at [] (suc at) t h = absurd (true≢false (sym h))
read_at (link ∷ links) zero t h = absurd (true≢false (sym h))
read_at (link ∷ links) (suc at) t h =
    elim (or_cases (link.txn == t) (has (map txn_of (take at links)) t) h) [
      | inl e ↦ (zero, omega arith, omega arith, (λ d. eqb-true link.txn t e))
      | inr r ↦ (let rest = read_at links at t r in (suc rest.0, (let l = rest.1 in omega arith), (let l = rest.2 in omega arith), (λ d. rest.3 d)))
    ]

get_in : (ps : List (List ℕ)) (i : ℕ) → i < length ps → In (get_or ps i []) ps
get_in [] i l = absurd (omega arith)
get_in (p ∷ ps) zero l = inl refl
get_in (p ∷ ps) (suc i) l = inr (get_in ps i (omega arith))

module _ (next : ℕ → List ℕ) (asker : ℕ) (links : List Link) (at : ℕ) (s : Searched next asker links at) (within : at < length links) where
  abbrev route_here : List ℕ
  route_here = get_or (routes links) at []

  here : (rest : List (List ℕ)) × State next asker (routes links) s.done (route_here ∷ rest)
  here = by s.todo s.state
    where
      by : (todo : List (List ℕ)) → State next asker (routes links) s.done todo → (rest : List (List ℕ)) × State next asker (routes links) s.done (route_here ∷ rest)
      by [] st =
          let len = routes_length [] links in
          let same : length (routes links) ≡ length (s.done ++ []) = ap length st.parts in
          let done = length-append s.done [] in
          let place = s.place in
          absurd (omega (arith, len, same, done, place))
      by (p ∷ rest) st =
          let same : route_here ≡ p =
          ap (λ v. get_or v at []) st.parts ∙ ap (λ n. get_or (s.done ++ p ∷ rest) n []) (sym s.place) ∙ get_or-append_seam s.done p rest [] in
          (rest, subst (λ v. State next asker (routes links) s.done (v ∷ rest)) (sym same) st)

  pub next_step : (names : List ℕ) → names ≡ next (head_of route_here) → is_ascending names ≡ true → has names asker ≡ false → Searched next asker (led_on at names links) (at + 1)
  next_step names e asc shut =
      let h = here in
      let start : Mid next asker (routes links) s.done route_here h.0 names =
      subst (λ v. Mid next asker (routes links) s.done route_here h.0 v) (sym e) (mid_start next asker (routes links) s.done route_here h.0 h.1) in
      let led = lead next asker s.done route_here at links h.0 names start s.linked within refl asc in
      let one = one_more s.done route_here in
      let place = s.place in
      record {
        done = s.done ++ route_here ∷ [];
        todo = led.todo;
        place = omega (arith, one, place);
        state = mid_finish next asker (routes (led_on at names links)) s.done route_here led.todo led.mid (ap (λ v. has v asker) (sym e) ∙ shut);
        linked = led.linked;
      }

  pub here_is_route : IsRoute next asker route_here
  here_is_route =
      let h = here in
      h.1.sound route_here (subst (λ v. In route_here v) (sym h.1.parts) (in_right route_here s.done (route_here ∷ h.0) (inl refl)))

  pub here_is_closest : has (next (head_of route_here)) asker ≡ true → (q : List ℕ) → IsRoute next asker q → has (next (head_of q)) asker ≡ true → AtMost route_here q
  here_is_closest closing q route back = let h = here in closest next asker (routes links) s.done route_here h.0 h.1 q route back

  pub head_here : (d : Link) → head_of route_here ≡ (get_or links at d).txn
  head_here d = ap head_of (route_at links s.linked at d within)

  -- it wasn't led on before
  pub not_read : (d : Link) → has (map txn_of (take at links)) (get_or links at d).txn ≡ false
  not_read d = by (has (map txn_of (take at links)) (get_or links at d).txn) refl
    where
      by : (b : Bool) → has (map txn_of (take at links)) (get_or links at d).txn ≡ b → b ≡ false
      by false e = refl
      by true e =
          let r = read_at links at (get_or links at d).txn e in
          let h = here in
          let before = r.1 in
          let place = s.place in
          let short : r.0 < length s.done = omega (arith, before, place) in
          let same : get_or (routes links) r.0 [] ≡ get_or s.done r.0 [] =
          ap (λ v. get_or v r.0 []) h.1.parts ∙ get_or_append_left s.done (route_here ∷ h.0) [] r.0 short in
          let old : In (get_or (routes links) r.0 []) s.done = subst (λ v. In v s.done) (sym same) (get_in s.done r.0 short) in
          let apart = sorted_between s.done (route_here ∷ h.0) (subst (λ v. Sorted v) h.1.parts h.1.sorted) (get_or (routes links) r.0 []) route_here old (inl refl) in
          absurd (apart.1 (ap head_of (route_at links s.linked r.0 d r.2) ∙ r.3 d ∙ sym (head_here d)))

-- all were led on
pub none_back : (next : ℕ → List ℕ) (asker : ℕ) (links : List Link) (at : ℕ) → Searched next asker links at → length links ≤ at → (q : List ℕ) → IsRoute next asker q → has (next (head_of q)) asker ≡ true → ⊥
none_back next asker links at s past q route back = by s.todo s.state
  where
    by : (todo : List (List ℕ)) → State next asker (routes links) s.done todo → ⊥
    by [] st = none_closes next asker (routes links) s.done st q route back
    by (p ∷ rest) st =
        let len = routes_length [] links in
        let same : length (routes links) ≡ length (s.done ++ p ∷ rest) = ap length st.parts in
        let done = length-append s.done (p ∷ rest) in
        let place = s.place in
        absurd (omega (arith, len, same, done, place))

-- less is left to read, or to lead on
pub less_left : (granted : Option ℕ) (asker : ℕ) (holders : List ℕ) (waits : List Wait) (links : List Link) (at : ℕ) (d : Link)
    → Searched (next_in (wait_seen granted waits) asker holders) asker links at → at < length links
    → (names : List ℕ) → names ≡ next_in (wait_seen granted waits) asker holders (get_or links at d).txn
    → unread asker holders waits (map txn_of (take (at + 1) (led_on at names links))) + (length (led_on at names links) - (at + 1))
    < unread asker holders waits (map txn_of (take at links)) + (length links - at)
less_left granted asker holders waits links at d s within names e =
    let next = next_in (wait_seen granted waits) asker holders in
    let read = map txn_of (take at links) in
    let t = (get_or links at d).txn in
    let more : unread asker holders waits (map txn_of (take (at + 1) (led_on at names links))) ≡ unread asker holders waits (read ++ t ∷ []) =
    ap (unread asker holders waits) (read_more at names links d within) in
    let taken = unread_taken granted asker holders waits read t (not_read next asker links at s within d) in
    let as_long : length names ≡ length (next t) = ap length e in
    let grown = led_length at names links in
    omega (arith, more, taken, as_long, grown)
