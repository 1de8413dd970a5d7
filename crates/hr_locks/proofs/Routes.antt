-- What a search in layers has found. It begins at the asker, who would wait for those in its way. A route is a way of waits
-- from the asker, kept with its last member first.
use Rattle.std.proofs.Common.{◌≡◌, ℕ, Bool, true, false, ◌<◌, ◌==◌, ◌⊎◌, inl, inr, List, [], ◌∷◌, ◌++◌, refl, ap, sym, subst, ◌∙◌, arith}
use Rattle.std.proofs.lemmas.Bool.{and_parts, or_cases, eqb-true, ltb-true, true≢false}
use Rattle.std.proofs.lemmas.List.{append_assoc}
use Rattle.hr_base.specs.Lists.{has, is_ascending}
use Rattle.hr_base.proofs.ListLaws.{has_head, has_tail}
use Rattle.hr_locks.proofs.Orders.{Before, AtMost, before_trans, at_most_trans, led_on, led_on_same, beside, longer}

abbrev pub In : List ℕ → List (List ℕ) → Type 0
In q [] = ⊥
In q (p ∷ ps) = (q ≡ p) ⊎ In q ps

pub in_left : (q : List ℕ) (ps rs : List (List ℕ)) → In q ps → In q (ps ++ rs)
in_left q [] rs h = absurd h
in_left q (p ∷ ps) rs (inl e) = inl e
in_left q (p ∷ ps) rs (inr h) = inr (in_left q ps rs h)

pub in_right : (q : List ℕ) (ps rs : List (List ℕ)) → In q rs → In q (ps ++ rs)
in_right q [] rs h = h
in_right q (p ∷ ps) rs h = inr (in_right q ps rs h)

pub in_split : (q : List ℕ) (ps rs : List (List ℕ)) → In q (ps ++ rs) → In q ps ⊎ In q rs
in_split q [] rs h = inr h
in_split q (p ∷ ps) rs (inl e) = inl (inl e)
in_split q (p ∷ ps) rs (inr h) = elim (in_split q ps rs h) [ inl a ↦ inl (inr a) | inr b ↦ inr b ]

-- a list with one more
pub in_push : (q : List ℕ) (ps : List (List ℕ)) (n : List ℕ) → In q (ps ++ n ∷ []) → In q ps ⊎ (q ≡ n)
in_push q [] n (inl e) = inr e
in_push q [] n (inr h) = absurd h
in_push q (p ∷ ps) n (inl e) = inl (inl e)
in_push q (p ∷ ps) n (inr h) = elim (in_push q ps n h) [ inl a ↦ inl (inr a) | inr e ↦ inr e ]

-- whom a route leads to
abbrev pub head_of : List ℕ → ℕ
head_of [] = 0
head_of (x ∷ xs) = x

-- the first is found before the second, and leads to another
abbrev pub Apart : List ℕ → List ℕ → Type 0
Apart p q = Before p q × (head_of p ≡ head_of q → ⊥)

abbrev pub Sorted : List (List ℕ) → Type 0
Sorted [] = Unit {0}
Sorted (p ∷ ps) = ((q : List ℕ) → In q ps → Apart p q) × Sorted ps

sorted_push : (ps : List (List ℕ)) (n : List ℕ) → Sorted ps → ((q : List ℕ) → In q ps → Apart q n) → Sorted (ps ++ n ∷ [])
sorted_push [] n s a = ((λ q h. absurd h), tt)
sorted_push (p ∷ ps) n s a = (
  (λ q h. elim (in_push q ps n h) [ inl i ↦ s.0 q i | inr e ↦ subst (λ v. Apart p v) (sym e) (a p (inl refl)) ]),
  sorted_push ps n s.1 (λ q h. a q (inr h)),
)

sorted_rest : (ps rs : List (List ℕ)) → Sorted (ps ++ rs) → Sorted rs
sorted_rest [] rs s = s
sorted_rest (p ∷ ps) rs s = sorted_rest ps rs s.1

first_least : (p : List ℕ) (rest : List (List ℕ)) (q : List ℕ) → Sorted (p ∷ rest) → In q (p ∷ rest) → AtMost p q
first_least p rest q s (inl e) = inl (sym e)
first_least p rest q s (inr h) = inr (s.0 q h).0

pub sorted_between : (ps rs : List (List ℕ)) → Sorted (ps ++ rs) → (q r : List ℕ) → In q ps → In r rs → Apart q r
sorted_between [] rs s q r h k = absurd h
sorted_between (p ∷ ps) rs s q r (inl e) k = subst (λ v. Apart v r) (sym e) (s.0 r (in_right r ps rs k))
sorted_between (p ∷ ps) rs s q r (inr h) k = sorted_between ps rs s.1 q r h k

-- a route to z was found that isn't after r
abbrev pub Found : List (List ℕ) → ℕ → List ℕ → Type 0
Found found z r = (q : List ℕ) × In q found × (head_of q ≡ z) × AtMost q r

found_more : (found : List (List ℕ)) (n : List ℕ) (z : ℕ) (r : List ℕ) → Found found z r → Found (found ++ n ∷ []) z r
found_more found n z r f = (f.0, in_left f.0 found (n ∷ []) f.1, f.2, f.3)

-- the first of an ascending list is the least
pub above_first : (z : ℕ) (ns : List ℕ) → is_ascending (z ∷ ns) ≡ true → (u : ℕ) → has ns u ≡ true → z < u
above_first z [] asc u h = absurd (true≢false (sym h))
above_first z (n ∷ ns) asc u h =
    let parts = and_parts _ (is_ascending (n ∷ ns)) asc in
    let here : z < n = ltb-true z n parts.0 in
    elim (or_cases (n == u) (has ns u) h) [
      | inl same ↦ subst (λ v. z < v) (eqb-true n u same) here
      | inr later ↦ (let there : n < u = above_first n ns parts.1 u later in omega arith)
    ]

pub ascending_rest : (z : ℕ) (ns : List ℕ) → is_ascending (z ∷ ns) ≡ true → is_ascending ns ≡ true
ascending_rest z [] asc = refl
ascending_rest z (n ∷ ns) asc = (and_parts _ (is_ascending (n ∷ ns)) asc).1

-- `next t`: whom t waits for, and the asker would wait for
module _ (next : ℕ → List ℕ) (asker : ℕ) where
  abbrev pub IsRoute : List ℕ → Type 0
  IsRoute [] = ⊥
  IsRoute (x ∷ []) = x ≡ asker
  IsRoute (z ∷ y ∷ ys) = ((z == asker) ≡ false) × (has (next y) z ≡ true) × IsRoute (y ∷ ys)

  other : (z : ℕ) → (asker ≡ z → ⊥) → (z == asker) ≡ false
  other z differ = by (z == asker) refl
    where
      by : (b : Bool) → (z == asker) ≡ b → b ≡ false
      by true e = absurd (differ (sym (eqb-true z asker e)))
      by false e = refl

  route_on : (p : List ℕ) (z : ℕ) → (asker ≡ z → ⊥) → IsRoute p → has (next (head_of p)) z ≡ true → IsRoute (z ∷ p)
  route_on [] z differ r h = absurd r
  route_on (y ∷ ys) z differ r h = (other z differ, h, r)

  -- Between two steps: `found` are the routes so far, in order, `done` those that were led on, and `todo` the others.
  pub record State (found done todo : List (List ℕ)) : Type 0 where
    pub parts : found ≡ done ++ todo
    pub sound : (q : List ℕ) → In q found → IsRoute q
    pub root : In (asker ∷ []) found
    pub sorted : Sorted found
    pub complete : (q : List ℕ) → In q done → (z : ℕ) → has (next (head_of q)) z ≡ true → Found found z (z ∷ q)
    pub missed : (q : List ℕ) → In q done → has (next (head_of q)) asker ≡ false
    pub ahead : (q : List ℕ) → In q found → (r : List ℕ) → In r todo → (z : ℕ) → Before q (z ∷ r)

  one_root : (q r : List ℕ) (z : ℕ) → q ≡ asker ∷ [] → r ≡ asker ∷ [] → Before q (z ∷ r)
  one_root q r z e f = subst (λ v. Before q (z ∷ v)) (sym f) (subst (λ v. Before v (z ∷ asker ∷ [])) (sym e) (longer (asker ∷ []) z))

  root_of : (q : List ℕ) → In q ((asker ∷ []) ∷ []) → q ≡ asker ∷ []
  root_of q (inl e) = e
  root_of q (inr h) = absurd h

  pub at_first : State ((asker ∷ []) ∷ []) [] ((asker ∷ []) ∷ [])
  at_first = record {
    parts = refl;
    sound = λ q h. subst IsRoute (sym (root_of q h)) refl;
    root = inl refl;
    sorted = ((λ q h. absurd h), tt);
    complete = λ q h z k. absurd h;
    missed = λ q h. absurd h;
    ahead = λ q h r k z. one_root q r z (root_of q h) (root_of r k);
  }

  module _ (found done todo : List (List ℕ)) (s : State found done todo) where
    -- each route was found, or an earlier one to the same, or there is still one to lead on that isn't after it
    abbrev Reached : List ℕ → Type 0
    Reached q = Found found (head_of q) q ⊎ ((r : List ℕ) × In r todo × AtMost r q)

    later : (z : ℕ) (q : List ℕ) → (r : List ℕ) → In r todo → AtMost r q → Reached (z ∷ q)
    later z q r i a = inr (r, i, at_most_trans r q (z ∷ q) a (inr (longer q z)))

    on_from : (z : ℕ) (q : List ℕ) (f : Found found (head_of q) q) → has (next (head_of q)) z ≡ true → In f.0 done ⊎ In f.0 todo → Reached (z ∷ q)
    on_from z q f h (inl d) =
        let g : Found found z (z ∷ f.0) = s.complete f.0 d z (subst (λ v. has (next v) z ≡ true) (sym f.2) h) in
        inl (g.0, g.1, g.2, at_most_trans g.0 (z ∷ f.0) (z ∷ q) g.3 (led_on_same f.0 q z f.3))
    on_from z q f h (inr t) = later z q f.0 t f.3

    reach : (q : List ℕ) → IsRoute q → Reached q
    reach [] route = absurd route
    reach (x ∷ []) route = inl (asker ∷ [], s.root, sym route, inl (ap (λ v. v ∷ []) (sym route)))
    reach (z ∷ y ∷ ys) route =
        elim (reach (y ∷ ys) route.2) [
          | inl f ↦ on_from z (y ∷ ys) f route.1 (in_split f.0 done todo (subst (λ v. In f.0 v) s.parts f.1))
          | inr r ↦ later z (y ∷ ys) r.0 r.1 r.2
        ]

    -- where the route leads to one that waits for the asker, there is one to lead on that isn't after it
    closing_from : (q : List ℕ) (f : Found found (head_of q) q) → has (next (head_of q)) asker ≡ true → In f.0 done ⊎ In f.0 todo → (r : List ℕ) × In r todo × AtMost r q
    closing_from q f h (inl d) = absurd (true≢false (sym h ∙ ap (λ v. has (next v) asker) (sym f.2) ∙ s.missed f.0 d))
    closing_from q f h (inr t) = (f.0, t, f.3)

    pub closing_todo : (q : List ℕ) → IsRoute q → has (next (head_of q)) asker ≡ true → (r : List ℕ) × In r todo × AtMost r q
    closing_todo q route h =
        elim (reach q route) [
          | inl f ↦ closing_from q f h (in_split f.0 done todo (subst (λ v. In f.0 v) s.parts f.1))
          | inr r ↦ r
        ]

  -- all were led on: no cycle closes
  pub none_closes : (found done : List (List ℕ)) → State found done [] → (q : List ℕ) → IsRoute q → has (next (head_of q)) asker ≡ true → ⊥
  none_closes found done s q route h = (closing_todo found done [] s q route h).1

  -- the next that is to be led on isn't after any route that closes a cycle
  pub closest : (found done : List (List ℕ)) (p : List ℕ) (rest : List (List ℕ)) → State found done (p ∷ rest) → (q : List ℕ) → IsRoute q → has (next (head_of q)) asker ≡ true → AtMost p q
  closest found done p rest s q route h =
      let r = closing_todo found done (p ∷ rest) s q route h in
      at_most_trans p r.0 q (first_least p rest r.0 (sorted_rest done (p ∷ rest) (subst Sorted s.parts s.sorted)) r.1) r.2

  -- Within a step: p is led on, and `left` are those of its wait that weren't looked at.
  pub record Mid (found done : List (List ℕ)) (p : List ℕ) (todo : List (List ℕ)) (left : List ℕ) : Type 0 where
    pub parts : found ≡ done ++ p ∷ todo
    pub sound : (q : List ℕ) → In q found → IsRoute q
    pub root : In (asker ∷ []) found
    pub sorted : Sorted found
    pub complete : (q : List ℕ) → In q done → (z : ℕ) → has (next (head_of q)) z ≡ true → Found found z (z ∷ q)
    pub missed : (q : List ℕ) → In q done → has (next (head_of q)) asker ≡ false
    pub ahead : (q : List ℕ) → In q found → (r : List ℕ) → In r todo → (z : ℕ) → Before q (z ∷ r)
    pub ahead_here : (q : List ℕ) → In q found → (z : ℕ) → has left z ≡ true → Before q (z ∷ p)
    pub within : (z : ℕ) → has left z ≡ true → has (next (head_of p)) z ≡ true
    pub so_far : (z : ℕ) → has (next (head_of p)) z ≡ true → Found found z (z ∷ p) ⊎ (has left z ≡ true)

  pub mid_start : (found done : List (List ℕ)) (p : List ℕ) (todo : List (List ℕ)) → State found done (p ∷ todo) → Mid found done p todo (next (head_of p))
  mid_start found done p todo s = record {
    parts = s.parts;
    sound = s.sound;
    root = s.root;
    sorted = s.sorted;
    complete = s.complete;
    missed = s.missed;
    ahead = λ q h r k z. s.ahead q h r (inr k) z;
    ahead_here = λ q h z k. s.ahead q h p (inl refl) z;
    within = λ z h. h;
    so_far = λ z h. inr h;
  }

  module _ (found done : List (List ℕ)) (p : List ℕ) (todo : List (List ℕ)) (z : ℕ) (ns : List ℕ) (m : Mid found done p todo (z ∷ ns)) where
    -- one that was found already
    pub mid_skip : (q : List ℕ) → In q found → head_of q ≡ z → Mid found done p todo ns
    mid_skip q i e = record {
      parts = m.parts;
      sound = m.sound;
      root = m.root;
      sorted = m.sorted;
      complete = m.complete;
      missed = m.missed;
      ahead = m.ahead;
      ahead_here = λ r h u k. m.ahead_here r h u (has_tail u z ns k);
      within = λ u k. m.within u (has_tail u z ns k);
      so_far = λ u h. elim (m.so_far u h) [ inl f ↦ inl f | inr k ↦ by u k (or_cases (z == u) (has ns u) k) ];
    }
      where
        by : (u : ℕ) → has (z ∷ ns) u ≡ true → ((z == u) ≡ true) ⊎ (has ns u ≡ true) → Found found u (u ∷ p) ⊎ (has ns u ≡ true)
        by u k (inl same) = inl (q, i, e ∙ eqb-true z u same, inr (m.ahead_here q i u k))
        by u k (inr rest) = inr rest

    here : In p found
    here = subst (λ v. In p v) (sym m.parts) (in_right p done (p ∷ todo) (inl refl))

    before_todo : (r : List ℕ) → In r todo → Before p r
    before_todo r k = ((sorted_rest done (p ∷ todo) (subst Sorted m.parts m.sorted)).0 r k).0

    ahead_old : (q : List ℕ) → In q found → (r : List ℕ) → In r todo ⊎ (r ≡ z ∷ p) → (u : ℕ) → Before q (u ∷ r)
    ahead_old q i r (inl k) u = m.ahead q i r k u
    ahead_old q i r (inr e) u = subst (λ v. Before q (u ∷ v)) (sym e) (before_trans q (z ∷ p) (u ∷ z ∷ p) (m.ahead_here q i z (has_head z ns)) (longer (z ∷ p) u))

    ahead_new : (r : List ℕ) → In r todo ⊎ (r ≡ z ∷ p) → (u : ℕ) → Before (z ∷ p) (u ∷ r)
    ahead_new r (inl k) u = led_on p r z u (before_todo r k)
    ahead_new r (inr e) u = subst (λ v. Before (z ∷ p) (u ∷ v)) (sym e) (longer (z ∷ p) u)

    ahead_both : (q : List ℕ) → In q found ⊎ (q ≡ z ∷ p) → (r : List ℕ) → In r todo ⊎ (r ≡ z ∷ p) → (u : ℕ) → Before q (u ∷ r)
    ahead_both q (inl i) r k u = ahead_old q i r k u
    ahead_both q (inr e) r k u = subst (λ v. Before v (u ∷ r)) (sym e) (ahead_new r k u)

    -- one that wasn't: it goes to the end
    pub mid_add : is_ascending (z ∷ ns) ≡ true → ((q : List ℕ) → In q found → head_of q ≡ z → ⊥) → Mid (found ++ (z ∷ p) ∷ []) done p (todo ++ (z ∷ p) ∷ []) ns
    mid_add asc fresh = record {
      parts = ap (λ v. v ++ (z ∷ p) ∷ []) m.parts ∙ append_assoc done (p ∷ todo) ((z ∷ p) ∷ []);
      sound = λ q h. elim (in_push q found (z ∷ p) h) [
        | inl i ↦ m.sound q i
        | inr e ↦ subst IsRoute (sym e) (route_on p z (fresh (asker ∷ []) m.root) (m.sound p here) (m.within z (has_head z ns)))
      ];
      root = in_left (asker ∷ []) found ((z ∷ p) ∷ []) m.root;
      sorted = sorted_push found (z ∷ p) m.sorted (λ q h. (m.ahead_here q h z (has_head z ns), fresh q h));
      complete = λ q h u k. found_more found (z ∷ p) u (u ∷ q) (m.complete q h u k);
      missed = m.missed;
      ahead = λ q h r k u. ahead_both q (in_push q found (z ∷ p) h) r (in_push r todo (z ∷ p) k) u;
      ahead_here = λ q h u k. elim (in_push q found (z ∷ p) h) [
        | inl i ↦ m.ahead_here q i u (has_tail u z ns k)
        | inr e ↦ subst (λ v. Before v (u ∷ p)) (sym e) (beside p z u (above_first z ns asc u k))
      ];
      within = λ u k. m.within u (has_tail u z ns k);
      so_far = λ u h. elim (m.so_far u h) [ inl f ↦ inl (found_more found (z ∷ p) u (u ∷ p) f) | inr k ↦ by u (or_cases (z == u) (has ns u) k) ];
    }
      where
        by : (u : ℕ) → ((z == u) ≡ true) ⊎ (has ns u ≡ true) → Found (found ++ (z ∷ p) ∷ []) u (u ∷ p) ⊎ (has ns u ≡ true)
        by u (inl same) = inl (z ∷ p, in_right (z ∷ p) found ((z ∷ p) ∷ []) (inl refl), eqb-true z u same, inl (ap (λ v. v ∷ p) (eqb-true z u same)))
        by u (inr rest) = inr rest

  pub mid_finish : (found done : List (List ℕ)) (p : List ℕ) (todo : List (List ℕ)) → Mid found done p todo [] → has (next (head_of p)) asker ≡ false → State found (done ++ p ∷ []) todo
  mid_finish found done p todo m shut = record {
    parts = m.parts ∙ sym (append_assoc done (p ∷ []) todo);
    sound = m.sound;
    root = m.root;
    sorted = m.sorted;
    complete = λ q h z k. elim (in_push q done p h) [ inl i ↦ m.complete q i z k | inr e ↦ led q z e k ];
    missed = λ q h. elim (in_push q done p h) [ inl i ↦ m.missed q i | inr e ↦ ap (λ v. has (next (head_of v)) asker) e ∙ shut ];
    ahead = m.ahead;
  }
    where
      led : (q : List ℕ) (z : ℕ) → q ≡ p → has (next (head_of q)) z ≡ true → Found found z (z ∷ q)
      led q z e k =
          subst (λ v. Found found z (z ∷ v)) (sym e) (elim (m.so_far z (subst (λ v. has (next (head_of v)) z ≡ true) e k)) [
            | inl f ↦ f
            | inr none ↦ absurd (true≢false (sym none))
          ])
