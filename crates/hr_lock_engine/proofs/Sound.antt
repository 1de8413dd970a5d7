-- Exact replies are sound, and what a lock table answers is exact.
use Rattle.std.proofs.Common.{◌≡◌, ℕ, suc, ◌+◌, ◌<◌, Bool, true, false, not, ◌&&◌, ◌||◌, ◌==◌, List, [], ◌∷◌, ◌++◌, length, refl, ap, ◌∙◌, sym, arith, length-append}
use Rattle.std.specs.Prelude.{◌≢◌}
use Rattle.std.specs.List.{list_any, list_all}
use Rattle.std.specs.Ordering.{nat_cmp, is_le}
use Rattle.std.specs.Cmp.Lexicographic.{slice_cmp}
use Rattle.std.proofs.lemmas.Bool.{and_from, and_parts, both_ways, false_from_ne_true, eq-eqb, ne_eqb, eqb-true, le-ltb}
use Rattle.std.proofs.lemmas.List.{append_assoc}
use Rattle.hr_base.specs.Lists.{has, is_empty, is_distinct, is_ascending}
use Rattle.hr_base.proofs.ListLaws.{all_from_has}
use Rattle.hr_rel.specs.declared.stmt.Stmt.{Stmt}
use Rattle.hr_engine.specs.Journal.{Journal}
use Rattle.hr_engine.specs.Attempts.{attempt, is_running}
use Rattle.hr_engine.specs.Waits.{wait, is_chain, IsSoundBlocked, is_sound_deadlock}
use Rattle.hr_engine.specs.Exact.{is_in_the_way, AreHolders, closes, is_told_before, IsExactBlocked, IsExactDeadlock}
use Rattle.hr_engine.proofs.WaitLaws.{wait_runs}
use Rattle.hr_locks.specs.Locks as lock
use Rattle.hr_locks.specs.Cycles as cycle
use Rattle.hr_locks.specs.Grants.{IsBlocked, IsDeadlock}

-- ---- chains

module _ (waits : ℕ → List ℕ) where
  chain_first : (xs : List ℕ) (u : ℕ) (ys : List ℕ) → is_chain waits (xs ++ u ∷ ys) ≡ true → is_chain waits (xs ++ u ∷ []) ≡ true
  chain_first [] u ys h = refl
  chain_first (x ∷ []) u ys h = and_from (has (waits x) u) true (and_parts (has (waits x) u) (is_chain waits (u ∷ ys)) h).0 refl
  chain_first (x ∷ y ∷ xs) u ys h =
      let both = and_parts (has (waits x) y) (is_chain waits (y ∷ xs ++ u ∷ ys)) h in
      and_from (has (waits x) y) (is_chain waits (y ∷ xs ++ u ∷ [])) both.0 (chain_first (y ∷ xs) u ys both.1)

  chain_rest : (xs : List ℕ) (u : ℕ) (ys : List ℕ) → is_chain waits (xs ++ u ∷ ys) ≡ true → is_chain waits (u ∷ ys) ≡ true
  chain_rest [] u ys h = h
  chain_rest (x ∷ []) u ys h = (and_parts (has (waits x) u) (is_chain waits (u ∷ ys)) h).1
  chain_rest (x ∷ y ∷ xs) u ys h = chain_rest (y ∷ xs) u ys (and_parts (has (waits x) y) (is_chain waits (y ∷ xs ++ u ∷ ys)) h).1

  chain_join : (xs : List ℕ) (u : ℕ) (ys : List ℕ) → is_chain waits (xs ++ u ∷ []) ≡ true → is_chain waits (u ∷ ys) ≡ true → is_chain waits (xs ++ u ∷ ys) ≡ true
  chain_join [] u ys h k = k
  chain_join (x ∷ []) u ys h k = and_from (has (waits x) u) (is_chain waits (u ∷ ys)) (and_parts (has (waits x) u) true h).0 k
  chain_join (x ∷ y ∷ xs) u ys h k =
      let both = and_parts (has (waits x) y) (is_chain waits (y ∷ xs ++ u ∷ [])) h in
      and_from (has (waits x) y) (is_chain waits (y ∷ xs ++ u ∷ ys)) both.0 (chain_join (y ∷ xs) u ys both.1 k)

  -- the lock table's word for it is the same
  same_chain : (path : List ℕ) → cycle.is_chain waits path ≡ is_chain waits path
  same_chain [] = refl
  same_chain (t ∷ []) = refl
  same_chain (t ∷ u ∷ path) = ap (λ (b : Bool). has (waits t) u && b) (same_chain (u ∷ path))

-- ---- lists of numbers

-- where a number stands in a list
pub record Place (ts : List ℕ) (t : ℕ) : Type 0 where
  pub before : List ℕ
  pub after : List ℕ
  pub whole : ts ≡ before ++ t ∷ after

place_in : (ts : List ℕ) (t : ℕ) → has ts t ≡ true → Place ts t
place_in [] t h = cc
place_in (u ∷ ts) t h = by_case (place_in ts t) (u == t) refl h
  where
    by_case : (has ts t ≡ true → Place ts t) → (b : Bool) → (u == t) ≡ b → (b || has ts t) ≡ true → Place (u ∷ ts) t
    by_case later true e h = record { before = []; after = ts; whole = ap (λ (x : ℕ). x ∷ ts) (eqb-true u t e) }
    by_case later false e h =
        let rest = later h in
        record { before = u ∷ rest.before; after = rest.after; whole = ap (λ (l : List ℕ). u ∷ l) rest.whole }

some_there : (ts : List ℕ) → ts ≢ [] → not (is_empty ts) ≡ true
some_there [] h = absurd (h refl)
some_there (t ∷ ts) h = refl

any_there : {X : Type 0} (p : X → Bool) (xs : List X) → list_any p xs ≡ true → not (is_empty xs) ≡ true
any_there p [] h = cc
any_there p (x ∷ xs) h = refl

-- the longer one isn't told
longer_untold : (conflict : Stmt → Stmt → Bool) (path other : List ℕ) → length other < length path → is_told_before conflict path other ≡ false
longer_untold conflict path other less =
    let first = le-ltb (length path) (length other) (omega (arith, less)) in
    let second = ne_eqb (length path) (length other) (λ e. omega (arith, less, e)) in
    λ i. first i || (second i && is_le (slice_cmp nat_cmp path other))

module _ (conflict : Stmt → Stmt → Bool) (asker : ℕ) (stmt : Stmt) (journal : Journal) where
  abbrev way : ℕ → Bool
  way t = is_in_the_way conflict stmt journal t

  abbrev waits_now : ℕ → List ℕ
  waits_now u = wait u journal

  abbrev closing : List ℕ → Bool
  closing path = closes conflict asker stmt journal path

  -- who is in the way runs
  pub way_runs : (t : ℕ) → way t ≡ true → is_running t journal ≡ true
  way_runs t h = any_there _ (attempt t journal) h

  abbrev starts : List ℕ → Bool
  starts [] = false
  starts (t ∷ path) = not (t == asker) && way t

  closing_from : (path : List ℕ) → starts path ≡ true → is_chain waits_now (path ++ asker ∷ []) ≡ true → closing path ≡ true
  closing_from [] h k = cc
  closing_from (t ∷ path) h k = and_from (not (t == asker) && way t) (is_chain waits_now (t ∷ path ++ asker ∷ [])) h k

  closing_starts : (path : List ℕ) → closing path ≡ true → starts path ≡ true
  closing_starts [] h = cc
  closing_starts (t ∷ path) h = (and_parts (not (t == asker) && way t) (is_chain waits_now (t ∷ path ++ asker ∷ [])) h).0

  closing_chain : (path : List ℕ) → closing path ≡ true → is_chain waits_now (path ++ asker ∷ []) ≡ true
  closing_chain [] h = cc
  closing_chain (t ∷ path) h = (and_parts (not (t == asker) && way t) (is_chain waits_now (t ∷ path ++ asker ∷ [])) h).1

  starts_alike : (xs : List ℕ) (v : ℕ) (mid bs : List ℕ) → starts (xs ++ v ∷ mid) ≡ starts (xs ++ v ∷ bs)
  starts_alike [] v mid bs = refl
  starts_alike (x ∷ xs) v mid bs = refl

  -- a path that comes back to one of its members can be cut short
  cut_short : (xs : List ℕ) (v : ℕ) (mid bs : List ℕ) → closing (xs ++ v ∷ (mid ++ v ∷ bs)) ≡ true → closing (xs ++ v ∷ bs) ≡ true
  cut_short xs v mid bs h =
      let end = bs ++ asker ∷ [] in
      let whole : is_chain waits_now (xs ++ v ∷ (mid ++ v ∷ end)) ≡ true =
      ap (λ (l : List ℕ). is_chain waits_now l) (sym (append_assoc xs (v ∷ (mid ++ v ∷ bs)) (asker ∷ []) ∙ ap (λ (l : List ℕ). xs ++ v ∷ l) (append_assoc mid (v ∷ bs) (asker ∷ []))))
      ∙ closing_chain (xs ++ v ∷ (mid ++ v ∷ bs)) h in
      let first = chain_first waits_now xs v (mid ++ v ∷ end) whole in
      let last = chain_rest waits_now (v ∷ mid) v end (chain_rest waits_now xs v (mid ++ v ∷ end) whole) in
      closing_from (xs ++ v ∷ bs) (starts_alike xs v bs (mid ++ v ∷ bs) ∙ closing_starts (xs ++ v ∷ (mid ++ v ∷ bs)) h)
      (ap (λ (l : List ℕ). is_chain waits_now l) (append_assoc xs (v ∷ bs) (asker ∷ [])) ∙ chain_join waits_now xs v end first last)

  -- one that comes to the asker too
  cut_at_asker : (x : ℕ) (xs bs : List ℕ) → closing (x ∷ xs ++ asker ∷ bs) ≡ true → closing (x ∷ xs) ≡ true
  cut_at_asker x xs bs h =
      let whole : is_chain waits_now (x ∷ (xs ++ asker ∷ (bs ++ asker ∷ []))) ≡ true =
      ap (λ (l : List ℕ). is_chain waits_now (x ∷ l)) (sym (append_assoc xs (asker ∷ bs) (asker ∷ []))) ∙ closing_chain (x ∷ xs ++ asker ∷ bs) h in
      closing_from (x ∷ xs) (closing_starts (x ∷ xs ++ asker ∷ bs) h) (chain_first waits_now (x ∷ xs) asker (bs ++ asker ∷ []) whole)

  module _ (path : List ℕ) (exact : IsExactDeadlock conflict asker stmt journal path) where
    not_shorter : (other : List ℕ) → closing other ≡ true → length other < length path → ⊥
    not_shorter other h less = both_ways (is_told_before conflict path other) (longer_untold conflict path other less) (exact.first other h)

    never_again : (xs : List ℕ) (v : ℕ) (zs : List ℕ) → path ≡ xs ++ v ∷ zs → Place zs v → ⊥
    never_again xs v zs e place =
        let is : path ≡ xs ++ v ∷ (place.before ++ v ∷ place.after) = e ∙ ap (λ (l : List ℕ). xs ++ v ∷ l) place.whole in
        let sizes : length path ≡ length xs + suc (length place.before + suc (length place.after)) =
        ap (λ (l : List ℕ). length l) is ∙ length-append xs (v ∷ (place.before ++ v ∷ place.after)) ∙ ap (λ (n : ℕ). length xs + suc n) (length-append place.before (v ∷ place.after)) in
        not_shorter (xs ++ v ∷ place.after) (cut_short xs v place.before place.after (sym (ap closing is) ∙ exact.closed))
        (omega (arith, sizes, length-append xs (v ∷ place.after)))

    distinct_from : (ys xs : List ℕ) → path ≡ xs ++ ys → is_distinct ys ≡ true
    distinct_from [] xs e = refl
    distinct_from (v ∷ zs) xs e =
        and_from (not (has zs v)) (is_distinct zs) (ap not (false_from_ne_true (has zs v) (λ h. never_again xs v zs e (place_in zs v h))))
        (distinct_from zs (xs ++ v ∷ []) (e ∙ sym (append_assoc xs (v ∷ []) zs)))

    asker_out : (place : Place path asker) (before : List ℕ) → place.before ≡ before → ⊥
    asker_out place [] e =
        let is : path ≡ asker ∷ place.after = place.whole ∙ ap (λ (l : List ℕ). l ++ asker ∷ place.after) e in
        let start = (and_parts (not (asker == asker)) (way asker) (closing_starts (asker ∷ place.after) (sym (ap closing is) ∙ exact.closed))).0 in
        both_ways (not (asker == asker)) (ap not (eq-eqb asker asker refl)) start
    asker_out place (x ∷ xs) e =
        let is : path ≡ x ∷ xs ++ asker ∷ place.after = place.whole ∙ ap (λ (l : List ℕ). l ++ asker ∷ place.after) e in
        let sizes : length path ≡ suc (length xs) + suc (length place.after) = ap (λ (l : List ℕ). length l) is ∙ length-append (x ∷ xs) (asker ∷ place.after) in
        not_shorter (x ∷ xs) (cut_at_asker x xs place.after (sym (ap closing is) ∙ exact.closed)) (omega (arith, sizes))

    no_asker : has path asker ≡ false
    no_asker = false_from_ne_true (has path asker) (λ h. let place = place_in path asker h in asker_out place place.before refl)

    all_run : (t : ℕ) (rest : List ℕ) → is_running t journal ≡ true → is_chain waits_now (t ∷ rest ++ asker ∷ []) ≡ true → list_all (λ u. is_running u journal) (t ∷ rest) ≡ true
    all_run t [] r h = and_from (is_running t journal) true r refl
    all_run t (u ∷ rest) r h =
        let both = and_parts (has (wait t journal) u) (is_chain waits_now (u ∷ rest ++ asker ∷ [])) h in
        and_from (is_running t journal) (list_all (λ v. is_running v journal) (u ∷ rest)) r (all_run u rest (wait_runs t u journal both.0) both.1)

    all_of_path : (p : List ℕ) → closing p ≡ true → list_all (λ u. is_running u journal) p ≡ true
    all_of_path [] h = cc
    all_of_path (t ∷ rest) h = all_run t rest (way_runs t (and_parts (not (t == asker)) (way t) (closing_starts (t ∷ rest) h)).1) (closing_chain (t ∷ rest) h)

    some_of_path : (p : List ℕ) → closing p ≡ true → not (is_empty p) ≡ true
    some_of_path [] h = cc
    some_of_path (t ∷ rest) h = refl

    -- a cycle that is told exactly has the asker first and others, who run, none twice, each waiting for the next
    pub sound_deadlock : is_sound_deadlock (λ u. is_running u journal) (λ u. wait u journal) asker (asker ∷ path) ≡ true
    sound_deadlock =
        let running = list_all (λ u. is_running u journal) path in
        let chain = is_chain waits_now (path ++ asker ∷ []) in
        let first = asker == asker in
        let some = not (is_empty path) in
        let distinct = not (has path asker) && is_distinct path in
        and_from (first && some && distinct && running) chain
        (and_from (first && some && distinct) running
        (and_from (first && some) distinct (and_from first some (eq-eqb asker asker refl) (some_of_path path exact.closed))
        (and_from (not (has path asker)) (is_distinct path) (ap not no_asker) (distinct_from path [] refl)))
        (all_of_path path exact.closed))
        (closing_chain path exact.closed)

  -- a wait that is told exactly is for some others, who run, and closes no cycle
  pub sound_blocked : (named : List ℕ) → IsExactBlocked conflict asker stmt journal named → IsSoundBlocked (λ u. is_running u journal) (λ u. wait u journal) asker named
  sound_blocked named exact = record {
    listed =
        and_from (not (is_empty named) && is_ascending named && not (has named asker)) (list_all (λ u. is_running u journal) named)
        (and_from (not (is_empty named) && is_ascending named) (not (has named asker)) (and_from (not (is_empty named)) (is_ascending named) (some_there named exact.some) exact.holders.ascending)
        (ap not (exact.holders.all asker ∙ ap (λ (b : Bool). not b && way asker) (eq-eqb asker asker refl))))
        (all_from_has (λ u. is_running u journal) named (λ t h. way_runs t (and_parts (not (t == asker)) (way t) (sym (exact.holders.all t) ∙ h)).1));
    no_cycle = λ t h leads.
        both_ways (closing (t ∷ leads.0)) (exact.open_path (t ∷ leads.0)) (closing_from (t ∷ leads.0) (sym (exact.holders.all t) ∙ h) leads.1);
  }

  -- ---- what a lock table answers

  module _ (in_way : ℕ → Bool) (waits : ℕ → List ℕ) (same_way : (t : ℕ) → in_way t ≡ way t) (same_waits : (t : ℕ) → waits t ≡ wait t journal) where
    closes_alike : (path : List ℕ) → cycle.closes in_way waits asker path ≡ closing path
    closes_alike [] = refl
    closes_alike (t ∷ path) =
        let chain : cycle.is_chain waits (t ∷ path ++ asker ∷ []) ≡ is_chain waits_now (t ∷ path ++ asker ∷ []) =
        same_chain waits (t ∷ path ++ asker ∷ []) ∙ (λ i. is_chain (λ u. same_waits u i) (t ∷ path ++ asker ∷ [])) in
        λ i. not (t == asker) && same_way t i && chain i

    pub exact_holders : (named : List ℕ) → lock.AreHolders asker in_way named → AreHolders conflict asker stmt journal named
    exact_holders named h = record { ascending = h.ascending; all = λ t. h.all t ∙ ap (λ (b : Bool). not (t == asker) && b) (same_way t) }

    pub exact_blocked : (named : List ℕ) → IsBlocked in_way waits asker named → IsExactBlocked conflict asker stmt journal named
    exact_blocked named h = record {
      holders = exact_holders named h.holders;
      some = h.some;
      open_path = λ path. sym (closes_alike path) ∙ h.open_path path;
    }

    pub exact_deadlock : (told : List ℕ) → (h : IsDeadlock in_way waits asker told) → IsExactDeadlock conflict asker stmt journal h.path
    exact_deadlock told h = record {
      closed = sym (closes_alike h.path) ∙ h.told.closed;
      first = λ other c. h.told.first other (closes_alike other ∙ c);
    }
