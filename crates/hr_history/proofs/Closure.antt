-- Enough steps reach all that any chain of waits does.
use Rattle.std.proofs.Common.{◌≡◌, ℕ, zero, suc, ◌<◌, ◌≤◌, Bool, true, false, not, ◌||◌, ◌==◌, cond, List, [], ◌∷◌, ◌++◌, flat_map, length, ◌⊎◌, inl, inr, ⊎_elim, IsTrue, refl, ap, sym, ◌∙◌, arith}
use Rattle.std.proofs.lemmas.Bool.Decides.{Decides-eqb}
use Rattle.std.proofs.lemmas.List.Folds.{list_any-append}
use Rattle.hr_base.specs.Lists.{has, once}
use Rattle.hr_engine.specs.Waits.{is_chain, Leads, is_list_of_running, IsSoundBlocked}
use Rattle.hr_history.specs.Evidence.{reached, is_sound_blocked}
use Rattle.hr_history.proofs.StepLemmas.{both}
use Rattle.hr_base.proofs.Tests.{or_split, or_first, or_second, kept_once}
use Rattle.hr_history.proofs.Chains.{Waiter, in_next}

-- how many of a list fail a test
abbrev missing : (ℕ → Bool) → List ℕ → ℕ
missing p [] = zero
missing p (u ∷ us) = cond (p u) (missing p us) (suc (missing p us))

abbrev SameOn : (ℕ → Bool) → (ℕ → Bool) → List ℕ → Type 0
SameOn p q us = (v : ℕ) → has us v ≡ true → q v ≡ true → p v ≡ true

record Compared (p q : ℕ → Bool) (us : List ℕ) : Type 0 where
  no_more : missing q us ≤ missing p us
  same_or_fewer : SameOn p q us ⊎ (missing q us < missing p us)

same_more : (p q : ℕ → Bool) (u : ℕ) (us : List ℕ) → (q u ≡ true → p u ≡ true) → SameOn p q us → SameOn p q (u ∷ us)
same_more p q u us here same v h k =
    ⊎_elim (λ (d : (u == v) ≡ true). let e = (Decides-eqb u v).0 d in ap p (sym e) ∙ here (ap q e ∙ k)) (λ (d : has us v ≡ true). same v d k) (or_split (u == v) (has us v) h)

module _ (p q : ℕ → Bool) (mono : (u : ℕ) → p u ≡ true → q u ≡ true) where
  compare_head : (b c : Bool) (u : ℕ) (us : List ℕ) → p u ≡ b → q u ≡ c → Compared p q us
      → (cond c (missing q us) (suc (missing q us)) ≤ cond b (missing p us) (suc (missing p us))) × (SameOn p q (u ∷ us) ⊎ (cond c (missing q us) (suc (missing q us)) < cond b (missing p us) (suc (missing p us))))
  compare_head true true u us e d it =
      (it.no_more, ⊎_elim (λ (s : SameOn p q us). inl (same_more p q u us (λ x. e) s)) (λ (l : missing q us < missing p us). inr l) it.same_or_fewer)
  compare_head true false u us e d it = cc (sym (mono u e) ∙ d)
  compare_head false true u us e d it = let le = it.no_more in (omega (arith, le), inr (omega (arith, le)))
  compare_head false false u us e d it =
      let le = it.no_more in
      (omega (arith, le), ⊎_elim (λ (s : SameOn p q us). inl (same_more p q u us (λ x. absurd (no_both (sym x ∙ d))) s)) (λ (l : missing q us < missing p us). inr (omega (arith, l))) it.same_or_fewer)
    where
      no_both : true ≡ false → ⊥
      no_both x = cc x

  compare : (us : List ℕ) → Compared p q us
  compare [] = record { no_more = omega arith; same_or_fewer = inl (λ v h k. none h) }
    where
      none : {X : Type 0} → false ≡ true → X
      none h = cc h
  compare (u ∷ us) = let it = compare_head (p u) (q u) u us refl refl (compare us) in record { no_more = it.0; same_or_fewer = it.1 }

none_missing_head : (b : Bool) (p : ℕ → Bool) (u v : ℕ) (us : List ℕ) → p u ≡ b → cond b (missing p us) (suc (missing p us)) ≤ zero → (missing p us ≤ zero → has us v ≡ true → p v ≡ true) → ((u == v) || has us v) ≡ true → p v ≡ true
none_missing_head true p u v us e le more h =
    ⊎_elim (λ (d : (u == v) ≡ true). ap p (sym ((Decides-eqb u v).0 d)) ∙ e) (λ (d : has us v ≡ true). more le d) (or_split (u == v) (has us v) h)
none_missing_head false p u v us e le more h = absurd (omega (arith, le))

none_missing : (p : ℕ → Bool) (v : ℕ) (us : List ℕ) → missing p us ≤ zero → has us v ≡ true → p v ≡ true
none_missing p v [] le h = cc
none_missing p v (u ∷ us) le h = none_missing_head (p u) p u v us refl le (λ l d. none_missing p v us l d) h

missing_at_most : (p : ℕ → Bool) (us : List ℕ) → missing p us ≤ length us
missing_at_most p [] = omega arith
missing_at_most p (u ∷ us) = by_test (p u) (missing_at_most p us)
  where
    by_test : (b : Bool) → missing p us ≤ length us → cond b (missing p us) (suc (missing p us)) ≤ suc (length us)
    by_test true le = omega (arith, le)
    by_test false le = omega (arith, le)

-- only those of `us` wait
module _ (waits : ℕ → List ℕ) (us : List ℕ) (only : (u : ℕ) → has us u ≡ false → waits u ≡ []) where
  abbrev next : List ℕ → List ℕ
  next ts = once (ts ++ flat_map waits ts)

  stays_next : (ts : List ℕ) (u : ℕ) → has ts u ≡ true → has (next ts) u ≡ true
  stays_next ts u h = kept_once (ts ++ flat_map waits ts) u (list_any-append (λ v. v == u) ts (flat_map waits ts) ∙ or_first (has ts u) (has (flat_map waits ts) u) h)

  flat_has : (ts : List ℕ) (x y : ℕ) → has ts x ≡ true → has (waits x) y ≡ true → has (flat_map waits ts) y ≡ true
  flat_has [] x y h k = cc
  flat_has (t ∷ ts) x y h k =
      list_any-append (λ v. v == y) (waits t) (flat_map waits ts)
      ∙ ⊎_elim (λ (d : (t == x) ≡ true). or_first (has (waits t) y) (has (flat_map waits ts) y) (ap (λ z. has (waits z) y) ((Decides-eqb t x).0 d) ∙ k))
      (λ (d : has ts x ≡ true). or_second (has (waits t) y) (has (flat_map waits ts) y) (flat_has ts x y d k)) (or_split (t == x) (has ts x) h)

  into_next : (ts : List ℕ) (x y : ℕ) → has ts x ≡ true → has (waits x) y ≡ true → has (next ts) y ≡ true
  into_next ts x y h k = kept_once (ts ++ flat_map waits ts) y (list_any-append (λ v. v == y) ts (flat_map waits ts) ∙ or_second (has ts y) (has (flat_map waits ts) y) (flat_has ts x y h k))

  abbrev Closed : List ℕ → Type 0
  Closed ts = (x y : ℕ) → has ts x ≡ true → has (waits x) y ≡ true → has ts y ≡ true

  back : (ts : List ℕ) → Closed ts → (u : ℕ) → has (next ts) u ≡ true → has ts u ≡ true
  back ts closed u h = ⊎_elim (λ (d : has ts u ≡ true). d) (λ (w : Waiter waits ts u). closed w.one u w.listed w.waits_for) (in_next waits ts u h)

  closed_next : (ts : List ℕ) → Closed ts → Closed (next ts)
  closed_next ts closed x y h k = stays_next ts y (closed x y (back ts closed x h) k)

  closed_reached : (n : ℕ) (ts : List ℕ) → Closed ts → Closed (reached waits n ts)
  closed_reached zero ts closed = closed
  closed_reached (suc n) ts closed = closed_reached n (next ts) (closed_next ts closed)

  -- one that waits is of `us`
  waits_listed : (b : Bool) (x y : ℕ) → has us x ≡ b → has (waits x) y ≡ true → has us x ≡ true
  waits_listed true x y e k = e
  waits_listed false x y e k = cc (sym (ap (λ w. has w y) (only x e)) ∙ k)

  closed_where : (ts : List ℕ) → SameOn (has ts) (has (next ts)) us → Closed (next ts)
  closed_where ts same x y h k = into_next ts x y (same x (waits_listed (has us x) x y refl k) h) k

  closes : (n : ℕ) (ts : List ℕ) → missing (has ts) us ≤ n → Closed (reached waits (suc n) ts)
  closes zero ts le = closed_where ts (λ v h k. none_missing (has ts) v us le h)
  closes (suc n) ts le =
      ⊎_elim (λ (same : SameOn (has ts) (has (next ts)) us). closed_reached (suc n) (next ts) (closed_where ts same))
      (λ (fewer : missing (has (next ts)) us < missing (has ts) us). closes n (next ts) (omega (arith, le, fewer)))
      ((compare (has ts) (has (next ts)) (λ u h. stays_next ts u h) us).same_or_fewer)

  stays_reached : (n : ℕ) (ts : List ℕ) (u : ℕ) → has ts u ≡ true → has (reached waits n ts) u ≡ true
  stays_reached zero ts u h = h
  stays_reached (suc n) ts u h = stays_reached n (next ts) u (stays_next ts u h)

  -- a chain doesn't leave a closed list
  along : (ts : List ℕ) → Closed ts → (between : List ℕ) (t u : ℕ) → has ts t ≡ true → is_chain waits (t ∷ between ++ u ∷ []) ≡ true → has ts u ≡ true
  along ts closed [] t u h chain = closed t u h (both (has (waits t) u) true chain).0
  along ts closed (v ∷ between) t u h chain =
      let parts = both (has (waits t) v) _ chain in
      along ts closed between v u (closed t v h parts.0) parts.1

  all_reached : (n : ℕ) (ts : List ℕ) (t u : ℕ) → length us ≤ n → has ts t ≡ true → Leads waits t u → has (reached waits (suc n) ts) u ≡ true
  all_reached n ts t u le h leads =
      let most = missing_at_most (has ts) us in
      along (reached waits (suc n) ts) (closes n ts (omega (arith, le, most))) leads.0 t u (stays_reached (suc n) ts t h) leads.1

  -- a reply that passes the test is sound
  pub passes_sound : (running : ℕ → Bool) (n asker : ℕ) (named : List ℕ) → length us ≤ n → IsTrue (is_sound_blocked running waits n asker named) → IsSoundBlocked running waits asker named
  passes_sound running n asker named le passes =
      let parts = both (is_list_of_running running asker named) _ passes in
      record {
        listed = parts.0;
        no_cycle = λ t h leads. none (sym (ap not (all_reached n named t asker le h leads)) ∙ parts.1);
      }
    where
      none : false ≡ true → ⊥
      none e = cc e
