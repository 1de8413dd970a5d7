-- Who is reached by steps is reached by a chain of waits.
use Rattle.std.proofs.Common.{◌≡◌, ℕ, zero, suc, Bool, true, false, not, ◌&&◌, ◌==◌, List, [], ◌∷◌, ◌++◌, flat_map, ◌⊎◌, inl, inr, ⊎_elim, IsTrue, refl, sym, ◌∙◌}
use Rattle.std.proofs.lemmas.Bool.Decides.{Decides-eqb}
use Rattle.std.proofs.lemmas.List.Folds.{list_any-append}
use Rattle.hr_base.specs.Lists.{has, once, is_empty, is_ascending}
use Rattle.hr_base.proofs.Tests.{or_split, or_first, or_second, in_once}
use Rattle.hr_engine.specs.Waits.{Leads, is_list_of_running, IsSoundBlocked}
use Rattle.hr_history.specs.Evidence.{reached, is_sound_blocked}
use Rattle.hr_history.proofs.StepLemmas.{both}

module _ (waits : ℕ → List ℕ) where
  -- one of the list waits for u
  pub record Waiter (ts : List ℕ) (u : ℕ) : Type 0 where
    pub one : ℕ
    pub listed : has ts one ≡ true
    pub waits_for : has (waits one) u ≡ true

  in_flat : (ts : List ℕ) (u : ℕ) → has (flat_map waits ts) u ≡ true → Waiter ts u
  in_flat [] u h = cc
  in_flat (t ∷ ts) u h =
      ⊎_elim
      (λ (e : has (waits t) u ≡ true). record { one = t; listed = or_first (t == t) (has ts t) ((Decides-eqb t t).1 refl); waits_for = e })
      (λ (e : has (flat_map waits ts) u ≡ true). let w = in_flat ts u e in record { one = w.one; listed = or_second (t == w.one) (has ts w.one) w.listed; waits_for = w.waits_for })
      (or_split (has (waits t) u) (has (flat_map waits ts) u) (sym (list_any-append (λ v. v == u) (waits t) (flat_map waits ts)) ∙ h))

  -- a chain of waits leads from one of the list to u
  record From (ts : List ℕ) (u : ℕ) : Type 0 where
    pub one : ℕ
    pub listed : has ts one ≡ true
    leads : Leads waits one u

  and_true : (b : Bool) → b ≡ true → (b && true) ≡ true
  and_true true e = refl
  and_true false e = e

  by_one : (t u : ℕ) → has (waits t) u ≡ true → Leads waits t u
  by_one t u e = ([], and_true (has (waits t) u) e)

  and_more : (b c : Bool) → b ≡ true → c ≡ true → (b && c) ≡ true
  and_more true c e d = d
  and_more false c e d = cc

  by_more : (t v u : ℕ) → has (waits t) v ≡ true → Leads waits v u → Leads waits t u
  by_more t v u e l = (v ∷ l.0, and_more (has (waits t) v) _ e l.1)

  pub in_next : (ts : List ℕ) (u : ℕ) → has (once (ts ++ flat_map waits ts)) u ≡ true → (has ts u ≡ true) ⊎ Waiter ts u
  in_next ts u h =
      ⊎_elim (λ (e : has ts u ≡ true). inl e) (λ (e : has (flat_map waits ts) u ≡ true). inr (in_flat ts u e))
      (or_split (has ts u) (has (flat_map waits ts) u) (sym (list_any-append (λ v. v == u) ts (flat_map waits ts)) ∙ in_once (ts ++ flat_map waits ts) u h))

  from_next : (ts : List ℕ) (v u : ℕ) → Leads waits v u → (has ts v ≡ true) ⊎ Waiter ts v → From ts u
  from_next ts v u l = ⊎_elim (λ (e : has ts v ≡ true). record { one = v; listed = e; leads = l }) (λ (w : Waiter ts v). record { one = w.one; listed = w.listed; leads = by_more w.one v u w.waits_for l })

  reached_leads : (n : ℕ) (ts : List ℕ) (u : ℕ) → has (reached waits n ts) u ≡ true → (has ts u ≡ true) ⊎ From ts u
  reached_leads zero ts u h = inl h
  reached_leads (suc n) ts u h =
      let next = once (ts ++ flat_map waits ts) in
      ⊎_elim
      (λ (e : has next u ≡ true). ⊎_elim (λ (d : has ts u ≡ true). inl d) (λ (w : Waiter ts u). inr record { one = w.one; listed = w.listed; leads = by_one w.one u w.waits_for }) (in_next ts u e))
      (λ (l : From next u). inr (from_next ts l.one u l.leads (in_next ts l.one l.listed)))
      (reached_leads n next u h)

  -- no chain leads to the asker, so it isn't reached
  not_reached : (b : Bool) (running : ℕ → Bool) (n asker : ℕ) (named : List ℕ) → has (reached waits n named) asker ≡ b → has named asker ≡ false → IsSoundBlocked running waits asker named → not b ≡ true
  not_reached false running n asker named e other sound = refl
  not_reached true running n asker named e other sound =
      absurd (⊎_elim (λ (d : has named asker ≡ true). no_both d) (λ (l : From named asker). sound.no_cycle l.one l.listed l.leads) (reached_leads n named asker e))
    where
      no_both : has named asker ≡ true → ⊥
      no_both d = cc (sym d ∙ other)

  not_false : (b : Bool) → not b ≡ true → b ≡ false
  not_false true e = cc
  not_false false e = refl

  -- a reply that is sound passes the test
  pub sound_passes : (running : ℕ → Bool) (n asker : ℕ) (named : List ℕ) → IsSoundBlocked running waits asker named → IsTrue (is_sound_blocked running waits n asker named)
  sound_passes running n asker named sound =
      let other = not_false (has named asker) (both (not (is_empty named) && is_ascending named) _ (both _ _ sound.listed).0).1 in
      and_more (is_list_of_running running asker named) _ sound.listed (not_reached (has (reached waits (suc n) named) asker) running (suc n) asker named refl other sound)
