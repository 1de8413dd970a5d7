-- Whom a walk along waits finds, and whom it doesn't.
use Rattle.std.proofs.Common.{◌≡◌, ◌⊎◌, inl, inr, ℕ, zero, suc, ◌≤◌, Bool, true, false, ◌&&◌, ◌==◌, Some, List, [], ◌∷◌, ◌++◌, length, take, slice_get, refl, ap, sym, ◌∙◌, subst, arith}
use Rattle.std.proofs.lemmas.List.Folds.{list_any-append}
use Rattle.hr_base.specs.Lists.{has}
use Rattle.std.proofs.lemmas.Bool.{eq-eqb}
use Rattle.hr_base.proofs.Tests.{or_split, or_first}
use Rattle.hr_records.proofs.Options.{some_none, same_some}
use Rattle.hr_base.proofs.ListLaws.{has_one, has_tail}
use Rattle.hr_engine.specs.Waits.{is_chain, Leads}
use Rattle.hr_history.proofs.StepLemmas.{both}
use Rattle.hr_votes.specs.Walked.{IsKnown, GrowsBy, StaysClear, LeadsOn}
use Rattle.hr_votes.proofs.Marks.{known_still}

and_true : (b : Bool) → b ≡ true → (b && true) ≡ true
and_true b h = ap (λ x. x && true) h

and_both : (b c : Bool) → b ≡ true → c ≡ true → (b && c) ≡ true
and_both b c h k = (λ i. h i && k i)

take_next : (xs more : List ℕ) (n x : ℕ) → slice_get xs n ≡ Some x → take (suc n) (xs ++ more) ≡ take n xs ++ x ∷ []
take_next [] more n x at = absurd (some_none x (sym at))
take_next (y ∷ ys) more zero x at = ap (λ z. z ∷ []) (same_some y x at)
take_next (y ∷ ys) more (suc n) x at = ap (λ zs. y ∷ zs) (take_next ys more n x at)

take_all : (n : ℕ) (xs : List ℕ) → length xs ≤ n → take n xs ≡ xs
take_all zero [] h = refl
take_all (suc n) [] h = refl
take_all zero (x ∷ xs) h = absurd (omega (arith, h))
take_all (suc n) (x ∷ xs) h = ap (λ ys. x ∷ ys) (take_all n xs (omega (arith, h)))

got_has : (xs : List ℕ) (i t : ℕ) → slice_get xs i ≡ Some t → has xs t ≡ true
got_has [] i t at = absurd (some_none t (sym at))
got_has (x ∷ xs) zero t at = or_first (x == t) (has xs t) (eq-eqb x t (same_some x t at))
got_has (x ∷ xs) (suc i) t at = has_tail t x xs (got_has xs i t at)

module _ (waits : ℕ → List ℕ) where
  chain_more : (between : List ℕ) (t u w : ℕ) → is_chain waits (t ∷ between ++ u ∷ []) ≡ true → has (waits u) w ≡ true → is_chain waits (t ∷ (between ++ u ∷ []) ++ w ∷ []) ≡ true
  chain_more [] t u w h k = and_both (has (waits t) u) _ (both (has (waits t) u) true h).0 (and_true (has (waits u) w) k)
  chain_more (x ∷ xs) t u w h k = let parts = both (has (waits t) x) _ h in and_both (has (waits t) x) _ parts.0 (chain_more xs x u w parts.1 k)

  pub leads_one : (t u : ℕ) → has (waits t) u ≡ true → Leads waits t u
  leads_one t u h = ([], and_true (has (waits t) u) h)

  pub leads_then : (t u w : ℕ) → Leads waits t u → has (waits u) w ≡ true → Leads waits t w
  leads_then t u w leads h = (leads.0 ++ u ∷ [], chain_more leads.0 t u w leads.1 h)

  module _ (entries named : List ℕ) (asker : ℕ) where
    -- one of the named, or one that a chain leads to from them
    abbrev pub IsReached : ℕ → Type 0
    IsReached t = (has named t ≡ true) ⊎ LeadsOn waits named t

    -- What the walk keeps: each one found is reached, the named are known, and so are those for whom the ones before
    -- `next` wait, none of whom is the asker.
    pub record IsSearch (found : List ℕ) (next : ℕ) : Type 0 where
      pub reached : (t : ℕ) → has found t ≡ true → IsReached t
      pub known : (t : ℕ) → has named t ≡ true → IsKnown entries found t
      pub closed : (t : ℕ) → has (take next found) t ≡ true → StaysClear entries asker found (has (waits t))

    reached_on : (t u : ℕ) → IsReached t → has (waits t) u ≡ true → LeadsOn waits named u
    reached_on t u (inl it) h = (t, it, leads_one t u h)
    reached_on t u (inr leads) h = (leads.0, leads.1, leads_then leads.0 t u leads.2 h)

    no_first : (t : ℕ) → has [] t ≡ true → ⊥
    no_first t h = cc h

    -- the named were found, and nobody's waits were looked at
    pub starts : (found : List ℕ) → GrowsBy (has named) [] found → ((t : ℕ) → has named t ≡ true → IsKnown entries found t) → IsSearch found 0
    starts found grows known = record {
      reached = λ t h. inl (grows.2 t (ap (λ xs. has xs t) (sym grows.1) ∙ h));
      known = known;
      closed = λ t h. absurd (no_first t h);
    }

    module _ (found now : List ℕ) (next txn : ℕ) (search_ : IsSearch found next) (at : slice_get found next ≡ Some txn) where
      is_found : has found txn ≡ true
      is_found = got_has found next txn at

      -- whom the next one waits for is reached
      pub follows : (t : ℕ) → has (waits txn) t ≡ true → LeadsOn waits named t
      follows t h = reached_on txn t (search_.reached txn is_found) h

      module _ (grows : GrowsBy (has (waits txn)) found now) (clear : StaysClear entries asker now (has (waits txn))) where
        still : (t : ℕ) → IsKnown entries found t → IsKnown entries now t
        still t known = subst (λ xs. IsKnown entries xs t) (sym grows.1) (known_still entries found grows.0 t known)

        is_reached : (t : ℕ) → has now t ≡ true → IsReached t
        is_reached t h = elim (or_split (has found t) (has grows.0 t) (sym (list_any-append (λ u. u == t) found grows.0) ∙ ap (λ xs. has xs t) (sym grows.1) ∙ h)) [
          | inl old ↦ search_.reached t old
          | inr new ↦ inr (follows t (grows.2 t new))
        ]

        is_closed : (t : ℕ) → has (take (suc next) now) t ≡ true → StaysClear entries asker now (has (waits t))
        is_closed t h u waited = elim (or_split (has (take next found) t) (has (txn ∷ []) t) (sym (list_any-append (λ w. w == t) (take next found) (txn ∷ [])) ∙ ap (λ xs. has xs t) (sym (ap (take (suc next)) grows.1 ∙ take_next found grows.0 next txn at)) ∙ h)) [
          | inl old ↦ (let c = search_.closed t old u waited in (still u c.0, c.1))
          | inr new ↦ clear u (ap (λ x. has (waits x) u) (has_one txn t new) ∙ waited)
        ]

        -- one more's waits were looked at
        pub goes_on : IsSearch now (suc next)
        goes_on = record { reached = is_reached; known = λ t h. still t (search_.known t h); closed = is_closed }

    -- those without an entry wait for nobody
    module _ (idle : (t : ℕ) → has entries t ≡ false → waits t ≡ []) (found : List ℕ) (closed : (t : ℕ) → has found t ≡ true → StaysClear entries asker found (has (waits t))) where
      waits_none : (t u : ℕ) → has entries t ≡ false → has (waits t) u ≡ true → ⊥
      waits_none t u none h = cc (sym (ap (λ ws. has ws u) (idle t none)) ∙ h)

      goes_by : (t u : ℕ) → IsKnown entries found t → has (waits t) u ≡ true → IsKnown entries found u × (u ≡ asker → ⊥)
      goes_by t u (inl it) h = closed t it u h
      goes_by t u (inr none) h = absurd (waits_none t u none h)

      not_there : (between : List ℕ) (t : ℕ) → IsKnown entries found t → is_chain waits (t ∷ between ++ asker ∷ []) ≡ true → ⊥
      not_there [] t known chain = (goes_by t asker known (both (has (waits t) asker) true chain).0).1 refl
      not_there (x ∷ xs) t known chain = let parts = both (has (waits t) x) _ chain in not_there xs x (goes_by t x known parts.0).0 parts.1

    -- where all waits were looked at, no chain leads to the asker
    pub ends : (found : List ℕ) (next : ℕ) → ((t : ℕ) → has entries t ≡ false → waits t ≡ []) → IsSearch found next → length found ≤ next → LeadsOn waits named asker → ⊥
    ends found next idle search_ all leads =
        not_there idle found (λ t h. search_.closed t (ap (λ xs. has xs t) (take_all next found all) ∙ h)) leads.2.0 leads.0 (search_.known leads.0 leads.1) leads.2.1
