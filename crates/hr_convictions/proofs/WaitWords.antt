-- A reply that tells of waits is judged alike by the waits before it and by those after it: they differ in the asker's alone,
-- and no chain to the asker needs that.
use Rattle.std.proofs.Common.{◌≡◌, ℕ, Bool, true, false, not, ◌&&◌, ◌==◌, List, [], ◌∷◌, ◌++◌, refl, ap, sym, ◌∙◌}
use Rattle.std.specs.List.{list_all}
use Rattle.std.proofs.lemmas.Bool.{and_parts, eqb-true, eq-eqb, not-true}
use Rattle.hr_base.specs.Lists.{has, is_empty, is_distinct, is_ascending}
use Rattle.hr_base.proofs.ListLaws.{all_agree_on}
use Rattle.hr_base.proofs.Tests.{or_false}
use Rattle.hr_engine.specs.Waits.{is_chain, Leads, IsSoundBlocked, is_sound_deadlock}

apart_from : (u t : ℕ) → (u == t) ≡ false → u ≡ t → ⊥
apart_from u t e same = cc (eq-eqb u t same, e)

-- who is in a list that hasn't t is another
is_other : (ts : List ℕ) (t u : ℕ) → has ts t ≡ false → has ts u ≡ true → u ≡ t → ⊥
is_other ts t u none there same = cc (ap (has ts) same, none, there)

module _ (p q : ℕ → Bool) (w x : ℕ → List ℕ) (t : ℕ) (runs : (u : ℕ) → p u ≡ q u) (waits : (u : ℕ) → (u ≡ t → ⊥) → w u ≡ x u) where
  -- a chain to the asker can be cut where it comes there first
  to_asker : (u : ℕ) (between : List ℕ) → (u ≡ t → ⊥) → is_chain w (u ∷ between ++ t ∷ []) ≡ true → Leads x u t
  to_asker u [] other chain = ([], ap (λ ts. has ts t && true) (sym (waits u other)) ∙ chain)
  to_asker u (v ∷ between) other chain =
      let parts = and_parts (has (w u) v) (is_chain w (v ∷ between ++ t ∷ [])) chain in
      let here : has (x u) v ≡ true = ap (λ ts. has ts v) (sym (waits u other)) ∙ parts.0 in
      by_test (v == t) refl here (λ apart. to_asker v between apart parts.1)
    where
      by_test : (b : Bool) → (v == t) ≡ b → has (x u) v ≡ true → ((v ≡ t → ⊥) → Leads x v t) → Leads x u t
      by_test true e here later = ([], λ i. (ap (has (x u)) (sym (eqb-true v t e)) ∙ here) i && true)
      by_test false e here later = let rest = later (apart_from v t e) in (v ∷ rest.0, λ i. here i && rest.1 i)

  pub sound_blocked_after : (named : List ℕ) → IsSoundBlocked q x t named → IsSoundBlocked p w t named
  sound_blocked_after named sound =
      let front = and_parts (not (is_empty named) && is_ascending named && not (has named t)) (list_all q named) sound.listed in
      let none = not-true (has named t) (and_parts (not (is_empty named) && is_ascending named) (not (has named t)) front.0).1 in
      record {
        listed = λ i. front.0 i && (all_agree_on p q named (λ u there. runs u) ∙ front.1) i;
        no_cycle = λ u there leads. sound.no_cycle u there (to_asker u leads.0 (is_other named t u none there) leads.1);
      }

  -- no other than the last of the path is the asker
  chain_after : (path : List ℕ) → has path t ≡ false → is_chain x (path ++ t ∷ []) ≡ true → is_chain w (path ++ t ∷ []) ≡ true
  chain_after [] none chain = refl
  chain_after (u ∷ []) none chain = ap (λ ts. has ts t && true) (waits u (apart_from u t (or_false (u == t) false none).0)) ∙ chain
  chain_after (u ∷ v ∷ path) none chain =
      let apart = or_false (u == t) (has (v ∷ path) t) none in
      let parts = and_parts (has (x u) v) (is_chain x (v ∷ path ++ t ∷ [])) chain in
      λ i. (ap (λ ts. has ts v) (waits u (apart_from u t apart.0)) ∙ parts.0) i && chain_after (v ∷ path) apart.1 parts.1 i

  pub sound_deadlock_after : (cycle : List ℕ) → is_sound_deadlock q x t cycle ≡ true → is_sound_deadlock p w t cycle ≡ true
  sound_deadlock_after [] sound = sound
  sound_deadlock_after (first ∷ others) sound =
      let chain = and_parts ((first == t) && not (is_empty others) && is_distinct (first ∷ others) && list_all q others) (is_chain x (others ++ t ∷ [])) sound in
      let all = and_parts ((first == t) && not (is_empty others) && is_distinct (first ∷ others)) (list_all q others) chain.0 in
      let front = and_parts ((first == t) && not (is_empty others)) (is_distinct (first ∷ others)) all.0 in
      let asker = eqb-true first t (and_parts (first == t) (not (is_empty others)) front.0).0 in
      let none = ap (has others) (sym asker) ∙ not-true (has others first) (and_parts (not (has others first)) (is_distinct others) front.1).0 in
      λ i. all.0 i && (all_agree_on p q others (λ u there. runs u) ∙ all.1) i && chain_after others none chain.1 i
