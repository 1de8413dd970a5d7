-- The lock is made, and closed.
use Rattle.std.proofs.Common.{◌<◌, ◌≡◌, ℕ, zero, suc, ◌⊎◌, false, true≢false, not, Option, Some, List, [], ◌∷◌, refl, sym, ap, ◌∙◌, subst, inl, inr, ⊎_elim, arith}
use mathlib.Core.Option as m
use lib.ListN.{get_elem?}
use Rattle.atomic_table.specs.Table.{State, opening, Final, Seen}
use Rattle.hr_turn.specs.declared.view.View.{View}
use Rattle.hr_turn.specs.Views.{spent_view, first_view}
use Rattle.hr_turn.specs.Entries.{calls_by}
use Rattle.hr_turn.specs.Turns.{IsAt, IsHome, IsOut, IsRoot, Knows, InTurns}
use Rattle.hr_turn.specs.Steps.{AreBack}
use Rattle.hr_turn.proofs.Lists.{at_same, count_alone}
use Rattle.hr_turn.proofs.Change.{is_live, known, are_back}

pub same_value : {S : Type 0} (x y : S) → Some x ≡ Some y → x ≡ y
same_value x y e = cc

module _ {S E : Type 0} (entries : S → List E) (caller : E → ℕ) (fixed : S → List ℕ) where
  pub opens : (value : S) → entries value ≡ [] → InTurns entries caller fixed (fixed value) (opening (0 ∷ 0 ∷ []) (Some value ∷ []) (first_view (fixed value)))
  opens value none = record {
    log = [];
    drawn = 0;
    served = 0;
    words = refl;
    out = refl;
    apart = λ i j t x y a b e f. only (λ k u. u.ticket ≡ Some t → i ≡ j) (λ g. absurd (cc)) i x a e;
    place = inl record { value = value; slot = refl; list = none; same = refl; nobody = only (λ k u. u.inside ≡ false) refl };
    passes = only (λ k u. (u ≡ spent_view) ⊎ Knows caller (fixed value) [] 0 0 k u) (inr record {
      live = refl;
      number = refl;
      seen = ([], refl);
      heard = ([], refl);
      mine = refl;
      own = refl;
      ticket = λ t e. absurd (cc);
      inside = λ i. absurd (true≢false (sym i));
      fixed = refl;
    });
    later = λ j far. refl;
    whole = (0, first_view (fixed value), refl, refl, refl);
    root = (first_view (fixed value), record { there = refl; live = refl; splits = refl; few = omega arith; others = refl; joined = tt; apart = tt });
  }
    where
      only : (P : ℕ → View E → Type 0) → P 0 (first_view (fixed value)) → (j : ℕ) (u : View E) → IsAt (first_view (fixed value) ∷ []) j u → P j u
      only P p zero u e = subst (P 0) (m.some-injective _ _ e) p
      only P p (suc j) u e = absurd (m.some-ne-none u (sym e))

  -- what is known of the value that was kept, and of the root that took all back
  pub record Left (v : View E) (kept : Option S) : Type 0 where
    pub value : S
    pub is : kept ≡ Some value
    pub list : entries value ≡ v.seen
    pub same : fixed value ≡ v.fixed
    pub mine : calls_by caller 0 v.seen ≡ v.mine
    pub back : AreBack caller v
    pub nobody : (j : ℕ) → v.splits < j → calls_by caller j v.seen ≡ []

  -- where the root has taken all back, it alone is left: the value is home, and the root has seen its list
  pub closes : (about : List ℕ) (id : ℕ) (v : View E) (ws : List ℕ) (xs : List (Option S)) (kept : Option S)
      → v.number ≡ 0 → v.others ≡ 0 → v.spent ≡ false → v.inside ≡ false → Final (Seen (InTurns entries caller fixed about) id v) ws xs → get_elem? xs 0 ≡ m.some kept
      → Left v kept
  closes about id v ws xs kept root none live out f taken = ⊎_elim home (λ p. absurd (nobody_else p)) h.place
    where
      s : State (Option S) (View E)
      s = f.0

      h : InTurns entries caller fixed about f.0
      h = f.1.0

      at : IsAt f.0.views id v
      at = f.1.1

      k : Knows caller about f.1.0.log f.1.0.served f.1.0.drawn id v
      k = known entries caller fixed about f.0 f.1.0 id v f.1.1 live

      is_zero : id ≡ 0
      is_zero = sym k.number ∙ root

      r : IsRoot caller f.1.0.log f.0.views v
      r = subst (IsRoot caller f.1.0.log f.0.views) (at_same f.0.views 0 f.1.0.root.0 v f.1.0.root.1.there (subst (λ (n : ℕ). IsAt f.0.views n v) is_zero f.1.1)) f.1.0.root.1

      -- every pass that is left is the root
      alone : (j : ℕ) (u : View E) → IsAt f.0.views j u → u.spent ≡ false → u ≡ v
      alone j u there left =
          let count = r.others in
          let one : j ≡ id = count_alone is_live f.0.views j id u v (omega arith) there (ap not left) f.1.1 (ap not live) in
          at_same f.0.views id u v (subst (λ (n : ℕ). IsAt f.0.views n u) one there) f.1.1

      nobody_else : IsOut entries caller fixed f.0 → ⊥
      nobody_else p = true≢false (sym p.inside ∙ ap (λ (x : View E). x.inside) (alone p.who p.view p.there (left p)) ∙ out)
        where
          left : (p : IsOut entries caller fixed f.0) → p.view.spent ≡ false
          left p = ⊎_elim (λ (e : p.view ≡ spent_view). absurd (true≢false (sym p.inside ∙ ap (λ (x : View E). x.inside) e))) (λ k. k.live) (f.1.0.passes p.who p.view p.there)

      home : IsHome entries caller fixed about f.1.0.log f.0 → Left v kept
      home p =
          let t = f.1.0.whole in
          let list : f.1.0.log ≡ v.seen = sym t.4 ∙ ap (λ (x : View E). x.seen) (alone t.0 t.1 t.2 t.3) in
          let slot : get_elem? f.0.homes 0 ≡ m.some (m.some (Some p.value)) = ap (λ (l : List (m.Option (Option S))). get_elem? l 0) p.slot in record {
            value = p.value;
            is = m.some-injective _ _ (sym taken ∙ f.4 0 (Some p.value) slot);
            list = p.list ∙ list;
            same = p.same ∙ sym k.fixed;
            mine = ap (λ (n : ℕ). calls_by caller n v.seen) (sym is_zero) ∙ k.own;
            back = are_back caller f.1.0.log f.0.views v r;
            nobody = λ j far. ap (calls_by caller j) (sym list) ∙ f.1.0.later j (let n = r.splits in omega arith);
          }
