-- A replica is changed.
use Rattle.std.proofs.Common.{◌≡◌, ℕ, suc, ◌+◌, ◌*◌, ◌<◌, ◌≤◌, Bool, true, false, ◌==◌, if◌then◌else◌, Option, Some, None, unwrap_or, List, [], ◌∷◌, map, length, slice_get, refl, ap, sym, ◌∙◌, subst, arith}
use Rattle.std.specs.Option.{option_map}
use Rattle.std.proofs.lemmas.Bool.{eqb-true}
use Rattle.std.proofs.lemmas.List.{length-map}
use Rattle.hr_history.specs.View.{Progress}
use Rattle.hr_moves.specs.Changes.{map_from, change_at, with_replica}
use Rattle.hr_moves.specs.Sane.{IsSane}
use Rattle.hr_progress.specs.declared.progress.Progress as code
use Rattle.hr_progress.specs.Plain.{PlainProgress, PlainView, idle_progress, plain_progress, plain_replica_in}
use Rattle.hr_progress.specs.Seen.{seen_replica, seen_replicas, seen_plain}
use Rattle.hr_progress.specs.Kept.{IsKept, IsCounted, ArePlaces, AreTold}
use Rattle.hr_progress.proofs.Changed.{got_from, length_from}
use Rattle.hr_progress.proofs.Parts.{length_seen}

-- the number of a replica has a place
pub within : (p : PlainView) (r : ℕ) → IsSane (seen_plain p) → r ≤ 2 * p.f → r < length p.replicas
within p r sane known = omega (arith, sane.replicas, length_seen p.replies p.fresh 0 p.replicas, known)

pub within_code : (qs : List code.Progress) (r : ℕ) → r < length (map plain_progress qs) → r < length qs
within_code qs r h = omega (arith, h, length-map qs plain_progress)

-- what holds of one, and of it changed, holds of each
pub held : {X : Type 0} (P : X → Type 0) (g : X → X) (r s : ℕ) (o : Option X) (d : X) → (s ≡ r → P (unwrap_or o d) → P (g (unwrap_or o d))) → P (unwrap_or o d) → P (unwrap_or (option_map (change_at r g s) o) d)
held P g r s None d more h = h
held {X} P g r s (Some x) d more h = by (s == r) refl more h
  where
    by : (b : Bool) → (s == r) ≡ b → (s ≡ r → P x → P (g x)) → P x → P (if b then g x else x)
    by true e more h = more (eqb-true s r e) h
    by false e more h = h

module _ (p : PlainView) (r : ℕ) (g : PlainProgress → PlainProgress) where
  abbrev pub with_change : PlainView
  with_change = record p { replicas = map_from (change_at r g) 0 p.replicas }

  pub each_held : (P : PlainProgress → Type 0) → (P (plain_replica_in p.replicas r) → P (g (plain_replica_in p.replicas r))) → (s : ℕ) → P (plain_replica_in p.replicas s) → P (plain_replica_in with_change.replicas s)
  each_held P more s h =
      subst (λ o. P (unwrap_or o idle_progress)) (sym (got_from (change_at r g) 0 s s p.replicas (omega arith)))
      (held P g r s (slice_get p.replicas s) idle_progress (λ same. subst (λ k. P (plain_replica_in p.replicas k) → P (g (plain_replica_in p.replicas k))) (sym same) more) h)

  pub kept_change : IsKept p → (IsCounted p.txns p.log (plain_replica_in p.replicas r) → IsCounted p.txns p.log (g (plain_replica_in p.replicas r))) → IsKept with_change
  kept_change kept more = record { opened = kept.opened; counted = λ s h. each_held (IsCounted p.txns p.log) more s (kept.counted s (subst (λ n. s < n) (length_from (change_at r g) 0 p.replicas) h)) }

  pub places_change : ArePlaces p → (AreTold p.replies (plain_replica_in p.replicas r).attempts → AreTold p.replies (g (plain_replica_in p.replicas r)).attempts) → ArePlaces with_change
  places_change places more = record { told = λ s. each_held (λ q. AreTold p.replies q.attempts) more s (places.told s); given = places.given }

  module _ (k : Progress → Progress) where
    changed_by : (b : Bool) (n : ℕ) (q : PlainProgress) → (n == r) ≡ b → (n ≡ r → seen_replica p.replies p.fresh n (g q) ≡ k (seen_replica p.replies p.fresh n q))
        → seen_replica p.replies p.fresh n (if b then g q else q) ≡ (if b then k (seen_replica p.replies p.fresh n q) else seen_replica p.replies p.fresh n q)
    changed_by true n q e same = same (eqb-true n r e)
    changed_by false n q e same = refl

    replicas_changed : (n : ℕ) (qs : List PlainProgress) → ((i : ℕ) (q : PlainProgress) → r ≡ n + i → slice_get qs i ≡ Some q → seen_replica p.replies p.fresh r (g q) ≡ k (seen_replica p.replies p.fresh r q))
        → seen_replicas p.replies p.fresh n (map_from (change_at r g) n qs) ≡ map_from (change_at r k) n (seen_replicas p.replies p.fresh n qs)
    replicas_changed n [] same = refl
    replicas_changed n (q ∷ qs) same = λ i.
        changed_by (n == r) n q refl (λ e. subst (λ m. seen_replica p.replies p.fresh m (g q) ≡ k (seen_replica p.replies p.fresh m q)) (sym e) (same 0 q (omega (arith, e)) refl)) i
        ∷ replicas_changed (n + 1) qs (λ j x e at. same (suc j) x (omega (arith, e)) at) i

    pub seen_change : (seen_replica p.replies p.fresh r (g (plain_replica_in p.replicas r)) ≡ k (seen_replica p.replies p.fresh r (plain_replica_in p.replicas r))) → seen_plain with_change ≡ with_replica r k (seen_plain p)
    seen_change same = ap (λ rs. record (seen_plain p) { replicas = rs }) (replicas_changed 0 p.replicas (λ i q e at.
        subst (λ (x : PlainProgress). seen_replica p.replies p.fresh r (g x) ≡ k (seen_replica p.replies p.fresh r x)) (ap (λ o. unwrap_or o idle_progress) (ap (slice_get p.replicas) (zeroed e) ∙ at)) same))
      where
        zeroed : {i : ℕ} → r ≡ 0 + i → r ≡ i
        zeroed e = omega (arith, e)
