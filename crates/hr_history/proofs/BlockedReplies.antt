-- The test of a Blocked reply, by a view, is exact.
use Rattle.std.proofs.Common.{◌≡◌, ℕ, false, ◌==◌, nat_eq, cond, Some, None, unwrap_or, List, [], ◌∷◌, length, map, IsTrue, ◌↔◌, ap, ◌∙◌, refl, le_of_eq}
use Rattle.std.specs.Map.{lookup}
use Rattle.std.proofs.lemmas.List.{length-map}
use Rattle.hr_base.specs.Lists.{has}
use Rattle.hr_engine.specs.Waits.{IsSoundBlocked}
use Rattle.hr_history.specs.View.{View, Attempt}
use Rattle.hr_history.specs.Processed.{replica_in, runs_in, wait_in, no_attempt, named_in}
use Rattle.hr_history.specs.Evidence.{is_sound_blocked}
use Rattle.hr_base.proofs.Tests.{eq_turn, or_false}
use Rattle.hr_history.proofs.Chains.{sound_passes}
use Rattle.hr_history.proofs.Closure.{passes_sound}

lookup_none : (u : ℕ) (es : List (ℕ × Attempt)) → has (map (λ (e : ℕ × Attempt). e.0) es) u ≡ false → lookup (nat_eq u) es ≡ None
lookup_none u [] h = refl
lookup_none u (e ∷ es) h =
    let parts = or_false (e.0 == u) _ h in
    ap (λ b. cond b (Some e.1) (lookup (nat_eq u) es)) (eq_turn u e.0 ∙ parts.0) ∙ lookup_none u es parts.1

pub blocked_exact : (v : View) (r asker : ℕ) (named : List ℕ)
    → IsTrue (is_sound_blocked (runs_in v r) (wait_in v r) (length (replica_in v r).attempts) asker named) ↔ IsSoundBlocked (runs_in v r) (wait_in v r) asker named
blocked_exact v r asker named =
    let es = (replica_in v r).attempts in
    let only : (u : ℕ) → has (map (λ (e : ℕ × Attempt). e.0) es) u ≡ false → wait_in v r u ≡ [] =
    λ u h. ap (λ o. named_in (unwrap_or o no_attempt).last) (lookup_none u es h) in (
      λ passes. passes_sound (wait_in v r) (map (λ (e : ℕ × Attempt). e.0) es) only (runs_in v r) (length es) asker named (le_of_eq (length-map es _)) passes,
      λ sound. sound_passes (wait_in v r) (runs_in v r) (length es) asker named sound,
    )
