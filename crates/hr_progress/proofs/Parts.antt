-- What is seen of one replica, of one attempt, and of one transaction.
use Rattle.std.proofs.Common.{◌≡◌, ℕ, zero, suc, ◌+◌, Bool, true, false, nat_eq, cond, Option, Some, None, unwrap_or, List, [], ◌∷◌, map, length, slice_get, refl, ap, sym, ◌∙◌, arith}
use Rattle.std.specs.Map.{lookup}
use Rattle.std.specs.Option.{option_map}
use Rattle.std.proofs.lemmas.Bool.{eqb-true}
use Rattle.hr_base.specs.Lists.{numbered}
use Rattle.hr_engine.specs.declared.reply.RunReply.{RunReply}
use Rattle.hr_history.specs.declared.phase.Fresh.{Fresh}
use Rattle.hr_history.specs.View.{Progress, is_fresh}
use Rattle.hr_history.specs.Processed.{txn_in, replica_in, attempt_in, unknown_txn, idle_replica, no_attempt}
use Rattle.hr_progress.specs.Plain.{PlainProgress, PlainView, idle_progress, idle_attempt, no_txn, plain_txn_in, plain_replica_in, plain_attempt_in}
use Rattle.hr_progress.specs.Seen.{seen_txn, seen_attempt, seen_replica, seen_replicas, seen_plain}

-- a look-up in entries whose values are changed by their keys
module _ {X Y : Type 0} (h : ℕ → X → Y) where
  found : (b : Bool) (u : ℕ) (e : ℕ × X) (es : List (ℕ × X)) → nat_eq u e.0 ≡ b → lookup (nat_eq u) (map (λ (p : ℕ × X). (p.0, h p.0 p.1)) es) ≡ option_map (h u) (lookup (nat_eq u) es)
      → cond b (Some (h e.0 e.1)) (lookup (nat_eq u) (map (λ (p : ℕ × X). (p.0, h p.0 p.1)) es)) ≡ option_map (h u) (cond b (Some e.1) (lookup (nat_eq u) es))
  found true u e es same ih = ap (λ k. Some (h k e.1)) (sym (eqb-true u e.0 same))
  found false u e es same ih = ih

  pub lookup_map : (u : ℕ) (es : List (ℕ × X)) → lookup (nat_eq u) (map (λ (p : ℕ × X). (p.0, h p.0 p.1)) es) ≡ option_map (h u) (lookup (nat_eq u) es)
  lookup_map u [] = refl
  lookup_map u (e ∷ es) = found (nat_eq u e.0) u e es refl (lookup_map u es)

pub unwrap_map : {X Y : Type 0} (h : X → Y) (o : Option X) (x : X) (y : Y) → h x ≡ y → unwrap_or (option_map h o) y ≡ h (unwrap_or o x)
unwrap_map h None x y e = sym e
unwrap_map h (Some z) x y e = refl

pub got_map : {X Y : Type 0} (h : X → Y) (xs : List X) (i : ℕ) → slice_get (map h xs) i ≡ option_map h (slice_get xs i)
got_map h [] i = refl
got_map h (x ∷ xs) zero = refl
got_map h (x ∷ xs) (suc i) = got_map h xs i

pub numbered_map : {X Y : Type 0} (h : X → Y) (xs : List X) (t : ℕ) → numbered (map h xs) t ≡ option_map h (numbered xs t)
numbered_map h xs zero = refl
numbered_map h xs (suc n) = got_map h xs n

module _ (replies : List RunReply) (fresh : Option Fresh) where
  pub got_seen : (ps : List PlainProgress) (n i j : ℕ) → j ≡ n + i → slice_get (seen_replicas replies fresh n ps) i ≡ option_map (seen_replica replies fresh j) (slice_get ps i)
  got_seen [] n i j e = refl
  got_seen (p ∷ ps) n zero j e = let same : n ≡ j = omega (arith, e) in ap (λ k. Some (seen_replica replies fresh k p)) same
  got_seen (p ∷ ps) n (suc i) j e = got_seen ps (n + 1) i j (omega (arith, e))

  pub length_seen : (n : ℕ) (ps : List PlainProgress) → length (seen_replicas replies fresh n ps) ≡ length ps
  length_seen n [] = refl
  length_seen n (p ∷ ps) = ap (λ k. suc k) (length_seen (n + 1) ps)

module _ (p : PlainView) where
  pub txn_seen : (t : ℕ) → txn_in (seen_plain p) t ≡ seen_txn p.replies (plain_txn_in p.txns t)
  txn_seen t = ap (λ o. unwrap_or o unknown_txn) (numbered_map (seen_txn p.replies) p.txns t) ∙ unwrap_map (seen_txn p.replies) (numbered p.txns t) no_txn unknown_txn refl

  pub replica_seen : (r : ℕ) → replica_in (seen_plain p) r ≡ seen_replica p.replies p.fresh r (plain_replica_in p.replicas r)
  replica_seen r = ap (λ o. unwrap_or o idle_replica) (got_seen p.replies p.fresh p.replicas 0 r r (omega arith)) ∙ unwrap_map (seen_replica p.replies p.fresh r) (slice_get p.replicas r) idle_progress idle_replica refl

  pub attempt_seen : (r t : ℕ) → attempt_in (seen_plain p) r t
      ≡ seen_attempt p.replies (is_fresh p.fresh r t) (plain_replica_in p.replicas r).attempts (plain_attempt_in (plain_replica_in p.replicas r).attempts t)
  attempt_seen r t =
      let q = plain_replica_in p.replicas r in
      ap (λ (x : Progress). unwrap_or (lookup (nat_eq t) x.attempts) no_attempt) (replica_seen r)
      ∙ ap (λ o. unwrap_or o no_attempt) (lookup_map (λ k a. seen_attempt p.replies (is_fresh p.fresh r k) q.attempts a) t q.attempts)
      ∙ unwrap_map (seen_attempt p.replies (is_fresh p.fresh r t) q.attempts) (lookup (nat_eq t) q.attempts) idle_attempt no_attempt refl
