-- The turn is over: what its reply told of waits is cut to those that run.
use Rattle.std.proofs.Common.{◌≡◌, ℕ, suc, ◌+◌, ◌<◌, ◌≤◌, Bool, true, false, not, ◌&&◌, ◌==◌, nat_eq, nat_lt, cond, if◌then◌else◌, Option, Some, None, unwrap_or, List, [], ◌∷◌, map, length, slice_get, refl, ap, sym, ◌∙◌, subst, arith}
use Rattle.std.specs.Map.{lookup}
use Rattle.std.proofs.lemmas.Bool.{eqb-true, eq-eqb, ltb-true, lt-ltb}
use Rattle.std.proofs.lemmas.Option.{slice_get_past}
use Rattle.hr_base.specs.Lists.{is_empty}
use Rattle.hr_engine.specs.declared.reply.RunReply.{RunReply}
use Rattle.hr_engine.specs.declared.reply.RunReply.TheVariants as run
use Rattle.hr_history.specs.View.{Attempt, is_fresh}
use Rattle.hr_history.specs.Processed.{runs_in}
use Rattle.hr_moves.specs.Changes.{map_from, with_attempts}
use Rattle.hr_moves.specs.Sane.{cut_to}
use Rattle.hr_moves.specs.Moves.{rest_attempt, rested}
use Rattle.hr_progress.specs.Plain.{PlainAttempt, PlainProgress, PlainView, idle_progress, idle_attempt, plain_attempt_in, plain_replica_in}
use Rattle.hr_progress.specs.Seen.{waits_at, runs_since, seen_last, seen_attempt, seen_entry, seen_replica, seen_replicas, seen_plain}
use Rattle.hr_progress.specs.Kept.{is_answer, is_wait, IsTold, AreTold, ArePlaces}
use Rattle.hr_progress.proofs.Cuts.{cut_within}
use Rattle.hr_progress.proofs.Parts.{attempt_seen}

empty_map : {X Y : Type 0} (h : X → Y) (xs : List X) → is_empty (map h xs) ≡ is_empty xs
empty_map h [] = refl
empty_map h (x ∷ xs) = refl

never : {b : Bool} → b ≡ true → b ≡ false → ⊥
never e d = cc

-- an answer and a list of those waited for don't stand at one place
answer_or_wait : (o : Option RunReply) → is_answer o ≡ true → is_wait o ≡ true → ⊥
answer_or_wait None a w = never a refl
answer_or_wait (Some (run.Done x)) a w = never w refl
answer_or_wait (Some (run.Blocked x)) a w = never a refl
answer_or_wait (Some (run.Deadlock x)) a w = never a refl
answer_or_wait (Some run.Lost) a w = never a refl
answer_or_wait (Some run.NoMemory) a w = never a refl

pub le_or : (a b : ℕ) → (b ≤ a → ⊥) → a < b
le_or a b h = by (nat_lt a b) refl
  where
    by : (c : Bool) → nat_lt a b ≡ c → a < b
    by true e = ltb-true a b e
    by false e = absurd (h (omega (arith, λ (l : a < b). never (lt-ltb a b l) e)))

answer_within : (replies : List RunReply) (place : ℕ) → is_answer (slice_get replies place) ≡ true → place < length replies
answer_within replies place a = le_or place (length replies) (λ past. never a (ap is_answer (slice_get_past replies place past)))

-- an attempt that runs began before the newest reply, where that tells of waits
began_early : (replies : List RunReply) (began place : ℕ) → is_answer (slice_get replies began) ≡ true → is_wait (slice_get replies place) ≡ true → place + 1 ≡ length replies → nat_lt began place ≡ true
began_early replies began place a w newest = by (nat_eq began place) refl
  where
    within : began < length replies
    within = answer_within replies began a

    by : (b : Bool) → nat_eq began place ≡ b → nat_lt began place ≡ true
    by true e = absurd (answer_or_wait (slice_get replies place) (ap (λ k. is_answer (slice_get replies k)) (sym (eqb-true began place e)) ∙ a) w)
    by false e = lt-ltb began place (le_or began place (λ past. apart (omega (arith, past, newest, within)) e))
      where
        apart : began ≡ place → nat_eq began place ≡ false → ⊥
        apart same d = never (eq-eqb began place same) d

pub idle_told : (replies : List RunReply) → IsTold replies idle_attempt
idle_told replies = record { answers = tt; began = λ e. absurd (never refl e); last = λ place e. absurd (no_place e) }
  where
    no_place : {place : ℕ} → None ≡ Some place → ⊥
    no_place e = cc

told_by : (replies : List RunReply) (b : Bool) (u : ℕ) (e : ℕ × PlainAttempt) (es : List (ℕ × PlainAttempt)) → nat_eq u e.0 ≡ b → IsTold replies e.1 → IsTold replies (unwrap_or (lookup (nat_eq u) es) idle_attempt)
    → IsTold replies (unwrap_or (cond b (Some e.1) (lookup (nat_eq u) es)) idle_attempt)
told_by replies true u e es same here there = here
told_by replies false u e es same here there = there

pub told_at : (replies : List RunReply) (es : List (ℕ × PlainAttempt)) → AreTold replies es → (u : ℕ) → IsTold replies (plain_attempt_in es u)
told_at replies [] told u = idle_told replies
told_at replies (e ∷ es) told u = told_by replies (nat_eq u e.0) u e es refl told.0 (told_at replies es told.1 u)

and_if : (a b : Bool) → (a ≡ true → b ≡ true) → a ≡ (a && b)
and_if true b h = sym (h refl)
and_if false b h = refl

pub first_of : (a b : Bool) → (a && b) ≡ true → a ≡ true
first_of true b h = refl
first_of false b h = h

not_true : (a : Bool) → not a ≡ true → a ≡ false
not_true true h = cc
not_true false h = refl

module _ (p : PlainView) (places : ArePlaces p) where
  abbrev pub rest : PlainView
  rest = record p { fresh = None }

  module _ (r : ℕ) where
    abbrev entries : List (ℕ × PlainAttempt)
    entries = (plain_replica_in p.replicas r).attempts

    pub runs_seen : (u : ℕ) → runs_in (seen_plain p) r u ≡ not (is_empty (plain_attempt_in entries u).answers)
    runs_seen u = ap (λ (x : Attempt). not (is_empty x.answers)) (attempt_seen p r u) ∙ ap not (empty_map _ (plain_attempt_in entries u).answers)

    module _ (place : ℕ) (waits : is_wait (slice_get p.replies place) ≡ true) where
      pub newest : place + 1 ≡ length p.replies → (u : ℕ) → runs_in (seen_plain p) r u ≡ runs_since entries place u
      newest e u =
          let told = told_at p.replies entries (places.told r) u in
          runs_seen u ∙ and_if (not (is_empty (plain_attempt_in entries u).answers)) (nat_lt (plain_attempt_in entries u).began place)
          (λ runs. began_early p.replies (plain_attempt_in entries u).began place (told.began (not_true (is_empty (plain_attempt_in entries u).answers) runs)) waits e)

      last_by : (b : Bool) → (place + 1 == length p.replies) ≡ b
          → cut_to (runs_in (seen_plain p) r) (if b then waits_at p.replies place else cut_to (runs_since entries place) (waits_at p.replies place))
          ≡ cut_to (runs_since entries place) (waits_at p.replies place)
      last_by true e = λ i. cut_to (λ u. newest (eqb-true (place + 1) (length p.replies) e) u i) (waits_at p.replies place)
      last_by false e = cut_within (runs_in (seen_plain p) r) (runs_since entries place) (waits_at p.replies place) (λ u runs. runs_seen u ∙ first_of _ _ runs)

    last_rest : (a : PlainAttempt) (last : Option ℕ) → a.last ≡ last → IsTold p.replies a → cut_to (runs_in (seen_plain p) r) (seen_last p.replies true entries last) ≡ seen_last p.replies false entries last
    last_rest a None e told = refl
    last_rest a (Some place) e told = last_by place (told.last place e) (place + 1 == length p.replies) refl

    attempt_by : (b : Bool) (a : PlainAttempt) → IsTold p.replies a
        → (if b then record (seen_attempt p.replies b entries a) { last = cut_to (runs_in (seen_plain p) r) (seen_last p.replies b entries a.last) } else seen_attempt p.replies b entries a) ≡ seen_attempt p.replies false entries a
    attempt_by true a told = λ i. record (seen_attempt p.replies false entries a) { last = last_rest a a.last refl told i }
    attempt_by false a told = refl

    entries_rest : (es : List (ℕ × PlainAttempt)) → AreTold p.replies es
        → map (λ (entry : ℕ × Attempt). (entry.0, rest_attempt (seen_plain p) r entry.0 entry.1)) (map (seen_entry p.replies p.fresh r entries) es) ≡ map (seen_entry p.replies None r entries) es
    entries_rest [] told = refl
    entries_rest (e ∷ es) told = λ i. (e.0, attempt_by (is_fresh p.fresh r e.0) e.1 told.0 i) ∷ entries_rest es told.1 i

    replica_rest : with_attempts (rest_attempt (seen_plain p) r) (seen_replica p.replies p.fresh r (plain_replica_in p.replicas r)) ≡ seen_replica p.replies None r (plain_replica_in p.replicas r)
    replica_rest = λ i. record (seen_replica p.replies None r (plain_replica_in p.replicas r)) { attempts = entries_rest entries (places.told r) i }

  replicas_rest : (n : ℕ) (ps : List PlainProgress) → ((i j : ℕ) (q : PlainProgress) → j ≡ n + i → slice_get ps i ≡ Some q → plain_replica_in p.replicas j ≡ q)
      → seen_replicas p.replies None n ps ≡ map_from (λ r x. with_attempts (rest_attempt (seen_plain p) r) x) n (seen_replicas p.replies p.fresh n ps)
  replicas_rest n [] at = refl
  replicas_rest n (q ∷ ps) at = λ i.
      sym (subst (λ x. with_attempts (rest_attempt (seen_plain p) n) (seen_replica p.replies p.fresh n x) ≡ seen_replica p.replies None n x) (at 0 n q (omega arith) refl) (replica_rest n)) i
      ∷ replicas_rest (n + 1) ps (λ k j x e. at (suc k) j x (omega (arith, e))) i

  pub seen_rest : seen_plain rest ≡ rested (seen_plain p)
  seen_rest = ap (λ rs. record (seen_plain p) { replicas = rs; fresh = None }) (replicas_rest 0 p.replicas (λ i j q e got. ap (λ o. unwrap_or o idle_progress) (ap (slice_get p.replicas) (plain_index e) ∙ got)))
    where
      plain_index : {i j : ℕ} → j ≡ 0 + i → j ≡ i
      plain_index e = omega (arith, e)
