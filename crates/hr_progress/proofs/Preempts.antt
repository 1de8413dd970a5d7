-- A transaction is preempted.
use Rattle.std.proofs.Common.{◌≡◌, ℕ, ◌+◌, ◌&&◌, ◌==◌, if◌then◌else◌, Bool, true, Option, Some, None, List, map, length, refl, ◌∙◌}
use Rattle.hr_base.specs.Lists.{is_distinct}
use Rattle.hr_engine.specs.declared.reply.RunReply.{RunReply}
use Rattle.hr_history.specs.declared.phase.Fresh.{Fresh}
use Rattle.hr_history.specs.View.{Attempt, is_fresh}
use Rattle.hr_moves.specs.Changes.{change_at, with_attempt}
use Rattle.hr_moves.specs.Sane.{cut_to}
use Rattle.hr_progress.specs.Plain.{PlainTxn, PlainAttempt, PlainProgress, with_entry, to_preempted, with_preempted}
use Rattle.hr_progress.specs.Seen.{waits_at, began_before, runs_since, seen_last, seen_attempt, seen_entry, seen_replica}
use Rattle.hr_progress.specs.Kept.{IsCounted, AreTold}
use Rattle.hr_progress.proofs.Attempts.{entries_changed, told_entry, touched_entry, processed_entry, runs_entry}

-- what is seen of an attempt depends on who runs since when alone
pub last_runs : (replies : List RunReply) (fresh : Bool) (es fs : List (ℕ × PlainAttempt)) → ((place u : ℕ) → runs_since es place u ≡ runs_since fs place u) → (last : Option ℕ) → seen_last replies fresh es last ≡ seen_last replies fresh fs last
last_runs replies fresh es fs same None = refl
last_runs replies fresh es fs same (Some place) = λ i. if fresh && (place + 1 == length replies) then waits_at replies place else cut_to (λ u. same place u i) (waits_at replies place)

-- a change of one attempt, which leaves since when it runs, is seen as a change of what is seen of it
module _ (t : ℕ) (h : PlainAttempt → PlainAttempt) (k : Attempt → Attempt) (replies : List RunReply) (fresh : Option Fresh) (r : ℕ) where
  pub seen_entry_changed : (es : List (ℕ × PlainAttempt)) → is_distinct (map (λ (e : ℕ × PlainAttempt). e.0) es) ≡ true → ((place : ℕ) (a : PlainAttempt) → began_before place (h a) ≡ began_before place a)
      → ((a : PlainAttempt) → seen_attempt replies (is_fresh fresh r t) es (h a) ≡ k (seen_attempt replies (is_fresh fresh r t) es a))
      → map (seen_entry replies fresh r (with_entry t h es)) (with_entry t h es) ≡ map (λ (e : ℕ × Attempt). (e.0, change_at t k e.0 e.1)) (map (seen_entry replies fresh r es) es)
  seen_entry_changed es apart keeps change =
      (λ i. map (λ (e : ℕ × PlainAttempt). (e.0, record (seen_attempt replies (is_fresh fresh r e.0) es e.1) { last = last_runs replies (is_fresh fresh r e.0) (with_entry t h es) es (runs_entry t h keeps es) e.1.last i })) (with_entry t h es))
      ∙ entries_changed t h k (λ u a. seen_attempt replies (is_fresh fresh r u) es a) es apart change

module _ (t : ℕ) where
  pub seen_preempted : (replies : List RunReply) (fresh : Option Fresh) (r : ℕ) (q : PlainProgress) → is_distinct (map (λ (e : ℕ × PlainAttempt). e.0) q.attempts) ≡ true
      → seen_replica replies fresh r (with_preempted t q) ≡ with_attempt t (λ (a : Attempt). record a { preempted = true }) (seen_replica replies fresh r q)
  seen_preempted replies fresh r q apart = λ i. record (seen_replica replies fresh r q) { attempts = seen_entry_changed t to_preempted (λ (a : Attempt). record a { preempted = true }) replies fresh r q.attempts apart (λ place a. refl) (λ a. refl) i }

  pub counted_preempted : (txns : List PlainTxn) (log : List ℕ) (q : PlainProgress) → IsCounted txns log q → IsCounted txns log (with_preempted t q)
  counted_preempted txns log q counted = record {
    touched = counted.touched ∙ touched_entry t to_preempted (λ a. refl) (length txns) q.attempts;
    processed = counted.processed ∙ processed_entry t to_preempted (λ a. refl) txns log q.position q.attempts;
  }

  pub told_preempted : (replies : List RunReply) (q : PlainProgress) → AreTold replies q.attempts → AreTold replies (with_preempted t q).attempts
  told_preempted replies q told = told_entry t to_preempted replies (λ a h. record { answers = h.answers; began = h.began; last = h.last }) q.attempts told
