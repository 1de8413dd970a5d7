-- A replica is given a job.
use Rattle.std.proofs.Common.{◌≡◌, ℕ, Bool, true, false, ◌||◌, ◌==◌, nat_eq, cond, if◌then◌else◌, Option, Some, None, is_some, unwrap_or, List, [], ◌∷◌, ◌++◌, map, length, refl, ap, sym, ◌∙◌, arith}
use Rattle.std.specs.Map.{lookup}
use Rattle.std.proofs.lemmas.List.{length-append, length-map}
use Rattle.hr_base.specs.Lists.{has, one_to}
use Rattle.hr_base.proofs.Tests.{or_false}
use Rattle.hr_engine.specs.declared.reply.RunReply.{RunReply}
use Rattle.hr_history.specs.declared.job.Job.{Job}
use Rattle.hr_history.specs.declared.job.Job.TheVariants as job
use Rattle.hr_history.specs.Attempts.{and_dispatched}
use Rattle.hr_history.specs.View.{View, Progress}
use Rattle.hr_history.specs.Processed.{replica_in, no_attempt, is_logged_by}
use Rattle.hr_history.specs.Jobs.{job_in}
use Rattle.hr_moves.specs.Moves as moves
use Rattle.hr_progress.specs.Plain.{PlainTxn, PlainAttempt, PlainProgress, key, idle_attempt, plain_txn_in, plain_attempt_in, and_entry, with_run}
use Rattle.hr_progress.specs.Seen.{began_before, runs_since, seen_attempt, seen_entry, seen_replica}
use Rattle.hr_progress.specs.Kept.{is_run, AreTold, IsCounted}
use Rattle.hr_progress.proofs.Attempts.{keys_seen}
use Rattle.hr_progress.proofs.Entries.{is_none}
use Rattle.hr_progress.proofs.Numbers.{filter_same_test, take_while_agree}
use Rattle.hr_progress.proofs.Preempts.{last_runs}
use Rattle.hr_progress.proofs.Rests.{idle_told}

-- ---- what its entry changes

end_same : (t u : ℕ) (es : List (ℕ × PlainAttempt)) → plain_attempt_in (es ++ (t, idle_attempt) ∷ []) u ≡ plain_attempt_in es u
end_same t u [] = by (nat_eq u t)
  where
    by : (b : Bool) → unwrap_or (cond b (Some idle_attempt) None) idle_attempt ≡ idle_attempt
    by true = refl
    by false = refl
end_same t u (e ∷ es) = by (nat_eq u e.0) (end_same t u es)
  where
    by : (b : Bool) → plain_attempt_in (es ++ (t, idle_attempt) ∷ []) u ≡ plain_attempt_in es u → unwrap_or (cond b (Some e.1) (lookup (nat_eq u) (es ++ (t, idle_attempt) ∷ []))) idle_attempt ≡ unwrap_or (cond b (Some e.1) (lookup (nat_eq u) es)) idle_attempt
    by true rest = refl
    by false rest = rest

same_by : (b : Bool) (t u : ℕ) (es : List (ℕ × PlainAttempt)) → plain_attempt_in (cond b es (es ++ (t, idle_attempt) ∷ [])) u ≡ plain_attempt_in es u
same_by true t u es = refl
same_by false t u es = end_same t u es

attempt_same : (t u : ℕ) (es : List (ℕ × PlainAttempt)) → plain_attempt_in (and_entry t es) u ≡ plain_attempt_in es u
attempt_same t u es = same_by (has (map key es) t) t u es

seen_end : (replies : List RunReply) (r t : ℕ) (all es : List (ℕ × PlainAttempt)) → map (seen_entry replies None r all) (es ++ (t, idle_attempt) ∷ []) ≡ map (seen_entry replies None r all) es ++ (t, no_attempt) ∷ []
seen_end replies r t all [] = refl
seen_end replies r t all (e ∷ es) = ap (λ xs. seen_entry replies None r all e ∷ xs) (seen_end replies r t all es)

seen_by : (replies : List RunReply) (r t : ℕ) (b : Bool) (all es : List (ℕ × PlainAttempt)) → map (seen_entry replies None r all) (cond b es (es ++ (t, idle_attempt) ∷ [])) ≡ cond b (map (seen_entry replies None r all) es) (map (seen_entry replies None r all) es ++ (t, no_attempt) ∷ [])
seen_by replies r t true all es = refl
seen_by replies r t false all es = seen_end replies r t all es

seen_same : (replies : List RunReply) (r : ℕ) (all now gs : List (ℕ × PlainAttempt)) → ((place u : ℕ) → runs_since all place u ≡ runs_since now place u) → map (seen_entry replies None r all) gs ≡ map (seen_entry replies None r now) gs
seen_same replies r all now [] same = refl
seen_same replies r all now (g ∷ gs) same = λ i. (g.0, record (seen_attempt replies false now g.1) { last = last_runs replies false all now same g.1.last i }) ∷ seen_same replies r all now gs same i

pub seen_run : (replies : List RunReply) (r t i : ℕ) (q : PlainProgress) → seen_replica replies None r (with_run t i q) ≡ moves.with_job (job.Run t i) (seen_replica replies None r q)
seen_run replies r t i q = λ k. record (seen_replica replies None r q) { out = Some (job.Run t i); attempts = entries k }
  where
    entries : map (seen_entry replies None r (and_entry t q.attempts)) (and_entry t q.attempts) ≡ moves.and_entry t (map (seen_entry replies None r q.attempts) q.attempts)
    entries =
        seen_same replies r (and_entry t q.attempts) q.attempts (and_entry t q.attempts) (λ place u. ap (began_before place) (attempt_same t u q.attempts))
        ∙ seen_by replies r t (has (map key q.attempts) t) q.attempts q.attempts
        ∙ ap (λ ks. cond (has ks t) (map (seen_entry replies None r q.attempts) q.attempts) (map (seen_entry replies None r q.attempts) q.attempts ++ (t, no_attempt) ∷ [])) (sym (keys_seen replies None r q.attempts q.attempts))

pub counted_run : (txns : List PlainTxn) (log : List ℕ) (t i : ℕ) (q : PlainProgress) → IsCounted txns log q → IsCounted txns log (with_run t i q)
counted_run txns log t i q counted = record {
  touched = counted.touched ∙ filter_same_test _ _ (one_to (length txns)) (λ u. ap (λ (a : PlainAttempt). a.touched) (sym (attempt_same t u q.attempts)));
  processed = counted.processed ∙ ap length (take_while_agree _ _ log (λ u m.
      ap (λ (a : PlainAttempt). is_logged_by q.position (plain_txn_in txns u).phase || (length a.answers == (plain_txn_in txns u).statements)) (sym (attempt_same t u q.attempts))));
}

told_end : (replies : List RunReply) (t : ℕ) (es : List (ℕ × PlainAttempt)) → AreTold replies es → AreTold replies (es ++ (t, idle_attempt) ∷ [])
told_end replies t [] told = (idle_told replies, tt)
told_end replies t (e ∷ es) told = (told.0, told_end replies t es told.1)

told_by : (replies : List RunReply) (t : ℕ) (b : Bool) (es : List (ℕ × PlainAttempt)) → AreTold replies es → AreTold replies (cond b es (es ++ (t, idle_attempt) ∷ []))
told_by replies t true es told = told
told_by replies t false es told = told_end replies t es told

pub told_run : (replies : List RunReply) (t : ℕ) (es : List (ℕ × PlainAttempt)) → AreTold replies es → AreTold replies (and_entry t es)
told_run replies t es told = told_by replies t (has (map key es) t) es told

long_by : (b : Bool) (t : ℕ) (es : List (ℕ × PlainAttempt)) → length (cond b es (es ++ (t, idle_attempt) ∷ [])) ≡ length (cond b (map key es) (map key es ++ t ∷ []))
long_by true t es = sym (length-map es key)
long_by false t es = omega (arith, length-append es ((t, idle_attempt) ∷ []), length-append (map key es) (t ∷ []), length-map es key)

-- as many have an entry then
pub long_run : (t : ℕ) (es : List (ℕ × PlainAttempt)) → length (and_entry t es) ≡ length (and_dispatched t (map key es))
long_run t es = long_by (has (map key es) t) t es

-- ---- another job

pub other_job : (j : Job) → is_run (Some j) ≡ false → (x : Progress) → record x { out = Some j } ≡ moves.with_job j x
other_job (job.Run t i) e x = cc
other_job (job.Commit t) e x = refl
other_job (job.Rollback t) e x = refl
other_job job.Restart e x = refl

-- ---- no job was out

none_if : {X : Type 0} (b : Bool) (x : Option X) (j : X) → (if b then None else x) ≡ Some j → b ≡ false
none_if true x j e = cc
none_if false x j e = refl

pub free_before : (v : View) (r : ℕ) (j : Job) → job_in v r ≡ Some j → (replica_in v r).out ≡ None
free_before v r j e = is_none (replica_in v r).out ((or_false (replica_in v r).convicted (is_some (replica_in v r).out) (none_if ((replica_in v r).convicted || is_some (replica_in v r).out) _ j e)).1)
