-- The job of a replica is its by the rule for such jobs.
use Rattle.std.proofs.Common.{◌≡◌, inl, inr, ℕ, Bool, true, false, ◌||◌, ◌&&◌, cond, Option, Some, None, is_some, option_map, find, filter, [], ◌∷◌, refl, sym}
use Rattle.std.proofs.lemmas.Bool.{or_parts}
use Rattle.hr_base.specs.Lists.{first_some, when}
use Rattle.hr_base.proofs.ListLaws.{has-filter}
use Rattle.hr_history.specs.declared.job.Job.{Job}
use Rattle.hr_history.specs.declared.job.Job.TheVariants as job
use Rattle.hr_history.specs.SameAnswers.{same_answers}
use Rattle.hr_history.specs.View.{View}
use Rattle.hr_history.specs.Processed.{replica_in, answers_in, given_in, is_whole, is_primary}
use Rattle.hr_history.specs.Ranks.{ranks_before, first_in_rank}
use Rattle.hr_history.specs.Jobs.{txn_numbers, is_to_roll_back, rollback_job, next_in_log, commit_job, next_index, may_repeat, pending_index, may_run_first, run_job, job_in}
use Rattle.hr_records.specs.ByRule.{IsTxn, IsByRule, IsJobOf}
use Rattle.hr_records.proofs.Options.{On, some_none, on_some, when_on, first_on, then_on, map_on, find_has, first_by_has}
use Rattle.hr_records.proofs.RuleLemmas.{txn_has}

module _ (v : View) (r : ℕ) where
  abbrev P : Job → Type 0
  P j = IsByRule v r j

  module _ (here : (replica_in v r).lost ≡ false) where
    by_rollback : On P (rollback_job v r)
    by_rollback = map_on P (λ t. job.Rollback t) (find (is_to_roll_back v r) (txn_numbers v)) (λ t found.
        let it = find_has (is_to_roll_back v r) (txn_numbers v) t found in (here, txn_has v t it.0, it.1))

    by_commit : On P (commit_job v r)
    by_commit = then_on P (λ t. when (is_whole v r t && same_answers (answers_in v r t) (given_in v t)) (job.Commit t)) (next_in_log v r) (λ t next.
        when_on P (is_whole v r t && same_answers (answers_in v r t) (given_in v t)) (job.Commit t) (λ both. (here, next, both)))

    ranked : (p : ℕ → Bool) (t : ℕ) → first_in_rank v (filter p (txn_numbers v)) ≡ Some t → IsTxn v t × (p t ≡ true)
    ranked p t first = let kept = has-filter p (txn_numbers v) t (first_by_has (ranks_before v) (filter p (txn_numbers v)) t first) in (txn_has v t kept.1, kept.0)

    by_run : On P (run_job v r)
    by_run = of_place (is_primary v r) refl
      where
        of_place : (b : Bool) → is_primary v r ≡ b
            → On P (cond b (option_map (λ t. job.Run t (pending_index v r t)) (first_in_rank v (filter (may_run_first v r) (txn_numbers v)))) (option_map (λ t. job.Run t (next_index v r t)) (first_in_rank v (filter (may_repeat v r) (txn_numbers v)))))
        of_place true e = map_on P (λ t. job.Run t (pending_index v r t)) (first_in_rank v (filter (may_run_first v r) (txn_numbers v))) (λ t first.
            let it = ranked (may_run_first v r) t first in (here, it.0, inl (e, it.1, refl)))
        of_place false e = map_on P (λ t. job.Run t (next_index v r t)) (first_in_rank v (filter (may_repeat v r) (txn_numbers v))) (λ t first.
            let it = ranked (may_repeat v r) t first in (here, it.0, inr (e, it.1, refl)))

    by_first : On P (first_some (rollback_job v r ∷ commit_job v r ∷ run_job v r ∷ []))
    by_first = first_on P (rollback_job v r) _ by_rollback (λ a. first_on P (commit_job v r) _ by_commit (λ b. first_on P (run_job v r) [] by_run (λ c. tt)))

  none_of : (o : Option Job) → is_some o ≡ false → o ≡ None
  none_of None h = refl
  none_of (Some j) h = cc

  pub job_rule : (j : Job) → job_in v r ≡ Some j → IsJobOf v r j
  job_rule j e = of_guard ((replica_in v r).convicted || is_some (replica_in v r).out) refl e
    where
      of_loss : (b : Bool) → (replica_in v r).lost ≡ b → cond b (Some job.Restart) (first_some (rollback_job v r ∷ commit_job v r ∷ run_job v r ∷ [])) ≡ Some j → IsByRule v r j
      of_loss true lost e = on_some P (Some job.Restart) j e lost
      of_loss false here e = on_some P (first_some (rollback_job v r ∷ commit_job v r ∷ run_job v r ∷ [])) j e (by_first here)

      of_guard : (b : Bool) → ((replica_in v r).convicted || is_some (replica_in v r).out) ≡ b
          → cond b None (cond (replica_in v r).lost (Some job.Restart) (first_some (rollback_job v r ∷ commit_job v r ∷ run_job v r ∷ []))) ≡ Some j → IsJobOf v r j
      of_guard true barred e = absurd (some_none j (sym e))
      of_guard false may e =
          let parts = or_parts (replica_in v r).convicted (is_some (replica_in v r).out) may in
          record { unconvicted = parts.0; free = none_of (replica_in v r).out parts.1; rule = of_loss (replica_in v r).lost refl e }
