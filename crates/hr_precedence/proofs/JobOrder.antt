-- The order of a replica's jobs.
use Rattle.std.proofs.Common.{◌≡◌, inl, inr, ℕ, ◌+◌, ◌*◌, ◌<◌, Bool, true, false, ◌&&◌, ◌||◌, if◌then◌else◌, Option, Some, None, is_some, option_map, option_and_then, find, [], ◌∷◌, length, refl, ap, sym, ◌∙◌, arith}
use Rattle.hr_base.specs.Lists.{first_some, when}
use Rattle.hr_base.proofs.Tests.{or_first, or_second}
use Rattle.hr_history.specs.declared.job.Job.{Job}
use Rattle.hr_history.specs.declared.job.Job.TheVariants as job
use Rattle.hr_history.specs.History.{History}
use Rattle.hr_history.specs.SameAnswers.{same_answers}
use Rattle.hr_history.specs.Transactions.{begun, phase_of, is_ended}
use Rattle.hr_history.specs.Replicas.{journal_of}
use Rattle.hr_history.specs.Attempts.{is_touched}
use Rattle.hr_history.specs.View.{View, Progress, Attempt, view_of}
use Rattle.hr_history.specs.Processed.{phase_in, replica_in, attempt_in, answers_in, given_in, is_whole}
use Rattle.hr_history.specs.Jobs.{txn_numbers, is_to_roll_back, rollback_job, next_in_log, commit_job, run_job, job_in}
use Rattle.hr_history.proofs.StepLemmas.{replica_lookup}
use Rattle.hr_history.proofs.AttemptSteps.{attempt_lookup}
use Rattle.hr_records.specs.Numbers.{IsBorn}
use Rattle.hr_records.proofs.Options.{some_none, same_some, find_none, in_range}
use Rattle.hr_records.proofs.NumberSteps.{not_both}
use Rattle.hr_records.proofs.JobLemmas.{job_rule}
use Rattle.hr_records.proofs.ViewWords.{how_many, phase_seen, lost_seen, preempted_seen}
use Rattle.hr_precedence.specs.Ends.{IsFree, HasToEnd}

-- of a replica that can be given one
job_free : (v : View) (r : ℕ) → (replica_in v r).convicted ≡ false → (replica_in v r).out ≡ None → (replica_in v r).lost ≡ false
    → job_in v r ≡ first_some (rollback_job v r ∷ commit_job v r ∷ run_job v r ∷ [])
job_free v r unconvicted none live =
    λ i. if unconvicted i || is_some (none i) then None else (if live i then Some job.Restart else first_some (rollback_job v r ∷ commit_job v r ∷ run_job v r ∷ []))

module _ (f r t : ℕ) (h : History) (lt : r < 2 * f + 1) (free : IsFree r h) (born : IsBorn (length (begun h)) t) (touched : is_touched t (journal_of r h) ≡ true) (ends : HasToEnd r t h) where
  abbrev v : View
  v = view_of f h

  has_to : (is_ended (phase_in (view_of f h) t) || (attempt_in (view_of f h) r t).preempted) ≡ true
  has_to = by_case ends
    where
      ended : (is_ended (phase_of t h) ≡ true) → (is_ended (phase_in (view_of f h) t) || (attempt_in (view_of f h) r t).preempted) ≡ true
      ended e = or_first (is_ended (phase_in (view_of f h) t)) (attempt_in (view_of f h) r t).preempted (ap is_ended (phase_seen f t h born) ∙ e)

      by_case : HasToEnd r t h → (is_ended (phase_in (view_of f h) t) || (attempt_in (view_of f h) r t).preempted) ≡ true
      by_case (inl refused) = ended (ap is_ended refused)
      by_case (inr (inl rolled_back)) = ended (ap is_ended rolled_back)
      by_case (inr (inr preempted)) = or_second (is_ended (phase_in (view_of f h) t)) (attempt_in (view_of f h) r t).preempted (preempted_seen f r h lt t ∙ preempted)

  to_roll_back : is_to_roll_back (view_of f h) r t ≡ true
  to_roll_back = λ i. (ap (λ (a : Attempt). a.touched) (attempt_lookup f r t h lt) ∙ touched) i && has_to i

  by_find : (o : Option ℕ) → find (is_to_roll_back v r) (txn_numbers v) ≡ o → (u : ℕ) × (first_some (rollback_job v r ∷ commit_job v r ∷ run_job v r ∷ []) ≡ Some (job.Rollback u))
  by_find (Some u) e = (u, ap (λ o. first_some (option_map (λ n. job.Rollback n) o ∷ commit_job v r ∷ run_job v r ∷ [])) e)
  by_find None e =
      absurd (not_both (is_to_roll_back v r t) to_roll_back (find_none (is_to_roll_back v r) (txn_numbers v) e t (in_range 1 (length v.txns) t born.0 (omega (arith, born.1, how_many f h)))))

  pub rolls_back : (u : ℕ) × (job_in (view_of f h) r ≡ Some (job.Rollback u))
  rolls_back =
      let seen = replica_lookup f r h lt in
      let it = by_find (find (is_to_roll_back v r) (txn_numbers v)) refl in
      (it.0, job_free v r (ap (λ (p : Progress). p.convicted) seen ∙ free.unconvicted) (ap (λ (p : Progress). p.out) seen ∙ free.none_out) (lost_seen f r h lt ∙ free.not_lost) ∙ it.1)

-- A RUN
not_run : (o : Option ℕ) (t i : ℕ) → option_map (λ n. job.Rollback n) o ≡ Some (job.Run t i) → ⊥
not_run None t i e = some_none _ (sym e)
not_run (Some u) t i e = apart (same_some _ _ e)
  where
    apart : job.Rollback u ≡ job.Run t i → ⊥
    apart d = cc d

none_before : (a : Option ℕ) (b : Bool) (u t i : ℕ) (rest : Option Job) → first_some (option_map (λ n. job.Rollback n) a ∷ when b (job.Commit u) ∷ rest ∷ []) ≡ Some (job.Run t i) → b ≡ false
none_before (Some x) b u t i rest e = absurd (not_run (Some x) t i e)
none_before None false u t i rest e = refl
none_before None true u t i rest e = absurd (apart (same_some _ _ e))
  where
    apart : job.Commit u ≡ job.Run t i → ⊥
    apart d = cc d

pub no_commit : (v : View) (r t i u : ℕ) → job_in v r ≡ Some (job.Run t i) → next_in_log v r ≡ Some u → (is_whole v r u && same_answers (answers_in v r u) (given_in v u)) ≡ false
no_commit v r t i u is next =
    let rule = job_rule v r (job.Run t i) is in
    let listed = sym (job_free v r rule.unconvicted rule.free (rule.rule).0) ∙ is in
    none_before (find (is_to_roll_back v r) (txn_numbers v)) (is_whole v r u && same_answers (answers_in v r u) (given_in v u)) u t i (run_job v r)
    (ap (λ o. first_some (rollback_job v r ∷ option_and_then (λ x. when (is_whole v r x && same_answers (answers_in v r x) (given_in v x)) (job.Commit x)) o ∷ run_job v r ∷ [])) (sym next) ∙ listed)
