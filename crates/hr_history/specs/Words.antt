-- Words of judgement, of a history of 2f + 1 replicas: each is a formula over the history's view.
use Rattle.std.specs.Prelude.{ℕ, Option, IsTrue}
use Rattle.hr_history.specs.declared.evidence.Evidence.{Evidence}
use Rattle.hr_history.specs.declared.job.Job.{Job}
use Rattle.hr_history.specs.History.{History}
use Rattle.hr_history.specs.Turn.{turn_of}
use Rattle.hr_history.specs.View.{view_of}
use Rattle.hr_history.specs.Processed.{processed_in}
use Rattle.hr_history.specs.Votes.{is_ready, is_decidable, is_contradicted}
use Rattle.hr_history.specs.Jobs.{job_in}
use Rattle.hr_history.specs.Preemption as preemption
use Rattle.hr_history.specs.Evidence as evidence

module _ (f : ℕ) (h : History) where
  -- how many of the log, from its first on, are processed at a replica
  abbrev pub processed_of : ℕ → ℕ
  processed_of r = processed_in (view_of f h) r

  -- a replica is ready for a transaction
  abbrev pub IsReady : ℕ → ℕ → Type 0
  IsReady t r = IsTrue (is_ready (view_of f h) t r)

  -- a transaction may be decided
  abbrev pub IsDecidable : ℕ → Type 0
  IsDecidable t = IsTrue (is_decidable (view_of f h) t)

  -- a transaction's given answers are contradicted
  abbrev pub IsContradicted : ℕ → Type 0
  IsContradicted t = IsTrue (is_contradicted (view_of f h) t)

  -- the job of a replica
  abbrev pub job : ℕ → Option Job
  job r = job_in (view_of f h) r

  -- the lowest transaction to preempt at a replica
  abbrev pub preempted_next : ℕ → Option ℕ
  preempted_next r = preemption.preempted_next (view_of f h) r

  -- the evidence against a replica
  abbrev pub evidence_of : ℕ → Option Evidence
  evidence_of r = evidence.evidence_of (view_of f h) r (turn_of h)
