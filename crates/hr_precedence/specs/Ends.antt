-- What has to end at a replica, and when the replica can be given a job.
use Rattle.std.specs.Prelude.{◌≡◌, ◌⊎◌, ℕ, true, false, None}
use Rattle.hr_history.specs.declared.phase.Phase.TheVariants.{Refused, RolledBack}
use Rattle.hr_history.specs.History.{History}
use Rattle.hr_history.specs.Transactions.{phase_of}
use Rattle.hr_history.specs.Replicas.{out_at, is_lost, is_convicted}
use Rattle.hr_history.specs.Attempts.{is_preempted}

-- The replica is live, and has no job out.
pub record IsFree (r : ℕ) (h : History) : Type 0 where
  pub unconvicted : is_convicted r h ≡ false
  pub not_lost : is_lost r h ≡ false
  pub none_out : out_at r h ≡ None

-- the transaction was refused or rolled back, or was preempted at the replica since its attempt there began
abbrev pub HasToEnd : ℕ → ℕ → History → Type 0
HasToEnd r t h = (phase_of t h ≡ Refused) ⊎ (phase_of t h ≡ RolledBack) ⊎ (is_preempted r t h ≡ true)
