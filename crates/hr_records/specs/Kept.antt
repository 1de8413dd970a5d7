-- What every history keeps that has begun rightly.
use Rattle.std.specs.Prelude.{ℕ}
use Rattle.hr_history.specs.History.{History}
use Rattle.hr_records.specs.Numbers.{NumbersAt}
use Rattle.hr_records.specs.AtReplica.{AtReplicaAt}
use Rattle.hr_records.specs.Leads.{LeadsAt}

-- Numbers and phases, each replica's part, and the primary's.
pub record Kept (h : History) : Type 0 where
  pub numbers : NumbersAt h
  pub replicas : (r : ℕ) → AtReplicaAt r h
  pub leads : (r : ℕ) → LeadsAt r h
