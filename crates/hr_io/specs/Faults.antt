-- The faults of a source or a sink.
use Rattle.std.specs.Prelude.{◌≡◌, ℕ, ◌≤◌, Result, OnOk, OnErr}
use Rattle.hr_base.specs.Counters.{Rose}

-- A call's count of faults never falls. An error comes only where it rose, and where it rose an error comes.
pub record HasCause {T E : Type 0} (before now : ℕ) (result : Result T E) : Type 0 where
  pub later : before ≤ now
  pub failed : OnErr result (Rose before now)
  pub sound : OnOk result (now ≡ before)
