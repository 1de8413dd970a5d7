-- The calls of a source or a sink over memory.
use Rattle.std.specs.Prelude.{ℕ, List, Contains}
use Rattle.hr_base.specs.Counters.{next_count}

-- which calls are to fail, by number from 1; how many calls were made; how many failed
pub record CallLog : Type 0 where
  pub failing : List ℕ
  pub made : ℕ
  pub faults : ℕ

-- no call was made yet
abbrev pub fresh_calls : List ℕ → CallLog
fresh_calls failing = record { failing = failing; made = 0; faults = 0 }

-- the next call is one of those that are to fail
abbrev pub IsToFail : CallLog → Type 0
IsToFail c = Contains c.failing (next_count c.made)

-- one call more, which did what it was for
abbrev pub one_more : CallLog → CallLog
one_more c = record c { made = next_count c.made }

-- one call more, which failed
abbrev pub one_failed : CallLog → CallLog
one_failed c = record c { made = next_count c.made; faults = next_count c.faults }
