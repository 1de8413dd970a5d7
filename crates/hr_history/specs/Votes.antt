-- When a transaction may be decided, and when its given answers are contradicted.
use Rattle.std.specs.Prelude.{ℕ, ◌+◌, Bool, not, ◌&&◌, ◌==◌, nat_le, Option, is_some, length, count_by, find}
use Rattle.hr_history.specs.ReplicaNumbers.{replica_numbers}
use Rattle.hr_history.specs.SameAnswers.{same_answers, first_difference}
use Rattle.hr_history.specs.Transactions.{is_asked}
use Rattle.hr_history.specs.View.{View}
use Rattle.hr_history.specs.Processed.{phase_in, given_in, answers_in, live_in, is_whole, processed_in}

module _ (v : View) where
  -- a replica is ready for a transaction: it is live, the whole log is processed there, and so is the transaction's every statement
  abbrev pub is_ready : ℕ → ℕ → Bool
  is_ready t r = live_in v r && (processed_in v r == length v.log) && is_whole v r t

  -- it is ready, and its answers are the given ones
  abbrev pub agrees : ℕ → ℕ → Bool
  agrees t r = is_ready t r && same_answers (answers_in v r t) (given_in v t)

  -- a transaction may be decided: its commit was asked for, and more than f replicas are ready with the given answers
  abbrev pub is_decidable : ℕ → Bool
  is_decidable t = is_asked (phase_in v t) && nat_le (v.f + 1) (count_by (agrees t) (replica_numbers v.f))

  -- two replicas are ready with the same answers
  abbrev pub agree_on : ℕ → ℕ → ℕ → Bool
  agree_on t r s = is_ready t s && same_answers (answers_in v s t) (answers_in v r t)

  -- more than f replicas are ready with this replica's answers, and these aren't the given ones
  abbrev pub contradicts : ℕ → ℕ → Bool
  contradicts t r = is_ready t r && not (same_answers (answers_in v r t) (given_in v t)) && nat_le (v.f + 1) (count_by (agree_on t r) (replica_numbers v.f))

  -- the lowest of the replicas that contradict the given answers
  abbrev pub contradicted_by : ℕ → Option ℕ
  contradicted_by t = find (contradicts t) (replica_numbers v.f)

  -- the given answers are contradicted: the commit was asked for, and more than f ready replicas agree on others
  abbrev pub is_contradicted : ℕ → Bool
  is_contradicted t = is_asked (phase_in v t) && is_some (contradicted_by t)

  -- the number of the first answer of a replica that isn't the given one
  abbrev pub difference_at : ℕ → ℕ → ℕ
  difference_at r t = first_difference (answers_in v r t) (given_in v t)
