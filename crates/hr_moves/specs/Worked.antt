-- The view of the worked moves. This module only serves src/worked.rt.
use Rattle.std.specs.Prelude.{ℕ, true, false, Option, Some, None, [], ◌∷◌}
use Rattle.hr_rel.specs.declared.answer.Answer.TheVariants.{Count}
use Rattle.hr_history.specs.declared.job.Job.{Job}
use Rattle.hr_history.specs.declared.job.Job.TheVariants as job
use Rattle.hr_history.specs.declared.phase.Phase.TheVariants as phase
use Rattle.hr_history.specs.declared.phase.Last.{Last}
use Rattle.hr_history.specs.declared.phase.Last.TheVariants as last
use Rattle.hr_history.specs.View.{View, Attempt}
use Rattle.hr_history.specs.Processed.{no_attempt}

-- an attempt with this one answer, told at this place
abbrev pub ran_once : ℕ → ℕ → Attempt
ran_once answer place = record { answers = Count answer ∷ []; places = place ∷ []; last = last.Answered; touched = true; preempted = false }

-- an attempt whose first statement was told of waits
abbrev pub waiting : Last → Attempt
waiting told = record { answers = []; places = []; last = told; touched = true; preempted = false }

-- Of three replicas, 0 is the primary. T1 is decided: it is committed at 0, not yet at 1, and in doubt at 2, which is lost.
-- T2 has an answer and one more statement. T3 has one statement and no answer: it waits for T2 at 0, and replica 1 has told
-- it in this turn to wait for T2 and T9, which doesn't run. These jobs are out.
abbrev pub seen : Option Job → Option Job → Option Job → View
seen at_primary at_secondary at_lost = record {
  f = 1;
  log = 1 ∷ [];
  txns =
      record { session = 1; statements = 1; given = record { answer = Count 1; stamp = 0 } ∷ []; phase = phase.Logged 1 }
      ∷ record { session = 2; statements = 2; given = record { answer = Count 5; stamp = 1 } ∷ []; phase = phase.Active }
      ∷ record { session = 3; statements = 1; given = []; phase = phase.Active }
      ∷ [];
  replicas =
      record {
        lost = false;
        convicted = false;
        position = 1;
        doubt = false;
        out = at_primary;
        attempts = (1, no_attempt) ∷ (2, ran_once 5 9) ∷ (3, waiting (last.Blocked (2 ∷ []))) ∷ [];
      }
      ∷ record {
        lost = false;
        convicted = false;
        position = 0;
        doubt = false;
        out = at_secondary;
        attempts = (1, ran_once 1 4) ∷ (2, ran_once 5 12) ∷ (3, waiting (last.Blocked (2 ∷ 9 ∷ []))) ∷ [];
      }
      ∷ record { lost = true; convicted = false; position = 0; doubt = true; out = at_lost; attempts = (1, no_attempt) ∷ [] }
      ∷ [];
  primary = Some 0;
  search_after = 0;
  replies = [];
  fresh = Some record { replica = 1; txn = 3 };
}

-- a statement of T2 is out at the primary, T1's commit at 1, and a restart at 2
abbrev pub busy : View
busy = seen (Some (job.Run 2 2)) (Some (job.Commit 1)) (Some job.Restart)

-- a statement of T2 is out at replica 1 alone
abbrev pub repeating : View
repeating = seen None (Some (job.Run 2 2)) None

-- T2's rollback is out at replica 1 alone
abbrev pub rolling_back : View
rolling_back = seen None (Some (job.Rollback 2)) None
