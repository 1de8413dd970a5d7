-- The views that five worked histories are to have, written out from what happened in them.
use Rattle.std.specs.Prelude.{ℕ, true, false, Option, Some, None, List, [], ◌∷◌}
use Rattle.hr_rel.specs.declared.answer.Answer.{Answer}
use Rattle.hr_rel.specs.declared.answer.Answer.TheVariants.{Rows, Count}
use Rattle.hr_meaning.specs.Worked.{one}
use Rattle.hr_engine.specs.declared.reply.RunReply.TheVariants.{Done, Blocked, Lost}
use Rattle.hr_history.specs.declared.phase.Phase.{Phase}
use Rattle.hr_history.specs.declared.phase.Phase.TheVariants.{Active, Asked, Logged, Refused}
use Rattle.hr_history.specs.declared.phase.Last.TheVariants as last
use Rattle.hr_history.specs.declared.phase.Fresh.{Fresh}
use Rattle.hr_history.specs.Given.{Given}
use Rattle.hr_history.specs.View.{View, TxnState, Progress, Attempt}

-- a session's transaction, of so many statements
abbrev pub txn : ℕ → ℕ → List Given → Phase → TxnState
txn session statements given phase = record { session = session; statements = statements; given = given; phase = phase }

abbrev pub given : Answer → ℕ → Given
given answer stamp = record { answer = answer; stamp = stamp }

-- an attempt with these answers, told at these places
abbrev pub running : List Answer → List ℕ → Attempt
running answers places = record { answers = answers; places = places; last = last.Answered; touched = true; preempted = false }

-- an attempt that waits with its first statement
abbrev pub waiting : List ℕ → Attempt
waiting named = record { answers = []; places = []; last = last.Blocked named; touched = true; preempted = false }

-- no attempt now: it was committed, rolled back or lost
abbrev pub over : Attempt
over = record { answers = []; places = []; last = last.Answered; touched = false; preempted = false }

-- a live replica with no job out
abbrev pub live : ℕ → List (ℕ × Attempt) → Progress
live position attempts = record { lost = false; convicted = false; position = position; doubt = false; out = None; attempts = attempts }

abbrev pub convicted : ℕ → List (ℕ × Attempt) → Progress
convicted position attempts = record { lost = false; convicted = true; position = position; doubt = false; out = None; attempts = attempts }

-- a lost replica, whose last commit is in doubt
abbrev pub in_doubt : ℕ → List (ℕ × Attempt) → Progress
in_doubt position attempts = record { lost = true; convicted = false; position = position; doubt = true; out = None; attempts = attempts }

-- a lost replica with no commit in doubt
abbrev pub lost : ℕ → List (ℕ × Attempt) → Progress
lost position attempts = record { lost = true; convicted = false; position = position; doubt = false; out = None; attempts = attempts }

abbrev pub reply_by : ℕ → ℕ → Option Fresh
reply_by r t = Some record { replica = r; txn = t }

-- `insert_and_select`, when all replicas have run both statements
abbrev pub both_run : View
both_run =
    let answers = Count 1 ∷ Rows (one 50 ∷ []) ∷ [] in
    record {
      f = 1;
      log = [];
      txns = txn 1 2 (given (Count 1) 0 ∷ given (Rows (one 50 ∷ [])) 0 ∷ []) Active ∷ [];
      replicas = live 0 ((1, running answers (3 ∷ 10 ∷ [])) ∷ []) ∷ live 0 ((1, running answers (5 ∷ 12 ∷ [])) ∷ []) ∷ live 0 ((1, running answers (7 ∷ 14 ∷ [])) ∷ []) ∷ [];
      primary = Some 0;
      search_after = 0;
      replies = Done (Count 1) ∷ Done (Count 1) ∷ Done (Count 1) ∷ Done (Rows (one 50 ∷ [])) ∷ Done (Rows (one 50 ∷ [])) ∷ Done (Rows (one 50 ∷ [])) ∷ [];
      fresh = reply_by 2 1;
    }

-- `stale_vote`, right after replica 1 told the writer to wait for the reader, and before the reader is preempted there
abbrev pub writer_waits : View
writer_waits = record {
  f = 1;
  log = 2 ∷ [];
  txns = txn 1 1 (given (Rows (one 6 ∷ [])) 0 ∷ []) (Asked 2) ∷ txn 2 1 (given (Count 1) 0 ∷ []) (Logged 1) ∷ [];
  replicas =
      live 0 ((2, running (Count 1 ∷ []) (4 ∷ [])) ∷ (1, running (Rows (one 6 ∷ []) ∷ []) (9 ∷ [])) ∷ []) ∷
      live 0 ((1, running (Rows (one 6 ∷ []) ∷ []) (11 ∷ [])) ∷ (2, waiting (1 ∷ [])) ∷ []) ∷
      live 0 ((2, running (Count 1 ∷ []) (6 ∷ [])) ∷ []) ∷ [];
  primary = Some 0;
  search_after = 0;
  replies = Done (Count 1) ∷ Done (Count 1) ∷ Done (Rows (one 6 ∷ [])) ∷ Done (Rows (one 6 ∷ [])) ∷ Blocked (1 ∷ []) ∷ [];
  fresh = reply_by 1 2;
}

-- `stale_vote` at its end: the reader is refused, the first primary is convicted, and replica 1 is the primary
abbrev pub primary_contradicted : View
primary_contradicted = record {
  f = 1;
  log = 2 ∷ [];
  txns = txn 1 1 (given (Rows (one 6 ∷ [])) 0 ∷ []) Refused ∷ txn 2 1 (given (Count 1) 0 ∷ []) (Logged 1) ∷ [];
  replicas =
      convicted 0 ((2, running (Count 1 ∷ []) (4 ∷ [])) ∷ (1, running (Rows (one 6 ∷ []) ∷ []) (9 ∷ [])) ∷ []) ∷
      live 1 ((1, running (Rows (one 9 ∷ []) ∷ []) (25 ∷ [])) ∷ (2, over) ∷ []) ∷
      live 1 ((2, over) ∷ (1, running (Rows (one 9 ∷ []) ∷ []) (29 ∷ [])) ∷ []) ∷ [];
  primary = Some 1;
  search_after = 1;
  replies =
      Done (Count 1) ∷ Done (Count 1) ∷ Done (Rows (one 6 ∷ [])) ∷ Done (Rows (one 6 ∷ [])) ∷ Blocked (1 ∷ []) ∷
      Done (Count 1) ∷ Done (Rows (one 9 ∷ [])) ∷ Done (Rows (one 9 ∷ [])) ∷ [];
  fresh = reply_by 2 1;
}

-- `loss_after_commit`, when replica 2 is lost in its commit
abbrev pub commit_lost : View
commit_lost = record {
  f = 1;
  log = 1 ∷ [];
  txns = txn 1 1 (given (Count 1) 0 ∷ []) (Logged 1) ∷ [];
  replicas = live 1 ((1, over) ∷ []) ∷ live 1 ((1, over) ∷ []) ∷ in_doubt 0 ((1, over) ∷ []) ∷ [];
  primary = Some 0;
  search_after = 0;
  replies = Done (Count 1) ∷ Done (Count 1) ∷ Done (Count 1) ∷ [];
  fresh = None;
}

-- `blocking_liar`, right after the primary told the transaction to wait for nobody: the list stands as it was told
abbrev pub waits_for_nobody : View
waits_for_nobody = record {
  f = 1;
  log = [];
  txns = txn 1 1 [] Active ∷ [];
  replicas = live 0 ((1, waiting []) ∷ []) ∷ live 0 [] ∷ live 0 [] ∷ [];
  primary = Some 0;
  search_after = 0;
  replies = Blocked [] ∷ [];
  fresh = reply_by 0 1;
}

-- `primary_lost_in_run`, right after the primary was lost: nothing is left of the attempt there
abbrev pub run_lost : View
run_lost = record {
  f = 1;
  log = [];
  txns = txn 1 2 (given (Count 1) 0 ∷ []) Active ∷ txn 2 0 [] Active ∷ [];
  replicas = lost 0 ((1, over) ∷ []) ∷ live 0 ((1, running (Count 1 ∷ []) (6 ∷ [])) ∷ []) ∷ live 0 [] ∷ [];
  primary = None;
  search_after = 0;
  replies = Done (Count 1) ∷ Done (Count 1) ∷ Lost ∷ [];
  fresh = reply_by 0 1;
}
