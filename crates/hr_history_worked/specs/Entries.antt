-- Words for the entries of the worked histories: those of three replicas, whose sessions are the callers from 4 on.
use Rattle.std.specs.Prelude.{ℕ, ◌+◌, pos, Some, List, [], ◌∷◌}
use Rattle.hr_rel.specs.declared.value.Value.TheVariants as value
use Rattle.hr_rel.specs.declared.expr.Op.TheVariants as op
use Rattle.hr_rel.specs.declared.expr.Operand.TheVariants as operand
use Rattle.hr_rel.specs.declared.expr.Expr as expr
use Rattle.hr_rel.specs.declared.expr.Pred as pred
use Rattle.hr_rel.specs.declared.stmt.Stmt.{Stmt}
use Rattle.hr_rel.specs.declared.stmt.Stmt.TheVariants as stmt
use Rattle.hr_rel.specs.declared.answer.Answer.{Answer}
use Rattle.hr_engine.specs.declared.reply.RunReply.TheVariants as run
use Rattle.hr_engine.specs.declared.reply.EndReply.TheVariants as end
use Rattle.hr_history.specs.declared.entry.Entry.{Entry}
use Rattle.hr_history.specs.declared.entry.Event.{Event}
use Rattle.hr_history.specs.declared.entry.Event.TheVariants as event
use Rattle.hr_history.specs.declared.job.Job.{Job}
use Rattle.hr_history.specs.declared.job.JobReply.TheVariants as reply

abbrev pub by : ℕ → Event → Entry
by caller e = record { caller = caller; event = e }

-- what followed from a call of this caller
abbrev pub follows : ℕ → Event → Entry
follows caller e = by caller e

abbrev pub begin : ℕ → ℕ → Entry
begin s t = by (3 + s) (event.Begin s t)

-- session s submits statement i of transaction t
abbrev pub submit : ℕ → ℕ → ℕ → Stmt → Entry
submit s t i stmt = by (3 + s) (event.Submit t i stmt)

abbrev pub ask_commit : ℕ → ℕ → Entry
ask_commit s t = by (3 + s) (event.AskCommit t)

abbrev pub ask_rollback : ℕ → ℕ → Entry
ask_rollback s t = by (3 + s) (event.AskRollback t)

abbrev pub take : ℕ → Job → Entry
take r job = by (r + 1) (event.Take r job)

-- the replies of replica r to a run
abbrev pub done : ℕ → Answer → Entry
done r answer = by (r + 1) (event.Give r (reply.Ran (run.Done answer)))

abbrev pub blocked : ℕ → List ℕ → Entry
blocked r named = by (r + 1) (event.Give r (reply.Ran (run.Blocked named)))

abbrev pub deadlock : ℕ → List ℕ → Entry
deadlock r cycle = by (r + 1) (event.Give r (reply.Ran (run.Deadlock cycle)))

abbrev pub run_lost : ℕ → Entry
run_lost r = by (r + 1) (event.Give r (reply.Ran run.Lost))

abbrev pub no_memory : ℕ → Entry
no_memory r = by (r + 1) (event.Give r (reply.Ran run.NoMemory))

-- its replies to a commit or a rollback
abbrev pub ended : ℕ → Entry
ended r = by (r + 1) (event.Give r (reply.Ended end.Done))

abbrev pub lost : ℕ → Entry
lost r = by (r + 1) (event.Give r (reply.Ended end.Lost))

-- its replies to a restart
abbrev pub still_lost : ℕ → Entry
still_lost r = by (r + 1) (event.Give r reply.StillLost)

abbrev pub restarted : ℕ → ℕ → Entry
restarted r count = by (r + 1) (event.Restarted r count)

abbrev pub suspect : Entry
suspect = by 0 event.Suspect

-- `UPDATE table SET v = n WHERE id = key`, of the table with this number
abbrev pub update : ℕ → ℕ → ℕ → Stmt
update table key n = stmt.Update record {
  table = table;
  sets = record { column = 1; value = expr.Lit (value.Int (pos n)) } ∷ [];
  filter = Some (pred.Compare op.Eq (operand.Col record { entry = 0; column = 0 }) (operand.Lit (value.Int (pos key))));
}

-- `UPDATE t SET v = v + 1 WHERE id = key`
abbrev pub increase : ℕ → Stmt
increase key = stmt.Update record {
  table = 0;
  sets = record { column = 1; value = expr.Add (expr.Col record { entry = 0; column = 1 }) (expr.Lit (value.Int (pos 1))) } ∷ [];
  filter = Some (pred.Compare op.Eq (operand.Col record { entry = 0; column = 0 }) (operand.Lit (value.Int (pos key))));
}
