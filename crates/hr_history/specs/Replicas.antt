-- What a history tells of each replica.
use Rattle.std.specs.Prelude.{ℕ, Bool, true, false, ◌||◌, ◌==◌, if◌then◌else◌, Option, Some, None, unwrap_or, Ok, Err, [], ◌∷◌}
use Rattle.hr_rel.specs.declared.stmt.Stmt.{Stmt}
use Rattle.hr_rel.specs.declared.stmt.Stmt.TheVariants as stmt
use Rattle.hr_engine.specs.Journal.{Call, Ran, Committed, RolledBack, Restarted, Journal}
use Rattle.hr_engine.specs.Base.{count, settled}
use Rattle.hr_engine.specs.declared.reply.RunReply.TheVariants as run
use Rattle.hr_engine.specs.declared.reply.EndReply.TheVariants as end
use Rattle.hr_history.specs.declared.entry.Event.{Event}
use Rattle.hr_history.specs.declared.entry.Event.TheVariants as event
use Rattle.hr_history.specs.declared.job.Job.{Job}
use Rattle.hr_history.specs.declared.job.Job.TheVariants as job
use Rattle.hr_history.specs.declared.job.JobReply.{JobReply}
use Rattle.hr_history.specs.declared.job.JobReply.TheVariants as reply
use Rattle.hr_history.specs.History.{History}
use Rattle.hr_base.specs.Lists.{numbered}
use Rattle.hr_history.specs.Transactions.{submits}

abbrev pub next_out : ℕ → Event → Option Job → Option Job
next_out r (event.Take replica job) out = if replica == r then Some job else out
next_out r (event.Give replica reply) out = if replica == r then None else out
next_out r (event.Restarted replica count) out = if replica == r then None else out
next_out r _ out = out

-- the job that is out at a replica: taken, and not replied to
abbrev pub out_at : ℕ → History → Option Job
out_at r [] = None
out_at r (e ∷ before) = next_out r e.event (out_at r before)

-- where it doesn't matter which, any statement serves
abbrev pub any_stmt : Stmt
any_stmt = stmt.Delete record { table = 0; filter = None }

-- the statement with this number of a transaction, from 1; a statement that was never submitted is never run
abbrev pub stmt_at : History → ℕ → ℕ → Stmt
stmt_at h t i = unwrap_or (numbered (submits t h) i) any_stmt

-- the backend's call that a job and its reply are; a run's statement is found by the transaction and the index
abbrev pub call_of : Option Job → JobReply → (ℕ → ℕ → Stmt) → Option Call
call_of (Some (job.Run t i)) (reply.Ran told) stmt = Some (Ran t (stmt t i) told)
call_of (Some (job.Commit t)) (reply.Ended told) stmt = Some (Committed t told)
call_of (Some (job.Rollback t)) (reply.Ended told) stmt = Some (RolledBack t told)
call_of (Some job.Restart) reply.StillLost stmt = Some (Restarted (Err record {}))
call_of _ _ stmt = None

abbrev pub restart_of : Option Job → ℕ → Option Call
restart_of (Some job.Restart) count = Some (Restarted (Ok count))
restart_of _ count = None

abbrev pub call_if : Bool → ℕ → JobReply → (ℕ → Option Job) → (ℕ → ℕ → Stmt) → Option Call
call_if true r told out stmt = call_of (out r) told stmt
call_if false r told out stmt = None

abbrev pub restart_if : Bool → ℕ → ℕ → (ℕ → Option Job) → Option Call
restart_if true r count out = restart_of (out r) count
restart_if false r count out = None

-- the call of replica r's backend that an event tells, with its reply, where such a job was out at each replica and the
-- statements were these
abbrev pub call_told : ℕ → Event → (ℕ → Option Job) → (ℕ → ℕ → Stmt) → Option Call
call_told r (event.Give replica told) out stmt = call_if (replica == r) r told out stmt
call_told r (event.Restarted replica count) out stmt = restart_if (replica == r) r count out
call_told r _ out stmt = None

-- the call that an entry tells after this history
abbrev pub call_at : ℕ → Event → History → Option Call
call_at r e before = call_told r e (λ q. out_at q before) (stmt_at before)

abbrev pub next_journal : Option Call → Journal → Journal
next_journal None journal = journal
next_journal (Some call) journal = call ∷ journal

-- the journal of a replica: its jobs that were replied to, each as the backend's call with that reply
abbrev pub journal_of : ℕ → History → Journal
journal_of r [] = []
journal_of r (e ∷ before) = next_journal (call_at r e.event before) (journal_of r before)

-- how many transactions it has committed
abbrev pub position_of : ℕ → History → ℕ
position_of r h = count (journal_of r h)

-- whether it is lost: from a reply Lost until a restart
abbrev pub is_lost : ℕ → History → Bool
is_lost r h = (settled (journal_of r h)).lost

abbrev pub next_convicted : ℕ → Event → Bool → Bool
next_convicted r (event.Convict replica evidence) was = (replica == r) || was
next_convicted r _ was = was

-- whether it was convicted, once and for all
abbrev pub is_convicted : ℕ → History → Bool
is_convicted r [] = false
is_convicted r (e ∷ before) = next_convicted r e.event (is_convicted r before)

-- whether a reply tells of a loss
abbrev pub tells_loss : JobReply → Bool
tells_loss (reply.Ran (run.Done answer)) = false
tells_loss (reply.Ran (run.Blocked named)) = false
tells_loss (reply.Ran (run.Deadlock cycle)) = false
tells_loss (reply.Ran run.Lost) = true
tells_loss (reply.Ran run.NoMemory) = false
tells_loss (reply.Ended end.Done) = false
tells_loss (reply.Ended end.Lost) = true
tells_loss reply.StillLost = true
