-- What a replica is given to do.
use Rattle.std.specs.Prelude.{◌≡◌, ℕ, Option, Some, None}
use Rattle.std.specs.Option.{option_map}
use Rattle.hr_base.specs.Lists.{numbered}
use Rattle.hr_rel.specs.declared.stmt.Stmt.{Stmt}
use Rattle.hr_history.specs.declared.entry.Event.TheVariants as event
use Rattle.hr_history.specs.declared.job.Job.{Job}
use Rattle.hr_history.specs.declared.job.Job.TheVariants as job
use Rattle.hr_history.specs.History.{History}
use Rattle.hr_history.specs.Transactions.{submits}
use Rattle.hr_history.specs.Replicas.{stmt_at}
use Rattle.hr_ledger.specs.Chronicle.{Chronicle}
use Rattle.hr_core.specs.Turns.{HasTurn}
use Rattle.hr_shepherd.specs.declared.order.Order.{Order}

-- The job was taken in a turn, or there was none and nothing changed.
abbrev pub IsTaken : ℕ → ℕ → Option Job → Chronicle → Chronicle → Type 0
IsTaken caller replica None before after = after ≡ before
IsTaken caller replica (Some job) before after = HasTurn caller (event.Take replica job) before after

-- the statement that a job is to run, if it is to run one
abbrev pub statement_of : Option Job → History → Option Stmt
statement_of (Some (job.Run t i)) h = Some (stmt_at h t i)
statement_of _ h = None

-- a job with the statement that it is to run
abbrev pub order_of : Option Job → History → Option Order
order_of None h = None
order_of (Some j) h = Some record { job = j; stmt = statement_of (Some j) h }

-- what a job is to run was submitted
abbrev pub HasStatement : Job → History → Type 0
HasStatement (job.Run t i) h = numbered (submits t h) i ≡ Some (stmt_at h t i)
HasStatement j h = Unit {0}
