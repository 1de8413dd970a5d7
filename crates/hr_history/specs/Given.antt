-- The answers that sessions were given.
use Rattle.std.specs.Prelude.{ℕ, ◌+◌, Bool, false, ◌&&◌, ◌==◌, if◌then◌else◌, Option, Some, List, [], ◌∷◌, ◌++◌, length, map}
use Rattle.hr_rel.specs.declared.answer.Answer.{Answer}
use Rattle.hr_engine.specs.declared.reply.RunReply.TheVariants as run
use Rattle.hr_history.specs.declared.entry.Event.{Event}
use Rattle.hr_history.specs.declared.entry.Event.TheVariants as event
use Rattle.hr_history.specs.declared.job.Job.{Job}
use Rattle.hr_history.specs.declared.job.Job.TheVariants as job
use Rattle.hr_history.specs.declared.job.JobReply.{JobReply}
use Rattle.hr_history.specs.declared.job.JobReply.TheVariants as reply
use Rattle.hr_history.specs.declared.phase.Phase.{Phase}
use Rattle.hr_history.specs.History.{History}
use Rattle.hr_history.specs.Transactions.{log, phase_of, is_open}
use Rattle.hr_history.specs.Replicas.{out_at}
use Rattle.hr_history.specs.Primary.{primary_of, is_some_of}

-- A given answer, with its stamp: the length of the log when it was given.
pub record Given : Type 0 where
  pub answer : Answer
  pub stamp : ℕ

abbrev pub answers_given : List Given → List Answer
answers_given given = map (λ (g : Given). g.answer) given

-- whether the job is to run statement i of transaction t
abbrev pub is_run_of : ℕ → ℕ → Option Job → Bool
is_run_of t i (Some (job.Run u k)) = (u == t) && (k == i)
is_run_of t i _ = false

-- What an entry finds: the job out at each replica, the primary, the phase of the transaction, and the length of the log.
pub record Found : Type 0 where
  pub out : ℕ → Option Job
  pub primary : Option ℕ
  pub phase : Phase
  pub logged : ℕ

abbrev pub found : ℕ → History → Found
found t h = record { out = λ r. out_at r h; primary = primary_of h; phase = phase_of t h; logged = length (log h) }

-- whether what replica r replies now is the primary's reply to statement i of the open transaction t
abbrev pub is_primary_run : ℕ → ℕ → ℕ → Found → Bool
is_primary_run t i r now = is_run_of t i (now.out r) && is_some_of r now.primary && is_open now.phase

abbrev pub given_by : ℕ → ℕ → JobReply → Found → List Given → List Given
given_by t r (reply.Ran (run.Done answer)) now given =
    if is_primary_run t (length given + 1) r now then given ++ record { answer = answer; stamp = now.logged } ∷ [] else given
given_by t r _ now given = given

abbrev pub next_given : ℕ → Event → Found → List Given → List Given
next_given t (event.Begin session txn) now given = if txn == t then [] else given
next_given t (event.Give replica told) now given = given_by t replica told now given
next_given t _ now given = given

-- The answers given to a transaction, in the order of its statements: what the primary of that moment answered to its
-- next statement while it was open. Those of a decided transaction are the accepted ones.
abbrev pub given_to : ℕ → History → List Given
given_to t [] = []
given_to t (e ∷ before) = next_given t e.event (found t before) (given_to t before)
