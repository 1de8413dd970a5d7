-- What a history says after each turn.
use Rattle.std.specs.Prelude.{ℕ, Bool, true, if◌then◌else◌, Option, List, [], ◌∷◌, ◌++◌, map}
use Rattle.hr_history.specs.declared.job.Job.{Job}
use Rattle.hr_history.specs.History.{History, is_call}
use Rattle.hr_base.specs.Lists.{one_to}
use Rattle.hr_history.specs.ReplicaNumbers.{replica_numbers}
use Rattle.hr_history.specs.Transactions.{log}
use Rattle.hr_history.specs.View.{View, view_of}
use Rattle.hr_history.specs.Processed.{replica_in, processed_in}
use Rattle.hr_history.specs.Jobs.{job_in}
use Rattle.hr_history.specs.Replies.{ReplyState, reply_to}

-- A replica: how many transactions it has committed, how many of the log are processed there, and its job.
pub record At : Type 0 where
  pub position : ℕ
  pub processed : ℕ
  pub job : Option Job

-- The log, what each session was told, and the replicas.
pub record State : Type 0 where
  pub log : List ℕ
  pub told : List ReplyState
  pub replicas : List At

abbrev pub replica_state : View → ℕ → At
replica_state v r = record { position = (replica_in v r).position; processed = processed_in v r; job = job_in v r }

abbrev pub replica_states : View → List At
replica_states v = map (replica_state v) (replica_numbers v.f)

abbrev pub state_of : ℕ → ℕ → History → State
state_of f sessions h = record { log = log h; told = map (λ s. reply_to s h) (one_to sessions); replicas = replica_states (view_of f h) }

abbrev pub states_to : ℕ → ℕ → Bool → History → List State
states_to f sessions ends [] = []
states_to f sessions ends (e ∷ before) =
    states_to f sessions (is_call e.event) before ++ (if ends then state_of f sessions (e ∷ before) ∷ [] else [])

-- the state after each turn, in order
abbrev pub states : ℕ → ℕ → History → List State
states f sessions h = states_to f sessions true h
