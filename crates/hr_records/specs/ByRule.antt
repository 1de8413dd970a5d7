-- The rules read backwards: what a view and a turn show, where such an entry follows or a replica has such a job.
use Rattle.std.specs.Prelude.{◌≡◌, ◌⊎◌, ℕ, ◌+◌, ◌*◌, ◌<◌, ◌≤◌, true, false, ◌&&◌, Some, None, length, IsTrue}
use Rattle.hr_base.specs.Lists.{last_of}
use Rattle.hr_engine.specs.declared.reply.RunReply.{RunReply}
use Rattle.hr_engine.specs.declared.reply.RunReply.TheVariants as run
use Rattle.hr_history.specs.declared.entry.Event.{Event}
use Rattle.hr_history.specs.declared.entry.Event.TheVariants as event
use Rattle.hr_history.specs.declared.job.Job.{Job}
use Rattle.hr_history.specs.declared.job.Job.TheVariants as job
use Rattle.hr_history.specs.declared.cause.CauseAt.{CauseAt}
use Rattle.hr_history.specs.declared.cause.CauseAt.TheVariants as cause
use Rattle.hr_history.specs.declared.evidence.Evidence.{Evidence}
use Rattle.hr_history.specs.declared.evidence.Evidence.TheVariants as evidence
use Rattle.hr_history.specs.declared.phase.Fresh.{Fresh}
use Rattle.hr_history.specs.SameAnswers.{same_answers}
use Rattle.hr_history.specs.Transactions.{is_open}
use Rattle.hr_history.specs.Turn.{Turn, Contradiction}
use Rattle.hr_history.specs.View.{View}
use Rattle.hr_history.specs.Processed.{phase_in, replica_in, answers_in, given_in, live_in, is_whole, is_primary, candidate_in, is_caught_up}
use Rattle.hr_history.specs.Votes.{is_decidable, is_contradicted, contradicted_by, difference_at}
use Rattle.hr_history.specs.Jobs.{is_to_roll_back, next_in_log, next_index, may_repeat, pending_index, may_run_first}
use Rattle.hr_history.specs.Preemption.{is_to_give_way}
use Rattle.hr_history.specs.Evidence.{evidence_of}
use Rattle.hr_history.specs.Rules.{primary_gone}

-- a transaction has this number
abbrev pub IsTxn : View → ℕ → Type 0
IsTxn v t = (1 ≤ t) × (t ≤ length v.txns)

-- a replica has this number
abbrev pub IsReplica : View → ℕ → Type 0
IsReplica v r = r < 2 * v.f + 1

-- The turn's call is the primary's reply to this transaction.
pub record IsReplyOfPrimary (v : View) (turn : Turn) (t at : ℕ) (reply : RunReply) : Type 0 where
  pub fresh : Fresh
  pub is_fresh : v.fresh ≡ Some fresh
  pub txn : fresh.txn ≡ t
  pub by_primary : IsTrue (is_primary v fresh.replica)
  pub told : last_of v.replies ≡ Some reply
  pub place : at ≡ turn.start

-- why an open transaction is refused
abbrev pub HasCause : View → Turn → ℕ → CauseAt → Type 0
HasCause v turn t (cause.Deadlock at) = (cycle : _) × IsReplyOfPrimary v turn t at (run.Deadlock cycle)
HasCause v turn t (cause.PrimaryMemory at) = IsReplyOfPrimary v turn t at run.NoMemory
HasCause v turn t (cause.PrimaryChanged from why at) = turn.went ≡ Some record { from = from; why = why; at = at }
HasCause v turn t (cause.Differ index by at) = IsTrue (is_contradicted v t) × (contradicted_by v t ≡ Some by) × (index ≡ difference_at v by t)

-- The evidence by the view and the turn, or the contradiction that is owed.
abbrev pub HasEvidence : View → Turn → ℕ → Evidence → Type 0
HasEvidence v turn r e =
    (IsReplica v r × ((replica_in v r).convicted ≡ false) × (evidence_of v r turn ≡ Some e))
    ⊎ ((c : Contradiction) × (turn.owed ≡ Some c) × (v.primary ≡ Some r) × (e ≡ evidence.Contradicted c.txn c.index))

-- There is no primary and none has to be refused for its going; this is the candidate, it is live and has committed the log.
pub record IsElected (v : View) (turn : Turn) (r : ℕ) : Type 0 where
  pub replica : IsReplica v r
  pub vacant : v.primary ≡ None
  pub settled : primary_gone v turn ≡ None
  pub candidate : candidate_in v ≡ Some r
  pub live : IsTrue (live_in v r)
  pub caught_up : IsTrue (is_caught_up v r)

-- It is to give way at a live replica that isn't the primary.
pub record GivesWay (v : View) (r t : ℕ) : Type 0 where
  pub replica : IsReplica v r
  pub txn : IsTxn v t
  pub live : IsTrue (live_in v r)
  pub secondary : is_primary v r ≡ false
  pub gives_way : IsTrue (is_to_give_way v r t)

-- such an event follows by its rule; a call doesn't follow
abbrev pub Follows : View → Turn → Event → Type 0
Follows v turn (event.Decide t) = IsTxn v t × IsTrue (is_decidable v t)
Follows v turn (event.Refuse t c) = IsTrue (is_open (phase_in v t)) × HasCause v turn t c
Follows v turn (event.Convict r e) = HasEvidence v turn r e
Follows v turn (event.NewPrimary r) = IsElected v turn r
Follows v turn (event.Preempt r t) = GivesWay v r t
Follows v turn _ = ⊥

-- the run of the pending statement at the primary, or of the next one of an attempt elsewhere
abbrev pub IsRunOf : View → ℕ → ℕ → ℕ → Type 0
IsRunOf v r t i =
    ((is_primary v r ≡ true) × IsTrue (may_run_first v r t) × (i ≡ pending_index v r t))
    ⊎ ((is_primary v r ≡ false) × IsTrue (may_repeat v r t) × (i ≡ next_index v r t))

-- such a job is the replica's by its rule: it is lost exactly where the job is to restart
abbrev pub IsByRule : View → ℕ → Job → Type 0
IsByRule v r (job.Run t i) = ((replica_in v r).lost ≡ false) × IsTxn v t × IsRunOf v r t i
IsByRule v r (job.Commit t) = ((replica_in v r).lost ≡ false) × (next_in_log v r ≡ Some t) × IsTrue (is_whole v r t && same_answers (answers_in v r t) (given_in v t))
IsByRule v r (job.Rollback t) = ((replica_in v r).lost ≡ false) × IsTxn v t × IsTrue (is_to_roll_back v r t)
IsByRule v r job.Restart = (replica_in v r).lost ≡ true

-- The replica isn't convicted, has no job out, and the job is its by the rule for such jobs.
pub record IsJobOf (v : View) (r : ℕ) (j : Job) : Type 0 where
  pub unconvicted : (replica_in v r).convicted ≡ false
  pub free : (replica_in v r).out ≡ None
  pub rule : IsByRule v r j
