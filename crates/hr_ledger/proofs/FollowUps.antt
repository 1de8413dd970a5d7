-- What follows begins nothing, submits nothing, asks for nothing, and tells no reply.
use Rattle.std.proofs.Common.{◌≡◌, ℕ, List, refl}
use Rattle.hr_rel.specs.declared.stmt.Stmt.{Stmt}
use Rattle.hr_engine.specs.declared.reply.RunReply.{RunReply}
use Rattle.hr_history.specs.Transactions.{next_begun, next_asks, next_submits, next_submitted}
use Rattle.hr_history.specs.Turn.{next_replies}
use Rattle.hr_due.specs.declared.follow_up.FollowUp.{FollowUp}
use Rattle.hr_due.specs.declared.follow_up.FollowUp.TheVariants as follow
use Rattle.hr_due.specs.FollowUps.{event_of}

pub no_reply : (next : FollowUp) (rs : List RunReply) → next_replies (event_of next) rs ≡ rs
no_reply (follow.Decide txn) rs = refl
no_reply (follow.Refuse txn cause) rs = refl
no_reply (follow.Convict replica evidence) rs = refl
no_reply (follow.NewPrimary replica) rs = refl
no_reply (follow.Preempt replica txn) rs = refl

pub no_ask : (next : FollowUp) (n : ℕ) → n ≡ next_asks (event_of next) n
no_ask (follow.Decide txn) n = refl
no_ask (follow.Refuse txn cause) n = refl
no_ask (follow.Convict replica evidence) n = refl
no_ask (follow.NewPrimary replica) n = refl
no_ask (follow.Preempt replica txn) n = refl

pub no_begin : (next : FollowUp) (sessions : List ℕ) → sessions ≡ next_begun (event_of next) sessions
no_begin (follow.Decide txn) sessions = refl
no_begin (follow.Refuse txn cause) sessions = refl
no_begin (follow.Convict replica evidence) sessions = refl
no_begin (follow.NewPrimary replica) sessions = refl
no_begin (follow.Preempt replica txn) sessions = refl

pub no_submit : (next : FollowUp) (n : ℕ) → n ≡ next_submitted (event_of next) n
no_submit (follow.Decide txn) n = refl
no_submit (follow.Refuse txn cause) n = refl
no_submit (follow.Convict replica evidence) n = refl
no_submit (follow.NewPrimary replica) n = refl
no_submit (follow.Preempt replica txn) n = refl

pub no_statement : (next : FollowUp) (t : ℕ) (stmts : List Stmt) → stmts ≡ next_submits t (event_of next) stmts
no_statement (follow.Decide txn) t stmts = refl
no_statement (follow.Refuse txn cause) t stmts = refl
no_statement (follow.Convict replica evidence) t stmts = refl
no_statement (follow.NewPrimary replica) t stmts = refl
no_statement (follow.Preempt replica txn) t stmts = refl
