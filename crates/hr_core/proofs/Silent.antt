-- Of what sessions are told nothing.
use Rattle.std.proofs.Common.{◌≡◌, ℕ, ◌+◌, ◌≤◌, Option, List, [], ◌∷◌, length, refl, ap, arith}
use Rattle.hr_history.specs.declared.cause.Cause.{Cause}
use Rattle.hr_history.specs.declared.entry.Event.{Event}
use Rattle.hr_history.specs.declared.entry.Event.TheVariants as event
use Rattle.hr_history.specs.History.{History}
use Rattle.hr_history.specs.Replies.{ReplyState, next_reply, next_refusal}
use Rattle.hr_history.specs.Transactions.{begun, next_begun}
use Rattle.hr_due.specs.declared.follow_up.FollowUp.{FollowUp}
use Rattle.hr_due.specs.declared.follow_up.FollowUp.TheVariants as follow
use Rattle.hr_due.specs.FollowUps.{event_of}
use Rattle.hr_ledger.proofs.FollowUps.{no_begin}
use Rattle.hr_core.specs.Suspects.{suspects, next_suspects}
use Rattle.hr_core.specs.Turns.{IsSilent}

pub no_reply_told : (next : FollowUp) → IsSilent next → (q : ℕ) (h : History) (state : ReplyState) → state ≡ next_reply q (event_of next) h state
no_reply_told (follow.Decide txn) silent q h state = absurd silent
no_reply_told (follow.Refuse txn cause) silent q h state = absurd silent
no_reply_told (follow.Convict replica evidence) silent q h state = refl
no_reply_told (follow.NewPrimary replica) silent q h state = refl
no_reply_told (follow.Preempt replica txn) silent q h state = refl

pub no_refusal_told : (next : FollowUp) → IsSilent next → (t : ℕ) (h : History) (o : Option Cause) → o ≡ next_refusal t (event_of next) h o
no_refusal_told (follow.Decide txn) silent t h o = absurd silent
no_refusal_told (follow.Refuse txn cause) silent t h o = absurd silent
no_refusal_told (follow.Convict replica evidence) silent t h o = refl
no_refusal_told (follow.NewPrimary replica) silent t h o = refl
no_refusal_told (follow.Preempt replica txn) silent t h o = refl

pub nobody_begins : (next : FollowUp) (h : History) → length (begun h) ≡ length (next_begun (event_of next) (begun h))
nobody_begins next h = ap length (no_begin next (begun h))

pub no_suspicion : (next : FollowUp) (n : ℕ) → n ≡ next_suspects (event_of next) n
no_suspicion (follow.Decide txn) n = refl
no_suspicion (follow.Refuse txn cause) n = refl
no_suspicion (follow.Convict replica evidence) n = refl
no_suspicion (follow.NewPrimary replica) n = refl
no_suspicion (follow.Preempt replica txn) n = refl

by_event : (e : Event) (n m : ℕ) → n ≤ m → next_suspects e n ≤ m + 1
by_event event.Suspect n m h = omega (arith, h)
by_event (event.Begin session txn) n m h = omega (arith, h)
by_event (event.Submit txn index stmt) n m h = omega (arith, h)
by_event (event.AskCommit txn) n m h = omega (arith, h)
by_event (event.AskRollback txn) n m h = omega (arith, h)
by_event (event.Take r job) n m h = omega (arith, h)
by_event (event.Give r told) n m h = omega (arith, h)
by_event (event.Restarted r count) n m h = omega (arith, h)
by_event (event.Decide txn) n m h = omega (arith, h)
by_event (event.Refuse txn cause) n m h = omega (arith, h)
by_event (event.Convict r evidence) n m h = omega (arith, h)
by_event (event.NewPrimary r) n m h = omega (arith, h)
by_event (event.Preempt r txn) n m h = omega (arith, h)

-- there are no more suspicions than entries
pub few_suspicions : (h : History) → suspects h ≤ length h
few_suspicions [] = omega arith
few_suspicions (e ∷ h) = omega (arith, by_event e.event (suspects h) (length h) (few_suspicions h))
