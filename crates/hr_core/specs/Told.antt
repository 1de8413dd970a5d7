-- Not to be believed: what holds of the fields of every `Core`, of which its proofs speak.
use Rattle.std.specs.Prelude.{◌≡◌, ℕ, ◌≤◌, Option, Some, List, length}
use Rattle.hr_engine.specs.declared.reply.RunReply.{RunReply}
use Rattle.hr_history.specs.History.{History}
use Rattle.hr_history.specs.Replies.{reply_to, refusal_of}
use Rattle.hr_history.specs.Transactions.{begun}
use Rattle.hr_history.specs.Turn.{replies_to_runs}
use Rattle.hr_ledger.specs.Chronicle.{Chronicle, history_in}
use Rattle.hr_core.specs.declared.whole.Core.TheInside.{Inside}
use Rattle.hr_core.specs.declared.seat.Seat.{Seat}
use Rattle.hr_core.specs.declared.seat.Shown.{Shown}
use Rattle.hr_core.specs.Seats.{state_kept, refusal_kept, seat_in, refusal_in}
use Rattle.hr_core.specs.Suspects as suspicions

pub record PlainCore : Type 0 where
  pub ledger : Chronicle
  pub seats : List Seat
  pub causes : List (Option Shown)
  pub suspects : ℕ

abbrev pub plain : Inside → PlainCore
plain c = record { ledger = c.ledger; seats = c.seats.items; causes = c.causes.items; suspects = c.suspects }

abbrev pub seen : Inside → Chronicle
seen c = c.ledger

-- what is kept of sessions, where the history is this
pub record AreSeats (sessions : ℕ) (h : History) (seats : List Seat) : Type 0 where
  pub each : length seats ≡ sessions
  pub told : (q : ℕ) → 1 ≤ q → q ≤ sessions → state_kept (replies_to_runs h) (seat_in seats q) ≡ Some (reply_to q h)

-- what is kept of refusals
pub record AreCauses (h : History) (causes : List (Option Shown)) : Type 0 where
  pub each : length causes ≡ length (begun h)
  pub told : (t : ℕ) → refusal_kept (replies_to_runs h) (refusal_in causes t) ≡ Some (refusal_of t h)

pub record AreTold (p : PlainCore) : Type 0 where
  pub seats : AreSeats p.ledger.sessions (history_in p.ledger) p.seats
  pub causes : AreCauses (history_in p.ledger) p.causes
  pub suspects : p.suspects ≡ suspicions.suspects (history_in p.ledger)

abbrev pub IsTold : Inside → Type 0
IsTold c = AreTold (plain c)
