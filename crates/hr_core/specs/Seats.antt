-- What sessions are told, as it is kept: by places among the replies to runs.
use Rattle.std.specs.Prelude.{◌≡◌, ◌⊎◌, Bool, true, false, ℕ, ◌+◌, ◌<◌, ◌==◌, if◌then◌else◌, Option, Some, None, unwrap_or, option_and_then, List, [], slice_get}
use Rattle.std.specs.Option.{option_map}
use Rattle.hr_rel.specs.declared.answer.Answer.{Answer}
use Rattle.hr_rel.specs.declared.answer.Answer.TheVariants as answer
use Rattle.hr_base.specs.Lists.{numbered}
use Rattle.hr_engine.specs.declared.reply.RunReply.{RunReply}
use Rattle.hr_engine.specs.declared.reply.RunReply.TheVariants as run
use Rattle.hr_history.specs.declared.cause.Cause.{Cause}
use Rattle.hr_history.specs.declared.cause.Cause.TheVariants as cause
use Rattle.hr_history.specs.declared.reply.Reply.TheVariants as told
use Rattle.hr_history.specs.Replies.{ReplyState, NothingAsked, Waiting, Replied}
use Rattle.hr_core.specs.declared.seat.Seat.{Seat}
use Rattle.hr_core.specs.declared.seat.Seat.TheVariants as seat
use Rattle.hr_core.specs.declared.seat.Shown.{Shown}
use Rattle.hr_core.specs.declared.seat.Shown.TheVariants as shown

abbrev pub cycle_in : Option RunReply → List ℕ
cycle_in (Some (run.Deadlock cycle)) = cycle
cycle_in _ = []

abbrev pub answer_in : Option RunReply → Answer
answer_in (Some (run.Done answer)) = answer
answer_in _ = answer.Count 0

module _ (replies : List RunReply) where
  -- the reply at a place, if a place is kept; none where nothing stands at it
  abbrev pub reply_kept : Option ℕ → Option (Option RunReply)
  reply_kept None = Some None
  reply_kept (Some place) = option_map (λ (r : RunReply). Some r) (slice_get replies place)

  abbrev pub difference : ℕ → Option (Option RunReply) → Option (Option RunReply) → Option Cause
  difference index given agreed = option_and_then (λ g. option_map (λ a. cause.Differ index (answer_in g) (answer_in a)) agreed) given

  -- the cause that a kept one is
  abbrev pub cause_kept : Shown → Option Cause
  cause_kept (shown.Deadlock place) = option_map (λ r. cause.Deadlock (cycle_in r)) (reply_kept place)
  cause_kept (shown.PrimaryChanged from why) = Some (cause.PrimaryChanged from why)
  cause_kept (shown.Differ index given agreed) = difference index (reply_kept given) (reply_kept agreed)
  cause_kept shown.PrimaryMemory = Some cause.PrimaryMemory

  -- what a session was told since its last Submit or AskCommit
  abbrev pub state_kept : Seat → Option ReplyState
  state_kept seat.NothingAsked = Some NothingAsked
  state_kept seat.Waiting = Some Waiting
  state_kept (seat.Answered place) = option_map (λ (r : RunReply). Replied (told.Answered (answer_in (Some r)))) (slice_get replies place)
  state_kept (seat.Committed place) = Some (Replied (told.Committed place))
  state_kept (seat.Refused why) = option_map (λ (c : Cause). Replied (told.Refused c)) (cause_kept why)

  -- why a transaction was refused, if it was
  abbrev pub refusal_kept : Option Shown → Option (Option Cause)
  refusal_kept None = Some None
  refusal_kept (Some why) = option_map (λ (c : Cause). Some c) (cause_kept why)

-- the seat of session q, from 1
abbrev pub seat_in : List Seat → ℕ → Seat
seat_in seats q = unwrap_or (numbered seats q) seat.NothingAsked

abbrev pub flat : Option (Option Shown) → Option Shown
flat None = None
flat (Some why) = why

-- why transaction t was refused, if it was
abbrev pub refusal_in : List (Option Shown) → ℕ → Option Shown
refusal_in causes t = flat (numbered causes t)

-- a session waits from now on
abbrev pub waiting : Seat → Seat
waiting s = seat.Waiting

-- the first reply is the one that counts
abbrev pub first_told : Seat → Seat → Seat
first_told reply seat.Waiting = reply
first_told reply s = s

abbrev pub refused_for : Shown → Option Shown → Option Shown
refused_for why was = Some why

-- the change, for the session with this number, if there is one
abbrev pub change_of : Option ℕ → (Seat → Seat) → ℕ → Seat → Seat
change_of None change q s = s
change_of (Some n) change q s = if q == n then change s else s

-- the place of a session's seat among so many, from 0; none where the session isn't one of them
abbrev pub IsSeat : Option ℕ → ℕ → Option ℕ → Type 0
IsSeat session seats (Some place) = (session ≡ Some (place + 1)) × (place < seats)
IsSeat None seats None = Unit {0}
IsSeat (Some n) seats None = (n ≡ 0) ⊎ (seats < n)

abbrev pub waits : Seat → Bool
waits seat.Waiting = true
waits _ = false
