-- What is kept by places stays where replies are added.
use Rattle.std.proofs.Common.{◌≡◌, ℕ, Option, Some, None, option_and_then, List, slice_get, refl, ap, sym, ◌∙◌}
use Rattle.std.specs.Option.{option_map}
use Rattle.hr_engine.specs.declared.reply.RunReply.{RunReply}
use Rattle.hr_history.specs.declared.cause.Cause.{Cause}
use Rattle.hr_history.specs.declared.cause.Cause.TheVariants as cause
use Rattle.hr_history.specs.Replies.{ReplyState}
use Rattle.hr_history.specs.declared.reply.Reply.TheVariants as told
use Rattle.hr_history.specs.Replies.{Replied}
use Rattle.hr_ledger.specs.Kept.{Extends}
use Rattle.hr_ledger.proofs.Extended.{some_kept}
use Rattle.hr_core.specs.declared.seat.Seat.{Seat}
use Rattle.hr_core.specs.declared.seat.Seat.TheVariants as seat
use Rattle.hr_core.specs.declared.seat.Shown.{Shown}
use Rattle.hr_core.specs.declared.seat.Shown.TheVariants as shown
use Rattle.hr_core.specs.Seats.{cycle_in, answer_in, reply_kept, difference, cause_kept, state_kept, refusal_kept}

-- what a map gives stays where what it is of stays
mapped : {X Y : Type 0} (g : X → Y) (a b : Option X) (y : Y) → ((x : X) → a ≡ Some x → b ≡ Some x) → option_map g a ≡ Some y → option_map g b ≡ Some y
mapped g None b y stays h = cc h
mapped g (Some x) b y stays h = ap (option_map g) (stays x refl) ∙ h

module _ (rs us : List RunReply) (ext : Extends rs us) where
  reply_stays : (place : Option ℕ) (r : Option RunReply) → reply_kept rs place ≡ Some r → reply_kept us place ≡ Some r
  reply_stays None r h = h
  reply_stays (Some p) r h = mapped (λ (x : RunReply). Some x) (slice_get rs p) (slice_get us p) r (λ x at. some_kept rs us p x ext at) h

  difference_stays : (index : ℕ) (g a h b : Option (Option RunReply)) (c : Cause) → ((x : Option RunReply) → g ≡ Some x → h ≡ Some x) → ((x : Option RunReply) → a ≡ Some x → b ≡ Some x)
      → difference rs index g a ≡ Some c → difference us index h b ≡ Some c
  difference_stays index None a h b c given agreed e = cc e
  difference_stays index (Some g) None h b c given agreed e = cc e
  difference_stays index (Some g) (Some a) h b c given agreed e = (λ i. difference us index (given g refl i) (agreed a refl i)) ∙ e

  pub cause_stays : (why : Shown) (c : Cause) → cause_kept rs why ≡ Some c → cause_kept us why ≡ Some c
  cause_stays (shown.Deadlock place) c h = mapped (λ (r : Option RunReply). cause.Deadlock (cycle_in r)) (reply_kept rs place) (reply_kept us place) c (λ r at. reply_stays place r at) h
  cause_stays (shown.PrimaryChanged from why) c h = h
  cause_stays (shown.Differ index given agreed) c h =
      difference_stays index (reply_kept rs given) (reply_kept rs agreed) (reply_kept us given) (reply_kept us agreed) c (λ r at. reply_stays given r at) (λ r at. reply_stays agreed r at) h
  cause_stays shown.PrimaryMemory c h = h

  pub state_stays : (s : Seat) (state : ReplyState) → state_kept rs s ≡ Some state → state_kept us s ≡ Some state
  state_stays seat.NothingAsked state h = h
  state_stays seat.Waiting state h = h
  state_stays (seat.Answered p) state h = mapped (λ (r : RunReply). Replied (told.Answered (answer_in (Some r)))) (slice_get rs p) (slice_get us p) state (λ x at. some_kept rs us p x ext at) h
  state_stays (seat.Committed place) state h = h
  state_stays (seat.Refused why) state h = mapped (λ (c : Cause). Replied (told.Refused c)) (cause_kept rs why) (cause_kept us why) state (λ c at. cause_stays why c at) h

  pub refusal_stays : (why : Option Shown) (o : Option Cause) → refusal_kept rs why ≡ Some o → refusal_kept us why ≡ Some o
  refusal_stays None o h = h
  refusal_stays (Some why) o h = mapped (λ (c : Cause). Some c) (cause_kept rs why) (cause_kept us why) o (λ c at. cause_stays why c at) h
