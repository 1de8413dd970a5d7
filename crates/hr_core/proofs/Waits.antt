-- Who waits.
use Rattle.std.proofs.Common.{◌≡◌, Bool, false, Option, Some, None, List, slice_get, refl, ap, ◌∙◌}
use Rattle.std.specs.Option.{option_map}
use Rattle.hr_engine.specs.declared.reply.RunReply.{RunReply}
use Rattle.hr_history.specs.declared.cause.Cause.{Cause}
use Rattle.hr_history.specs.declared.reply.Reply.{Reply}
use Rattle.hr_history.specs.declared.reply.Reply.TheVariants as told
use Rattle.hr_history.specs.Replies.{ReplyState, NothingAsked, Waiting, Replied, is_waiting}
use Rattle.hr_records.proofs.Options.{same_some}
use Rattle.hr_core.specs.declared.seat.Seat.{Seat}
use Rattle.hr_core.specs.declared.seat.Seat.TheVariants as seat
use Rattle.hr_core.specs.Seats.{answer_in, cause_kept, state_kept, waits}

told_already : {X : Type 0} (g : X → Reply) (o : Option X) (state : ReplyState) → option_map (λ x. Replied (g x)) o ≡ Some state → false ≡ is_waiting state
told_already g None state h = cc h
told_already g (Some x) state h = ap is_waiting (same_some (Replied (g x)) state h)

-- who is kept as waiting waits, and nobody else
pub waits_kept : (rs : List RunReply) (s : Seat) (state : ReplyState) → state_kept rs s ≡ Some state → waits s ≡ is_waiting state
waits_kept rs seat.NothingAsked state h = ap is_waiting (same_some NothingAsked state h)
waits_kept rs seat.Waiting state h = ap is_waiting (same_some Waiting state h)
waits_kept rs (seat.Answered p) state h = told_already (λ (r : RunReply). told.Answered (answer_in (Some r))) (slice_get rs p) state h
waits_kept rs (seat.Committed n) state h = ap is_waiting (same_some (Replied (told.Committed n)) state h)
waits_kept rs (seat.Refused why) state h = told_already (λ (c : Cause). told.Refused c) (cause_kept rs why) state h
