use Rattle.std.proofs.Common.{◌≡◌, ◌≤◌, ℕ, true, false, Bool, Option, Some, List, length, refl, ap, sym, ◌∙◌, arith}
use Rattle.hr_engine.specs.declared.reply.RunReply.{RunReply}
use Rattle.hr_history.specs.Replies.{ReplyState, is_waiting, reply_to}
use Rattle.hr_history.specs.Turn.{replies_to_runs}
use Rattle.hr_ledger.specs.Chronicle.{Chronicle, history_in}
use Rattle.hr_core.specs.declared.seat.Seat.{Seat}
use Rattle.hr_core.specs.Seats.{seat_in, waits}
use Rattle.hr_core.proofs.Waits.{waits_kept}
use Rattle.hr_core.proofs.whole.Core.is_waiting.Goals as goal

pub returns : goal.returns
returns c =
    let l = c.self.inside.ledger in
    let q = c.args.session in
    let h = history_in l in
    let last : q ≤ l.sessions = omega (arith, c.requires.last, ap (λ (s : Chronicle). s.sessions) c.self.view_is) in
    c.waits_at.ensures ∙ ap (λ (xs : List Seat). waits (seat_in xs q)) c.deref.ensures.value
    ∙ waits_kept (replies_to_runs h) (seat_in c.self.inside.seats.items q) (reply_to q h) (c.self.invariant.seats.told q c.requires.first last)
    ∙ ap (λ (s : Chronicle). is_waiting (reply_to q (history_in s))) c.self.view_is
