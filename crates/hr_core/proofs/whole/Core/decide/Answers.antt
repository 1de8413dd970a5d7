use Rattle.std.proofs.Common.{◌≡◌, ℕ, ◌+◌, ◌≤◌, ◌++◌, [], ◌∷◌, Option, Some, IsTrue, List, length, refl, sym, ◌∙◌, ap, subst, arith, length-append}
use Rattle.hr_history.specs.declared.entry.Event.TheVariants as event
use Rattle.hr_history.specs.declared.reply.Reply.TheVariants as told
use Rattle.hr_history.specs.Faithful.{is_turn_of}
use Rattle.hr_history.specs.Replies.{cause_told}
use Rattle.hr_history.specs.Rules.{due}
use Rattle.hr_history.specs.Transactions as history
use Rattle.hr_history.specs.Turn.{replies_to_runs, turn_of}
use Rattle.hr_history.specs.View.{View}
use Rattle.hr_moves.specs.Changes.{map_from, change_at}
use Rattle.hr_moves.specs.Fits.{IsOpen}
use Rattle.hr_ledger.specs.Chronicle.{Chronicle, history_in, view_in, and_entry}
use Rattle.hr_core.specs.declared.seat.Seat.{Seat}
use Rattle.hr_core.specs.declared.seat.Seat.TheVariants as seat
use Rattle.hr_core.specs.declared.seat.Shown.{Shown}
use Rattle.hr_core.specs.Seats.{seat_in, refusal_in, state_kept, refusal_kept, first_told, change_of, refused_for}
use Rattle.hr_core.specs.Told.{plain}
use Rattle.hr_core.proofs.Changes.{seat_changed, seats_length, causes_length}
use Rattle.hr_core.proofs.Steps.{entered, tell_step, history_more}
use Rattle.hr_core.proofs.whole.Core.decide.Goals as goal

pub follow-requires-clause-due : goal.follow-requires-clause-due
follow-requires-clause-due c = subst (λ (s : Chronicle). due s.f (history_in s) ≡ Some (event.Decide c.args.txn)) (sym c.self.view_is) c.requires.due

pub returns : goal.returns
returns c = c.follow.ensures ∙ ap (and_entry c.args.caller (event.Decide c.args.txn)) c.self.view_is

pub invariant_of-self : goal.invariant_of-self
invariant_of-self c =
    let seats = c.self.inside.seats.items in
    let h = history_in c.self.inside.ledger in
    let rs = replies_to_runs h in
    let session = history.session_of c.args.txn h in
    let log = c.commits.ensures ∙ ap (λ (v : View). length v.log) c.view.ensures ∙ ap (λ (s : Chronicle). length (history.log (history_in s))) c.follow.ensures
    ∙ ap (λ k. length (history.log k)) (history_more c.args.caller (event.Decide c.args.txn) c.self.inside.ledger) ∙ length-append (history.log h) (c.args.txn ∷ []) in
    let new : Seat = seat.Committed (length (history.log h) + 1) in
    let now = c.tell_if.ensures ∙ (λ i. map_from (change_of (c.session-session.ensures i) (first_told (seat.Committed (log i)))) 1 seats) in
    entered c.args.caller (event.Decide c.args.txn) (plain c.self.inside) c.self.invariant c.follow.new.self c.tell_if.new.seats.items c.self.inside.causes.items c.self.inside.suspects c.follow.ensures (ap length now ∙ seats_length session (first_told new) seats)
    (λ q state low high was.
    ap (λ xs. state_kept rs (seat_in xs q)) now ∙ ap (state_kept rs) (seat_changed session (first_told new) seats q low high)
    ∙ tell_step rs session q (seat_in seats q) new (told.Committed (length (history.log h) + 1)) state refl was)
    c.self.invariant.causes.each (λ t o was. was) refl
