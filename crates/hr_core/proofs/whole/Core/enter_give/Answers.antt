use Rattle.std.proofs.Common.{◌≡◌, ℕ, ◌+◌, ◌*◌, ◌≤◌, ◌<◌, Option, Some, List, length, refl, sym, ◌∙◌, ap, subst, arith}
use Rattle.std.specs.Prelude.{option_and_then}
use Rattle.hr_history.specs.declared.entry.Event.TheVariants as event
use Rattle.hr_history.specs.declared.job.Job.{Job}
use Rattle.hr_history.specs.declared.job.Job.TheVariants as job
use Rattle.hr_engine.specs.declared.reply.RunReply.{RunReply}
use Rattle.hr_history.specs.Processed.{replica_in}
use Rattle.hr_history.specs.Transactions as history
use Rattle.hr_history.specs.Turn.{replies_to_runs, next_replies}
use Rattle.hr_history.specs.View.{View}
use Rattle.hr_history.specs.Replicas.{out_at}
use Rattle.hr_moves.specs.Changes.{map_from}
use Rattle.hr_progress.specs.GivenTo.{given_by}
use Rattle.hr_ledger.specs.Chronicle.{Chronicle, history_in, view_in, and_entry, IsQuiet, IsAllowed}
use Rattle.hr_core.specs.declared.seat.Seat.{Seat}
use Rattle.hr_core.specs.declared.seat.Seat.TheVariants as seat
use Rattle.hr_core.specs.Seats.{seat_in, state_kept, refusal_kept, refusal_in, first_told, change_of}
use Rattle.hr_core.specs.Told.{plain}
use Rattle.hr_core.proofs.Changes.{seat_changed, seats_length}
use Rattle.hr_core.proofs.Given.{give_told, out_known}
use Rattle.hr_core.proofs.Stays.{refusal_stays}
use Rattle.hr_core.proofs.Steps.{entered, history_more}
use Rattle.hr_ledger.proofs.Extended.{extends_told}
use Rattle.hr_core.proofs.whole.Core.enter_give.Goals as goal

pub give-to-requires-clause-quiet : goal.give-to-requires-clause-quiet
give-to-requires-clause-quiet c = subst IsQuiet (sym c.self.view_is) c.requires.quiet

pub give-to-requires-clause-allowed : goal.give-to-requires-clause-allowed
give-to-requires-clause-allowed c = subst (IsAllowed c.args.caller (event.Give c.args.replica c.args.reply)) (sym c.self.view_is) c.requires.allowed

pub returns : goal.returns
returns c = c.give-to.ensures.entry ∙ ap (and_entry c.args.caller (event.Give c.args.replica c.args.reply)) c.self.view_is

pub invariant_of-self : goal.invariant_of-self
invariant_of-self c =
    let l = c.self.inside.ledger in
    let seats = c.self.inside.seats.items in
    let h = history_in l in
    let r = c.args.replica in
    let told = c.args.reply in
    let rs = replies_to_runs h in
    let e = event.Give r told in
    let known = out_known l r told c.args.caller c.begun.ensures (subst (IsAllowed c.args.caller e) (sym c.self.view_is) c.requires.allowed) in
    let to = option_and_then (λ u. history.session_of u h) (given_by (view_in l) r (out_at r h) told) in
    let new : Seat = seat.Answered (length rs) in
    let place = ap (λ (xs : List RunReply). length xs) c.replies-place.ensures ∙ ap (λ (v : View). length v.replies) c.view.ensures in
    let session = c.session_given.ensures
    ∙ (λ i. option_and_then (λ u. history.session_of u ((ap history_in c.give-to.ensures.entry ∙ history_more c.args.caller e l) i)) (c.give-to.ensures.given i))
    ∙ ap (λ o. option_and_then (λ u. history.session_of u h) (given_by (view_in l) r o told)) known.0 in
    let now = c.tell_if.ensures ∙ (λ i. map_from (change_of (session i) (first_told (seat.Answered (place i)))) 1 seats) in
    entered c.args.caller e (plain c.self.inside) c.self.invariant c.give-to.new.self c.tell_if.new.seats.items c.self.inside.causes.items c.self.inside.suspects c.give-to.ensures.entry (ap length now ∙ seats_length to (first_told new) seats)
    (λ q state low high was.
    ap (λ xs. state_kept (next_replies e rs) (seat_in xs q)) now ∙ ap (state_kept (next_replies e rs)) (seat_changed to (first_told new) seats q low high)
    ∙ give_told l.f r h q (seat_in seats q) state was (out_at r h) told refl known.1)
    c.self.invariant.causes.each (λ t o was. refusal_stays rs (next_replies e rs) (extends_told r told rs) (refusal_in c.self.inside.causes.items t) o was) refl
