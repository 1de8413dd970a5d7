use Rattle.std.proofs.Common.{◌≡◌, ℕ, ◌+◌, ◌≤◌, ◌++◌, [], ◌∷◌, Option, Some, IsTrue, List, length, refl, sym, ◌∙◌, ap, subst, arith}
use Rattle.hr_history.specs.declared.entry.Event.TheVariants as event
use Rattle.hr_history.specs.declared.reply.Reply.TheVariants as told
use Rattle.hr_history.specs.Faithful.{is_turn_of}
use Rattle.std.specs.Option.{option_map}
use Rattle.hr_history.specs.declared.cause.Cause.{Cause}
use Rattle.hr_history.specs.declared.cause.CauseAt.{CauseAt}
use Rattle.hr_history.specs.Replies.{Replied, cause_told}
use Rattle.hr_history.specs.Rules.{due}
use Rattle.hr_history.specs.Transactions as history
use Rattle.hr_history.specs.Turn.{replies_to_runs, turn_of}
use Rattle.hr_history.specs.View.{View}
use Rattle.hr_moves.specs.Changes.{map_from, change_at}
use Rattle.hr_moves.specs.Fits.{IsOpen}
use Rattle.hr_ledger.specs.Chronicle.{Chronicle, history_in, view_in, HasBegun, and_entry}
use Rattle.hr_core.specs.declared.seat.Seat.{Seat}
use Rattle.hr_core.specs.declared.seat.Seat.TheVariants as seat
use Rattle.hr_core.specs.declared.seat.Shown.{Shown}
use Rattle.hr_core.specs.Seats.{seat_in, refusal_in, state_kept, refusal_kept, first_told, change_of, refused_for}
use Rattle.hr_core.specs.Told.{plain}
use Rattle.hr_core.proofs.Changes.{seat_changed, seats_length, causes_length}
use Rattle.hr_core.proofs.Steps.{entered, tell_step, keep_step, history_more}
use Rattle.hr_core.proofs.Turning.{due_open, open_born}
use Rattle.hr_core.proofs.whole.Core.refuse.Goals as goal

pub follow-requires-clause-due : goal.follow-requires-clause-due
follow-requires-clause-due c = subst (λ (s : Chronicle). due s.f (history_in s) ≡ Some (event.Refuse c.args.txn c.args.cause)) (sym c.self.view_is) c.requires.due

pub returns : goal.returns
returns c = c.follow.ensures ∙ ap (and_entry c.args.caller (event.Refuse c.args.txn c.args.cause)) c.self.view_is

pub shown_cause-why-requires : goal.shown_cause-why-requires
shown_cause-why-requires c = due_open c.self.inside.ledger c.args.txn c.args.cause c.begun.ensures (subst (λ (s : Chronicle). due s.f (history_in s) ≡ Some (event.Refuse c.args.txn c.args.cause)) (sym c.self.view_is) c.requires.due)

module _ (l : Chronicle) (now : Chronicle) (t : ℕ) (why : CauseAt) (is : l ≡ now) (begun : HasBegun l) (due_now : due now.f (history_in now) ≡ Some (event.Refuse t why)) where
  born : (1 ≤ t) × (t ≤ length (history.begun (history_in l)))
  born = open_born l t (due_open l t why begun (subst (λ (s : Chronicle). due s.f (history_in s) ≡ Some (event.Refuse t why)) (sym is) due_now))

pub keep-requires-clause-first : goal.keep-requires-clause-first
keep-requires-clause-first c = (born c.self.inside.ledger c.args.self.now c.args.txn c.args.cause c.self.view_is c.begun.ensures c.requires.due).0

pub keep-requires-clause-last : goal.keep-requires-clause-last
keep-requires-clause-last c = omega (arith, (born c.self.inside.ledger c.args.self.now c.args.txn c.args.cause c.self.view_is c.begun.ensures c.requires.due).1, c.self.invariant.causes.each)

pub invariant_of-self : goal.invariant_of-self
invariant_of-self c =
    let seats = c.self.inside.seats.items in
    let causes = c.self.inside.causes.items in
    let t = c.args.txn in
    let why = c.shown_cause-why.result in
    let h = history_in c.self.inside.ledger in
    let rs = replies_to_runs h in
    let session = history.session_of t h in
    let new : Seat = seat.Refused why in
    let now = c.tell_if.ensures ∙ ap (λ o. map_from (change_of o (first_told new)) 1 seats) c.session-session.ensures in
    let is = born c.self.inside.ledger c.args.self.now t c.args.cause c.self.view_is c.begun.ensures c.requires.due in
    let last : t ≤ length causes = omega (arith, is.1, c.self.invariant.causes.each) in
    entered c.args.caller (event.Refuse t c.args.cause) (plain c.self.inside) c.self.invariant c.follow.new.self c.tell_if.new.seats.items c.keep.new.causes.items c.self.inside.suspects c.follow.ensures (ap length now ∙ seats_length session (first_told new) seats)
    (λ q state low high was.
    ap (λ xs. state_kept rs (seat_in xs q)) now ∙ ap (state_kept rs) (seat_changed session (first_told new) seats q low high)
    ∙ tell_step rs session q (seat_in seats q) new (told.Refused (cause_told t c.args.cause h)) state (ap (option_map (λ (x : Cause). Replied (told.Refused x))) c.shown_cause-why.ensures) was)
    (ap length c.keep.ensures ∙ causes_length why t causes ∙ c.self.invariant.causes.each)
    (λ u o was. ap (λ (xs : List (Option Shown)). refusal_kept rs (refusal_in xs u)) c.keep.ensures ∙ keep_step rs why (cause_told t c.args.cause h) c.shown_cause-why.ensures t causes is.0 last u o was) refl
