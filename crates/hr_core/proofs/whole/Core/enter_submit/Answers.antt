use Rattle.std.proofs.Common.{◌≡◌, ℕ, ◌+◌, ◌≤◌, ◌<◌, ◌++◌, [], ◌∷◌, Option, None, Some, List, length, refl, sym, ◌∙◌, ap, subst, arith, length-append}
use Rattle.hr_history.specs.declared.entry.Event.TheVariants as event
use Rattle.hr_history.specs.Primary.{is_some_of}
use Rattle.hr_history.specs.Replies.{Waiting}
use Rattle.hr_history.specs.Transactions as history
use Rattle.hr_history.specs.Turn.{replies_to_runs}
use Rattle.hr_ledger.specs.Chronicle.{Chronicle, history_in, and_entry, IsQuiet, IsAllowed}
use Rattle.hr_moves.specs.Changes.{map_from}
use Rattle.hr_core.specs.Seats.{seat_in, state_kept, waiting, change_of}
use Rattle.hr_core.specs.Told.{plain}
use Rattle.hr_core.proofs.Changes.{seat_changed, seats_length, refusal_end}
use Rattle.hr_core.proofs.Steps.{entered, wait_step}
use Rattle.hr_core.proofs.whole.Core.enter_submit.Goals as goal

pub submit-requires-clause-quiet : goal.submit-requires-clause-quiet
submit-requires-clause-quiet c = subst IsQuiet (sym c.self.view_is) c.requires.quiet

pub submit-requires-clause-allowed : goal.submit-requires-clause-allowed
submit-requires-clause-allowed c = subst (λ (s : Chronicle). IsAllowed c.args.caller (event.Submit c.args.txn (length (history.submits c.args.txn (history_in s)) + 1) c.args.stmt) s) (sym c.self.view_is) c.requires.allowed

pub returns-clause-ok : goal.returns-clause-ok
returns-clause-ok c = c.in_ok-index.ensures.ok ∙ ap (λ (s : Chronicle). and_entry c.args.caller (event.Submit c.args.txn (length (history.submits c.args.txn (history_in s)) + 1) c.args.stmt) s) c.self.view_is

pub returns-clause-index : goal.returns-clause-index
returns-clause-index c = c.in_ok-index.ensures.index ∙ ap (λ (s : Chronicle). length (history.submits c.args.txn (history_in s)) + 1) c.self.view_is

pub invariant_of-self-2 : goal.invariant_of-self-2
invariant_of-self-2 c =
    let seats = c.self.inside.seats.items in
    let h = history_in c.self.inside.ledger in
    let now = c.wait_if.ensures ∙ ap (λ o. map_from (change_of o waiting) 1 seats) c.session-session.ensures in
    entered c.args.caller (event.Submit c.args.txn (length (history.submits c.args.txn (history_in c.self.inside.ledger)) + 1) c.args.stmt) (plain c.self.inside) c.self.invariant c.submit.new.self c.wait_if.new.seats.items c.self.inside.causes.items c.self.inside.suspects c.in_ok-index.ensures.ok (ap length now ∙ seats_length (history.session_of c.args.txn h) waiting seats)
    (λ q state low high was.
    ap (λ xs. state_kept (replies_to_runs h) (seat_in xs q)) now ∙ ap (state_kept (replies_to_runs h)) (seat_changed (history.session_of c.args.txn h) waiting seats q low high)
    ∙ wait_step (replies_to_runs h) (history.session_of c.args.txn h) q (seat_in seats q) state was)
    c.self.invariant.causes.each (λ t o was. was) refl
