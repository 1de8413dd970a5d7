use Rattle.std.proofs.Common.{◌≡◌, ℕ, ◌+◌, ◌≤◌, ◌<◌, ◌++◌, [], ◌∷◌, Option, None, Some, List, length, refl, sym, ◌∙◌, ap, subst, arith, length-append}
use Rattle.hr_history.specs.declared.entry.Event.TheVariants as event
use Rattle.hr_history.specs.Primary.{is_some_of}
use Rattle.hr_history.specs.Replies.{Waiting}
use Rattle.hr_history.specs.Transactions as history
use Rattle.hr_history.specs.Turn.{replies_to_runs}
use Rattle.hr_ledger.specs.Chronicle.{Chronicle, history_in, and_entry, IsQuiet, IsAllowed}
use Rattle.hr_moves.specs.Changes.{map_from}
use Rattle.hr_core.specs.Seats.{seat_in, state_kept, waiting, change_of}
use Rattle.hr_core.specs.Told.{plain}
use Rattle.hr_core.proofs.Changes.{seat_changed, seats_length, refusal_end}
use Rattle.hr_core.proofs.Steps.{entered, wait_step}
use Rattle.hr_core.proofs.whole.Core.enter_ask_commit.Goals as goal

pub ask_commit-requires-clause-quiet : goal.ask_commit-requires-clause-quiet
ask_commit-requires-clause-quiet c = subst IsQuiet (sym c.self.view_is) c.requires.quiet

pub ask_commit-requires-clause-allowed : goal.ask_commit-requires-clause-allowed
ask_commit-requires-clause-allowed c = subst (IsAllowed c.args.caller (event.AskCommit c.args.txn)) (sym c.self.view_is) c.requires.allowed

pub returns-clause-ok : goal.returns-clause-ok
returns-clause-ok c = c.in_ok-ask_commit.ensures.ok ∙ ap (and_entry c.args.caller (event.AskCommit c.args.txn)) c.self.view_is

pub invariant_of-self-2 : goal.invariant_of-self-2
invariant_of-self-2 c =
    let seats = c.self.inside.seats.items in
    let h = history_in c.self.inside.ledger in
    let now = c.wait_if.ensures ∙ ap (λ o. map_from (change_of o waiting) 1 seats) c.session-session.ensures in
    entered c.args.caller (event.AskCommit c.args.txn) (plain c.self.inside) c.self.invariant c.ask_commit.new.self c.wait_if.new.seats.items c.self.inside.causes.items c.self.inside.suspects (c.in_ok-ask_commit.ensures.ok) (ap length now ∙ seats_length (history.session_of c.args.txn h) waiting seats)
    (λ q state low high was.
    ap (λ xs. state_kept (replies_to_runs h) (seat_in xs q)) now ∙ ap (state_kept (replies_to_runs h)) (seat_changed (history.session_of c.args.txn h) waiting seats q low high)
    ∙ wait_step (replies_to_runs h) (history.session_of c.args.txn h) q (seat_in seats q) state was)
    c.self.invariant.causes.each (λ t o was. was) refl
