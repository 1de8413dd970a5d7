use Rattle.std.proofs.Common.{◌≡◌, ℕ, ◌+◌, ◌≤◌, ◌<◌, ◌++◌, [], ◌∷◌, Option, None, Some, List, length, refl, sym, ◌∙◌, ap, subst, arith, length-append}
use Rattle.hr_history.specs.declared.entry.Event.TheVariants as event
use Rattle.hr_history.specs.Primary.{is_some_of}
use Rattle.hr_history.specs.Replies.{Waiting}
use Rattle.hr_history.specs.Transactions as history
use Rattle.hr_history.specs.Turn.{replies_to_runs}
use Rattle.hr_ledger.specs.Chronicle.{Chronicle, history_in, and_entry, IsQuiet, IsAllowed}
use Rattle.hr_core.specs.declared.seat.Shown.{Shown}
use Rattle.hr_core.specs.Seats.{refusal_kept, refusal_in}
use Rattle.hr_core.specs.Told.{plain}
use Rattle.hr_core.proofs.Changes.{seat_changed, seats_length, refusal_end}
use Rattle.hr_core.proofs.Steps.{entered, wait_step}
use Rattle.hr_core.proofs.whole.Core.enter_begin.Goals as goal

pub begin-requires-clause-quiet : goal.begin-requires-clause-quiet
begin-requires-clause-quiet c = subst IsQuiet (sym c.self.view_is) c.requires.quiet

pub begin-requires-clause-allowed : goal.begin-requires-clause-allowed
begin-requires-clause-allowed c = subst (λ (s : Chronicle). IsAllowed c.args.caller (event.Begin c.args.session (length (history.begun (history_in s)) + 1)) s) (sym c.self.view_is) c.requires.allowed

pub returns-clause-ok : goal.returns-clause-ok
returns-clause-ok c = c.in_ok-txn.ensures.ok ∙ ap (λ (s : Chronicle). and_entry c.args.caller (event.Begin c.args.session (length (history.begun (history_in s)) + 1)) s) c.self.view_is

pub returns-clause-txn : goal.returns-clause-txn
returns-clause-txn c = c.in_ok-txn.ensures.txn ∙ ap (λ (s : Chronicle). length (history.begun (history_in s)) + 1) c.self.view_is

pub invariant_of-self-2 : goal.invariant_of-self-2
invariant_of-self-2 c =
    let causes = c.self.inside.causes.items in
    let h = history_in c.self.inside.ledger in
    let now = c.push_reserved.ensures.items ∙ ap (λ (xs : List (Option Shown)). xs ++ None ∷ []) c.reserve.ensures.items in
    entered c.args.caller (event.Begin c.args.session (length (history.begun h) + 1)) (plain c.self.inside) c.self.invariant c.begin.new.self c.self.inside.seats.items c.push_reserved.new.self.items c.self.inside.suspects c.in_ok-txn.ensures.ok refl (λ q state low high was. was)
    (omega (arith, ap length now, length-append causes (None ∷ []), c.self.invariant.causes.each, length-append (history.begun h) (c.args.session ∷ [])))
    (λ t o was. ap (λ (xs : List (Option Shown)). refusal_kept (replies_to_runs h) (refusal_in xs t)) now ∙ ap (refusal_kept (replies_to_runs h)) (refusal_end causes t) ∙ was) refl
