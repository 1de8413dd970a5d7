use Rattle.std.proofs.Common.{◌≡◌, ℕ, ◌+◌, ◌≤◌, ◌<◌, ◌++◌, [], ◌∷◌, Option, None, Some, List, length, refl, sym, ◌∙◌, ap, subst, arith, length-append}
use Rattle.hr_history.specs.declared.entry.Event.TheVariants as event
use Rattle.hr_history.specs.Primary.{is_some_of}
use Rattle.hr_history.specs.Replies.{Waiting}
use Rattle.hr_history.specs.Transactions as history
use Rattle.hr_history.specs.Turn.{replies_to_runs}
use Rattle.hr_ledger.specs.Chronicle.{Chronicle, history_in, and_entry, IsQuiet, IsAllowed}
use Rattle.hr_core.specs.Seats.{seat_in, state_kept, waiting, change_of}
use Rattle.hr_core.specs.Told.{plain}
use Rattle.hr_core.proofs.Changes.{seat_changed, seats_length, refusal_end}
use Rattle.hr_core.proofs.Steps.{entered, wait_step}
use Rattle.hr_core.proofs.whole.Core.enter_take.Goals as goal

pub take-requires-clause-quiet : goal.take-requires-clause-quiet
take-requires-clause-quiet c = subst IsQuiet (sym c.self.view_is) c.requires.quiet

pub take-requires-clause-allowed : goal.take-requires-clause-allowed
take-requires-clause-allowed c = subst (IsAllowed c.args.caller (event.Take c.args.replica c.args.job)) (sym c.self.view_is) c.requires.allowed

pub returns-clause-ok : goal.returns-clause-ok
returns-clause-ok c = c.in_ok-take.ensures.ok ∙ ap (and_entry c.args.caller (event.Take c.args.replica c.args.job)) c.self.view_is

pub invariant_of-self-2 : goal.invariant_of-self-2
invariant_of-self-2 c = entered c.args.caller (event.Take c.args.replica c.args.job) (plain c.self.inside) c.self.invariant c.take.new.self c.self.inside.seats.items c.self.inside.causes.items (c.self.inside.suspects) (c.in_ok-take.ensures.ok) refl (λ q state low high was. was) c.self.invariant.causes.each (λ t o was. was) refl
