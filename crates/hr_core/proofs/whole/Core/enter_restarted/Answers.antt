use Rattle.std.proofs.Common.{◌≡◌, ℕ, ◌+◌, ◌≤◌, ◌<◌, ◌++◌, [], ◌∷◌, Option, None, Some, List, length, refl, sym, ◌∙◌, ap, subst, arith, length-append}
use Rattle.hr_history.specs.declared.entry.Event.TheVariants as event
use Rattle.hr_history.specs.Primary.{is_some_of}
use Rattle.hr_history.specs.Replies.{Waiting}
use Rattle.hr_history.specs.Transactions as history
use Rattle.hr_history.specs.Turn.{replies_to_runs}
use Rattle.hr_ledger.specs.Chronicle.{Chronicle, history_in, and_entry, IsQuiet, IsAllowed}
use Rattle.hr_core.specs.Seats.{seat_in, state_kept, waiting, change_of}
use Rattle.hr_core.specs.Told.{plain}
use Rattle.hr_core.proofs.Changes.{seat_changed, seats_length, refusal_end}
use Rattle.hr_core.proofs.Steps.{entered, wait_step}
use Rattle.hr_core.proofs.whole.Core.enter_restarted.Goals as goal

pub restarted-requires-clause-quiet : goal.restarted-requires-clause-quiet
restarted-requires-clause-quiet c = subst IsQuiet (sym c.self.view_is) c.requires.quiet

pub restarted-requires-clause-allowed : goal.restarted-requires-clause-allowed
restarted-requires-clause-allowed c = subst (IsAllowed c.args.caller (event.Restarted c.args.replica c.args.count)) (sym c.self.view_is) c.requires.allowed

pub returns : goal.returns
returns c = c.restarted.ensures ∙ ap (and_entry c.args.caller (event.Restarted c.args.replica c.args.count)) c.self.view_is

pub invariant_of-self : goal.invariant_of-self
invariant_of-self c = entered c.args.caller (event.Restarted c.args.replica c.args.count) (plain c.self.inside) c.self.invariant c.restarted.new.self c.self.inside.seats.items c.self.inside.causes.items (c.self.inside.suspects) (c.restarted.ensures) refl (λ q state low high was. was) c.self.invariant.causes.each (λ t o was. was) refl
