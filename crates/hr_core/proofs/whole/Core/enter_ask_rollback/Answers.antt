use Rattle.std.proofs.Common.{◌≡◌, ℕ, ◌+◌, ◌≤◌, ◌<◌, ◌++◌, [], ◌∷◌, Option, None, Some, List, length, refl, sym, ◌∙◌, ap, subst, arith, length-append}
use Rattle.hr_history.specs.declared.entry.Event.TheVariants as event
use Rattle.hr_history.specs.Primary.{is_some_of}
use Rattle.hr_history.specs.Replies.{Waiting}
use Rattle.hr_history.specs.Transactions as history
use Rattle.hr_history.specs.Turn.{replies_to_runs}
use Rattle.hr_ledger.specs.Chronicle.{Chronicle, history_in, and_entry, IsQuiet, IsAllowed}
use Rattle.hr_core.specs.Seats.{seat_in, state_kept, waiting, change_of}
use Rattle.hr_core.specs.Told.{plain}
use Rattle.hr_core.proofs.Changes.{seat_changed, seats_length, refusal_end}
use Rattle.hr_core.proofs.Steps.{entered, wait_step}
use Rattle.hr_core.proofs.whole.Core.enter_ask_rollback.Goals as goal

pub ask_rollback-requires-clause-quiet : goal.ask_rollback-requires-clause-quiet
ask_rollback-requires-clause-quiet c = subst IsQuiet (sym c.self.view_is) c.requires.quiet

pub ask_rollback-requires-clause-allowed : goal.ask_rollback-requires-clause-allowed
ask_rollback-requires-clause-allowed c = subst (IsAllowed c.args.caller (event.AskRollback c.args.txn)) (sym c.self.view_is) c.requires.allowed

pub returns : goal.returns
returns c = c.ask_rollback.ensures ∙ ap (and_entry c.args.caller (event.AskRollback c.args.txn)) c.self.view_is

pub invariant_of-self : goal.invariant_of-self
invariant_of-self c = entered c.args.caller (event.AskRollback c.args.txn) (plain c.self.inside) c.self.invariant c.ask_rollback.new.self c.self.inside.seats.items c.self.inside.causes.items (c.self.inside.suspects) (c.ask_rollback.ensures) refl (λ q state low high was. was) c.self.invariant.causes.each (λ t o was. was) refl
