use Rattle.std.proofs.Common.{◌≡◌, ◌+◌, length, sym, subst}
use Rattle.hr_history.specs.declared.entry.Event.TheVariants as event
use Rattle.hr_history.specs.Faithful.{is_turn_of}
use Rattle.hr_history.specs.Transactions as history
use Rattle.std.proofs.Common.{IsTrue}
use Rattle.hr_ledger.specs.Chronicle.{Chronicle, history_in}
use Rattle.hr_core.specs.Turns.{Ends}
use Rattle.hr_core.proofs.Turning.{turn_more, has_turn}
use Rattle.hr_core.proofs.whole.Core.ask_rollback.Goals as goal

pub follow_all-requires : goal.follow_all-requires
follow_all-requires c = subst (λ (s : Chronicle). IsTrue (is_turn_of c.args.caller (history_in s))) (sym c.enter_ask_rollback.ensures) (turn_more c.args.caller (event.AskRollback c.args.txn) c.args.self.now)

pub returns : goal.returns
returns c = has_turn c.args.caller (event.AskRollback c.args.txn) c.args.self.now c.follow_all.new.self (subst (λ (s : Chronicle). Ends c.args.caller s c.follow_all.new.self) c.enter_ask_rollback.ensures c.follow_all.ensures)
