use Rattle.std.proofs.Common.{◌≡◌, drop}
use Rattle.std.specs.List.{list_any}
use Rattle.hr_history.specs.Replies.{is_of}
use Rattle.hr_ledger.specs.Chronicle.{history_in}
use Rattle.hr_shepherd.proofs.gate.any_is_of.Given as goal

abbrev pub invariant-txns : goal.invariant-txns
invariant-txns l = list_any (λ t. is_of l.session t (history_in l.ledger)) (drop l.txn-index l.txns) ≡ list_any (λ t. is_of l.session t (history_in l.ledger)) l.txns
