use Rattle.std.proofs.Common.{ap, sym, ◌∙◌, subst}
use Rattle.hr_history.specs.Transactions.{session_of}
use Rattle.hr_ledger.specs.Chronicle.{Chronicle, history_in, HasBegun}
use Rattle.hr_shepherd.proofs.Owners.{sessions_known}
use Rattle.hr_shepherd.proofs.gate.is_busy.Goals as goal

pub is_waiting-requires-clause-first : goal.is_waiting-requires-clause-first
is_waiting-requires-clause-first c =
    let l = c.args.core.now in
    let at = ap (λ (s : Chronicle). session_of c.args.txn (history_in s)) (sym c.ledger-2.ensures) ∙ sym c.session.ensures ∙ c.in-Some.is in
    (sessions_known l.f l.sessions (history_in l) (subst HasBegun c.ledger.ensures c.begun.ensures) c.args.txn c.in-Some.session at).0

pub is_waiting-requires-clause-last : goal.is_waiting-requires-clause-last
is_waiting-requires-clause-last c =
    let l = c.args.core.now in
    let at = ap (λ (s : Chronicle). session_of c.args.txn (history_in s)) (sym c.ledger-2.ensures) ∙ sym c.session.ensures ∙ c.in-Some.is in
    (sessions_known l.f l.sessions (history_in l) (subst HasBegun c.ledger.ensures c.begun.ensures) c.args.txn c.in-Some.session at).1
