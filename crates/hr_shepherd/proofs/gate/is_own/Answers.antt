use Rattle.std.proofs.Common.{◌≡◌, true, ◌&&◌, ap, sym, ◌∙◌}
use Rattle.hr_history.specs.Transactions.{session_of, is_open}
use Rattle.hr_history.specs.Faithful.{owns}
use Rattle.hr_history.specs.View.{View}
use Rattle.hr_history.specs.Processed.{phase_in}
use Rattle.hr_ledger.specs.Chronicle.{history_in, view_in}
use Rattle.hr_shepherd.proofs.Owners.{own_seen}
use Rattle.hr_shepherd.proofs.gate.is_own.Goals as goal

pub returns-then-owns : goal.returns-then-owns
returns-then-owns c =
    let l = c.args.ledger.now in
    let t = c.args.txn in
    let h = history_in l in
    let own : owns l.f c.args.caller (session_of t h) ≡ true = sym c.owns.ensures ∙ c.if-owns.true in
    c.is_open.ensures ∙ ap is_open (c.phase.ensures ∙ ap (λ (v : View). phase_in v t) c.view.ensures)
    ∙ sym (ap (λ b. b && is_open (phase_in (view_in l) t)) own) ∙ own_seen l.f c.args.caller t h
