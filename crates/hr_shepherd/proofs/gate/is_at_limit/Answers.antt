use Rattle.std.proofs.Common.{◌≡◌, false, ◌||◌, nat_le, length, ◌<◌, ap, sym, ◌∙◌, subst}
use Rattle.std.proofs.lemmas.Bool.{and_parts}
use Rattle.hr_history.specs.Transactions.{session_of, phase_of, is_open, submits, submitted}
use Rattle.hr_history.specs.Faithful.{owns}
use Rattle.hr_history.specs.View.{View}
use Rattle.hr_history.specs.Processed.{txn_in}
use Rattle.hr_records.proofs.ViewWords.{statements_seen}
use Rattle.hr_ledger.specs.Chronicle.{history_in}
use Rattle.hr_shepherd.proofs.Owners.{own_born, not_less}
use Rattle.hr_shepherd.proofs.gate.is_at_limit.Goals as goal

pub returns-else-submitted-ge-MAX_SUBMITS : goal.returns-else-submitted-ge-MAX_SUBMITS
returns-else-submitted-ge-MAX_SUBMITS c =
    let l = c.args.ledger.now in
    let t = c.args.txn in
    let h = history_in l in
    let born = own_born l.f c.args.caller t h (and_parts (owns l.f c.args.caller (session_of t h)) (is_open (phase_of t h)) c.requires).0 in
    let count = c.statements.ensures.value ∙ ap (λ (v : View). (txn_in v t).statements) c.view.ensures ∙ statements_seen l.f t h born in
    let few : nat_le 4000 (submitted h) ≡ false = not_less 4000 (submitted h) (subst (λ n. n < 4000) c.submitted.ensures c.if-submitted-ge-MAX_SUBMITS.false) in
    ap (nat_le 100) count ∙ sym (ap (λ b. b || nat_le 100 (length (submits t h))) few)
