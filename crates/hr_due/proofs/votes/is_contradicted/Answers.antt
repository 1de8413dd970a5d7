use Rattle.std.proofs.Common.{inl, inr, sym, ◌∙◌}
use Rattle.hr_sane.proofs.Outcomes.{undecided}
use Rattle.hr_due.proofs.Tallies.{accepted}
use Rattle.hr_due.proofs.votes.is_contradicted.Goals as goal

pub returns-in-Accept : goal.returns-in-Accept
returns-in-Accept c =
    let v = c.args.view.now in
    let t = c.args.txn in
    elim c.in-Accept.is [
      | inl accept ↦ sym (accepted v t (sym c.tally.ensures ∙ accept))
      | inr open_ ↦ sym ((undecided v t).0 (sym c.tally.ensures ∙ open_)).1
    ]
