use Rattle.std.proofs.Common.{ap, sym, subst, ◌∙◌}
use Rattle.hr_history.specs.Jobs.{job_in}
use Rattle.hr_history.specs.View.{View}
use Rattle.hr_moves.specs.Callers.{Grows}
use Rattle.hr_ledger.specs.Chronicle.{Chronicle, view_in, HasBegun, IsQuiet}
use Rattle.hr_shepherd.proofs.Growing.{by_turn}
use Rattle.hr_shepherd.proofs.Lent.{job_due}
use Rattle.hr_shepherd.proofs.shepherd.Shepherd.take.Goals as goal

pub take-requires-clause-quiet : goal.take-requires-clause-quiet
take-requires-clause-quiet c = subst IsQuiet (sym c.deref_mut.ensures.value) c.self.invariant

pub invariant_of-self : goal.invariant_of-self
invariant_of-self c = subst IsQuiet (sym (c.in_err-take.ensures.err ∙ c.deref_mut.ensures.value)) c.self.invariant

pub returns-clause-grows : goal.returns-clause-grows
returns-clause-grows c = subst (λ (s : Chronicle). Grows c.args.caller s.entries c.take.new.self.entries) (c.deref_mut.ensures.value ∙ c.self.view_is) (by_turn c.args.caller _ _ _ c.in_ok-take.ensures.ok)

pub statement_for-requires : goal.statement_for-requires
statement_for-requires c =
    let now = c.ledger.ensures ∙ c.deref.ensures ∙ c.self.view_is in
    let begun = subst HasBegun (c.ledger-2.ensures ∙ c.deref-2.ensures ∙ c.self.view_is) c.begun.ensures in
    let due = sym (c.next.ensures ∙ ap (λ (v : View). job_in v c.args.replica) (c.view.ensures ∙ ap view_in now)) ∙ c.in-Some.is in
    job_due c.args.self.now c.args.replica begun c.requires.known c.in-Some.job due
