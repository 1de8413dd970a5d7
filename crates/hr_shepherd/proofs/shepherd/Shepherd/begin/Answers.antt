use Rattle.std.proofs.Common.{sym, subst, ◌∙◌}
use Rattle.hr_moves.specs.Callers.{Grows}
use Rattle.hr_ledger.specs.Chronicle.{Chronicle, IsQuiet}
use Rattle.hr_shepherd.proofs.Growing.{by_turn}
use Rattle.hr_shepherd.proofs.shepherd.Shepherd.begin.Goals as goal

pub begin-requires-clause-quiet : goal.begin-requires-clause-quiet
begin-requires-clause-quiet c = subst IsQuiet (sym c.deref_mut.ensures.value) c.self.invariant

pub invariant_of-self : goal.invariant_of-self
invariant_of-self c = subst IsQuiet (sym (c.in_err-txn.ensures.err ∙ c.deref_mut.ensures.value)) c.self.invariant

pub returns-clause-grows : goal.returns-clause-grows
returns-clause-grows c = subst (λ (s : Chronicle). Grows c.args.caller s.entries c.begin.new.self.entries) (c.deref_mut.ensures.value ∙ c.self.view_is) (by_turn c.args.caller _ _ _ c.in_ok-txn.ensures.ok)
