use Rattle.std.proofs.Common.{ap, ◌∙◌, subst}
use Rattle.hr_history.specs.Rules.{due}
use Rattle.hr_ledger.specs.Chronicle.{Chronicle, history_in, HasBegun}
use Rattle.hr_core.proofs.whole.Core.due.Goals as goal

pub returns-clause-due : goal.returns-clause-due
returns-clause-due c = c.due.ensures ∙ ap (λ (s : Chronicle). due s.f (history_in s)) c.self.view_is

pub returns-clause-begun : goal.returns-clause-begun
returns-clause-begun c = subst HasBegun c.self.view_is c.begun.ensures
