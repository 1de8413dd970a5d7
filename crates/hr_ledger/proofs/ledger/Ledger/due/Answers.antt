use Rattle.std.proofs.Common.{ap, ◌∙◌}
use Rattle.hr_history.specs.Rules.{due, due_in}
use Rattle.hr_ledger.specs.Chronicle.{Chronicle, history_in}
use Rattle.hr_ledger.proofs.ledger.Ledger.due.Goals as goal

pub returns : goal.returns
returns c = c.due.ensures ∙ (λ i. due_in (c.self.invariant.kept.view i) (c.self.invariant.kept.turn i)) ∙ ap (λ (s : Chronicle). due s.f (history_in s)) c.self.view_is
