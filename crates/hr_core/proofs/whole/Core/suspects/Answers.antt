use Rattle.std.proofs.Common.{ap, ◌∙◌}
use Rattle.hr_ledger.specs.Chronicle.{Chronicle, history_in}
use Rattle.hr_core.specs.Suspects as suspicions
use Rattle.hr_core.proofs.whole.Core.suspects.Goals as goal

pub returns : goal.returns
returns c = c.self.invariant.suspects ∙ ap (λ (s : Chronicle). suspicions.suspects (history_in s)) c.self.view_is
