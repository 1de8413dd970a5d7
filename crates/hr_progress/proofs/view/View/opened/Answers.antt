use Rattle.std.proofs.Common.{◌∙◌, ap}
use Rattle.hr_moves.specs.Kept.{open_in}
use Rattle.hr_progress.specs.Plain.{plain}
use Rattle.hr_progress.proofs.Words.{opened_seen}
use Rattle.hr_progress.proofs.view.View.opened.Goals as goal

pub returns : goal.returns
returns c = c.deref.ensures.value ∙ c.self.invariant.kept.opened ∙ opened_seen (plain c.self.inside) ∙ ap open_in c.self.view_is
