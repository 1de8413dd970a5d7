use Rattle.std.proofs.Common.{ap, ◌∙◌}
use Rattle.hr_base.specs.Lists.{last_of}
use Rattle.hr_history.specs.View.{View}
use Rattle.hr_progress.proofs.Lookups.{last_got}
use Rattle.hr_progress.proofs.view.View.last_reply.Goals as goal

pub returns : goal.returns
returns c = c.last.ensures.value ∙ last_got c.deref.result.now ∙ ap last_of c.deref.ensures.value ∙ ap (λ (v : View). last_of v.replies) c.self.view_is
