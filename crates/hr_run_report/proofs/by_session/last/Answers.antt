use Rattle.std.proofs.Common.{ap, ◌∙◌}
use Rattle.hr_base.specs.Lists.{last_of}
use Rattle.hr_progress.proofs.Lookups.{last_got}
use Rattle.hr_run_report.proofs.by_session.last.Goals as goal

pub returns : goal.returns
returns c = c.last.ensures.value ∙ last_got c.as_slice.result.now ∙ ap last_of c.as_slice.ensures
