use Rattle.hr_sane.proofs.Begun.{begun_sane, begun_fits}
use Rattle.std.proofs.Common.{length, ◌∙◌}
use Rattle.hr_history.specs.Transactions.{asks}
use Rattle.hr_history.specs.View.{view_of}
use Rattle.hr_history.proofs.ViewSteps.{view_same}
use Rattle.hr_records.proofs.RuleLemmas.{begun_before}
use Rattle.hr_sane.proofs.MoveLaws.{moves}
use Rattle.hr_sane.proofs.laws.moves_are_steps.Goals as goal

pub returns-clause-step : goal.returns-clause-step
returns-clause-step c v place asks e sane fits = moves v place asks sane e fits

pub returns-clause-view : goal.returns-clause-view
returns-clause-view c f sessions e before begun =
    view_same f sessions e before begun
    ∙ moves (view_of f before) (length before) (asks before) (begun_sane f sessions before (begun_before f sessions e before begun)) e.event (begun_fits f sessions e before begun)
