use Rattle.hr_sane.proofs.First.{first_sane}
use Rattle.hr_sane.proofs.Stays.{stays_sane}
use Rattle.hr_sane.proofs.laws.sane_views_stay_sane.Goals as goal

pub returns-clause-first : goal.returns-clause-first
returns-clause-first c f = first_sane f

pub returns-clause-next : goal.returns-clause-next
returns-clause-next c v place asks e sane fits = stays_sane v place asks e sane fits
