-- The view after an event is sane.
use Rattle.std.proofs.Common.{ℕ, subst}
use Rattle.hr_history.specs.declared.entry.Event.{Event}
use Rattle.hr_history.specs.View.{View}
use Rattle.hr_moves.specs.Sane.{IsSane}
use Rattle.hr_moves.specs.Fits.{Fits}
use Rattle.hr_moves.specs.Moves.{view_after}
use Rattle.hr_sane.proofs.MoveLaws.{moves}
use Rattle.hr_sane.proofs.Stays.{stays_sane}

pub sane_after : (v : View) (place asks : ℕ) (e : Event) → IsSane v → Fits v e → IsSane (view_after v place asks e)
sane_after v place asks e sane fits = subst IsSane (moves v place asks sane e fits) (stays_sane v place asks e sane fits)
