use Rattle.hr_sane.proofs.MeasureLaws.{due_fits, due_falls}
use Rattle.hr_sane.proofs.laws.measure_falls.Goals as goal

pub returns-clause-fits : goal.returns-clause-fits
returns-clause-fits c v turn e sane due = due_fits v 0 0 sane turn e due

pub returns-clause-falls : goal.returns-clause-falls
returns-clause-falls c v turn place asks e sane due = due_falls v place asks sane turn e due
