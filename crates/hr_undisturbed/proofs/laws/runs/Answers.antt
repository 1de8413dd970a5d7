use Rattle.hr_undisturbed.proofs.SmoothLemmas.{undisturbed, smooth}
use Rattle.hr_undisturbed.proofs.laws.runs.Goals as goal

pub returns-clause-undisturbed : goal.returns-clause-undisturbed
returns-clause-undisturbed c locking sc h dumps quiet run = undisturbed locking sc h dumps quiet run

pub returns-clause-smooth : goal.returns-clause-smooth
returns-clause-smooth c locking sc h dumps quiet run = smooth locking sc h dumps quiet run
