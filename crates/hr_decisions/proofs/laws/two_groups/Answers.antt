use Rattle.hr_records.proofs.Counts.{shared}
use Rattle.hr_decisions.proofs.laws.two_groups.Goals as goal

pub returns : goal.returns
returns c f group other first second = shared f group other first second
