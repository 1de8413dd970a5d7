use Rattle.hr_plan.proofs.SpanLaws.{needs_apart}
use Rattle.hr_plan.proofs.laws.needs_are_apart.Goals as goal

pub returns : goal.returns
returns c = needs_apart
