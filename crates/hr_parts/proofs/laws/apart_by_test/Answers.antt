use Rattle.hr_parts.proofs.Cover.{apart_by_test}
use Rattle.hr_parts.proofs.laws.apart_by_test.Goals as goal

pub returns : goal.returns
returns c = apart_by_test
