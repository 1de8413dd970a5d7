use Rattle.hr_parts.proofs.Together.{same_database}
use Rattle.hr_parts.proofs.laws.known_by_its_rows.Goals as goal

pub returns : goal.returns
returns c = same_database
