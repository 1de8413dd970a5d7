use Rattle.hr_parts.proofs.Together.{same_answers_first, same_answers_second, same_in_the_end}
use Rattle.hr_parts.proofs.laws.either_order.Goals as goal

pub returns-clause-database : goal.returns-clause-database
returns-clause-database c = same_in_the_end

pub returns-clause-second : goal.returns-clause-second
returns-clause-second c = same_answers_second

pub returns-clause-first : goal.returns-clause-first
returns-clause-first c = same_answers_first
