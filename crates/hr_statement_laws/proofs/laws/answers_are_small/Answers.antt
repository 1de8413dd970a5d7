use Rattle.hr_statement_laws.proofs.Sizes.{answers_are_small}
use Rattle.hr_statement_laws.proofs.laws.answers_are_small.Goals as goal

pub returns : goal.returns
returns c = answers_are_small
