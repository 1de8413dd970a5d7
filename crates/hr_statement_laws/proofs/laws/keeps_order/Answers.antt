use Rattle.hr_statement_laws.proofs.Ordered.{keeps_order}
use Rattle.hr_statement_laws.proofs.laws.keeps_order.Goals as goal

pub returns : goal.returns
returns c = keeps_order
