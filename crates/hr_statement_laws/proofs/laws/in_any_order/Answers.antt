use Rattle.hr_statement_laws.proofs.AnyOrder.{plain_in_any_order, grouped_in_any_order, fitting_in_any_order, exec_in_any_order}
use Rattle.hr_statement_laws.proofs.laws.in_any_order.Goals as goal

pub returns-clause-plain : goal.returns-clause-plain
returns-clause-plain c = plain_in_any_order

pub returns-clause-grouped : goal.returns-clause-grouped
returns-clause-grouped c = grouped_in_any_order

pub returns-clause-fitting : goal.returns-clause-fitting
returns-clause-fitting c = fitting_in_any_order

pub returns-clause-run : goal.returns-clause-run
returns-clause-run c = exec_in_any_order
