use Rattle.std.proofs.Common.{ap, sym, subst, ◌∙◌}
use Rattle.hr_rel.specs.Database.{Database}
use Rattle.hr_rel.specs.Holds.{IsOrdered}
use Rattle.hr_statement_laws.proofs.Shape.{keeps_catalog}
use Rattle.hr_statement_laws.proofs.Ordered.{keeps_order}
use Rattle.hr_range_engine.proofs.statement.run_on.Goals as goal

pub returns-clause-ordered : goal.returns-clause-ordered
returns-clause-ordered c = subst IsOrdered (sym c.in_ok-answer.ensures.after) (keeps_order c.args.machine.now c.args.stmt.now c.requires)

pub returns-clause-catalog : goal.returns-clause-catalog
returns-clause-catalog c = ap (λ (d : Database). d.catalog) c.in_ok-answer.ensures.after ∙ keeps_catalog c.args.machine.now c.args.stmt.now
