use Rattle.std.proofs.Common.{subst, sym}
use Rattle.hr_rel.specs.Database.{Database}
use Rattle.hr_rel.specs.Holds.{IsOrdered}
use Rattle.hr_statement_laws.proofs.StillHolds.{fitting_is_ordered}
use Rattle.hr_range_engine.proofs.engine.range_engine.Goals as goal

pub new-requires-2-clause-ordered : goal.new-requires-2-clause-ordered
new-requires-2-clause-ordered c = subst (λ (d : Database). IsOrdered d) (sym c.in_ok-store.ensures.base) (fitting_is_ordered (record { catalog = c.args.catalog.now; tables = c.args.rows.now }) c.requires.sound c.requires.holds)
