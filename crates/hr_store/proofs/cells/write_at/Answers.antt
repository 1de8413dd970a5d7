use Rattle.std.proofs.Common.{rules}
use Rattle.hr_store.proofs.CellLaws.{some_stays}
use Rattle.hr_store.proofs.cells.write_at.Goals as goal

pub returns-clause-stays : goal.returns-clause-stays
returns-clause-stays c = λ q there. some_stays _ _ _ _ (((c.get_mut.follows.holds c.write.new.self).3 (search rules)).0 q) there
