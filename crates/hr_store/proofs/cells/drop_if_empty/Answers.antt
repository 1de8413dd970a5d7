use Rattle.std.proofs.Common.{rules}
use Rattle.hr_store.proofs.CellLaws.{gone_same}
use Rattle.hr_store.proofs.cells.drop_if_empty.Goals as goal

pub returns-then-is_empty_at : goal.returns-then-is_empty_at
returns-then-is_empty_at c = λ q. gone_same c.remove.new.self c.args.cells.now c.args.place q (c.remove.ensures.updates.0 q) (search rules)
