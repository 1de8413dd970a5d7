use Rattle.std.proofs.Common.{◌≡◌, take}
use Rattle.hr_rel.proofs.seq.SeqTryCopy.try_copy.Given as goal

abbrev pub invariant-loop-item : goal.invariant-loop-item
invariant-loop-item g l = l.copy.items ≡ take l.item-index l.self
