use Rattle.std.proofs.Common.{w64}
use Rattle.std.proofs.lemmas.Int.{to_z-of_z}
use mir.Val.{SFits}
use Rattle.hr_reader.proofs.put.place_in_order.Goals as goal

pub returns-clause-place : goal.returns-clause-place
returns-clause-place c =
    let fits : SFits w64 c.args.key = c.ranges.key in
    simp to_z-of_z at c.place_of.ensures.place
