use Rattle.std.proofs.Common.{ℕ, Option, length, unwrap_or, ap, w64}
use Rattle.std.proofs.lemmas.Int.{to_z-of_z}
use mir.Val.{SFits}
use Rattle.hr_reader.proofs.put.place_among.Goals as goal

pub returns-in-Some-clause-place : goal.returns-in-Some-clause-place
returns-in-Some-clause-place c =
    let fits : SFits w64 c.args.key = c.ranges.key in
    ap (λ (at : Option ℕ). unwrap_or at (length c.args.table.now)) (simp to_z-of_z at c.in-Some.ensures.first)

pub returns-in-None-clause-place : goal.returns-in-None-clause-place
returns-in-None-clause-place c =
    let fits : SFits w64 c.args.key = c.ranges.key in
    ap (λ (at : Option ℕ). unwrap_or at (length c.args.table.now)) (simp to_z-of_z at c.in-None.ensures.first)
