use Rattle.std.proofs.Common.{w64, ◌∙◌}
use Rattle.std.proofs.lemmas.Int.{to_z-of_z}
use mir.Val.{SFits}
use Rattle.hr_meaning.specs.Insert.{has_key}
use Rattle.hr_machine.proofs.Spans.{any_within}
use Rattle.hr_range_engine.proofs.write.is_left.Goals as goal

pub returns : goal.returns
returns c =
    let fits : SFits w64 c.args.key = c.ranges.key in
    let span = c.near-span.result in
    let clear = simp to_z-of_z at c.near-span.ensures.clear in
    (simp to_z-of_z at c.contains_key.ensures) ∙ any_within (has_key c.args.key) c.args.rows.now span.from span.to c.near-span.ensures.within.0 clear.0 clear.1
