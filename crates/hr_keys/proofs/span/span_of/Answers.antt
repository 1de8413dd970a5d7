use Rattle.std.proofs.Common.{w64, rules}
use Rattle.std.proofs.lemmas.Int.{to_z-of_z}
use mir.Val.{SFits}
use Rattle.hr_keys.proofs.Conditions.{clear_of_kept}
use Rattle.hr_keys.proofs.span.span_of.Goals as goal

pub returns-in-Some-clause-clear : goal.returns-in-Some-clause-clear
returns-in-Some-clause-clear c =
    let fits : SFits w64 c.in-Some.key = search rules in
    clear_of_kept c.in-Some.key c.args.filter.now c.near.result.from c.near.result.to c.args.table.now c.in-Some.ensures (simp to_z-of_z at c.near.ensures.clear)
