use Rattle.std.proofs.Common.{w64, ap, take, ◌∙◌}
use Rattle.std.specs.List.{list_any}
use Rattle.std.proofs.lemmas.Int.{to_z-of_z}
use mir.Val.{SFits}
use Rattle.hr_meaning.specs.Insert.{has_key}
use Rattle.hr_keys.proofs.Places.{clear_near}
use Rattle.hr_keys.proofs.span.near.Goals as goal

pub returns-clause-clear : goal.returns-clause-clear
returns-clause-clear c =
    let fits : SFits w64 c.args.key = c.ranges.key in
    let clear = clear_near c.args.key c.args.table.now c.place_of-to.result c.requires (simp to_z-of_z at c.place_of-to.ensures.place) in
    (ap (λ m. list_any (has_key c.args.key) (take m c.args.table.now)) c.saturating_sub.ensures ∙ clear.0, clear.1)
