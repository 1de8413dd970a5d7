use Rattle.std.proofs.Common.{ℤ, Option, w64, rules, length, unwrap_or, ap, sym, ◌∙◌}
use Rattle.std.specs.Option.{option_map}
use Rattle.std.proofs.lemmas.Int.{to_z-of_z}
use mir.Val.{SFits}
use Rattle.hr_meaning.specs.Insert.{place_for}
use Rattle.hr_reader.proofs.put.place_for.Goals as goal

pub returns-in-Some-clause-place : goal.returns-in-Some-clause-place
returns-in-Some-clause-place c =
    let fits : SFits w64 c.in-Some.key = search rules in
    (simp to_z-of_z at c.place_in_order.ensures.place) ∙ ap (λ (k : Option ℤ). unwrap_or (option_map (place_for c.args.table.now) k) (length c.args.table.now)) (sym c.in-Some.is)

pub returns-in-Some-2-clause-place : goal.returns-in-Some-2-clause-place
returns-in-Some-2-clause-place c =
    let fits : SFits w64 c.in-Some-2.key = search rules in
    (simp to_z-of_z at c.place_among.ensures.place) ∙ ap (λ (k : Option ℤ). unwrap_or (option_map (place_for c.args.table.now) k) (length c.args.table.now)) (sym c.in-Some-2.is)
