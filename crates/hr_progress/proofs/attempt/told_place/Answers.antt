use Rattle.std.proofs.Common.{◌-◌, Option, unwrap_or, refl, length, sym, ap, ◌∙◌}
use Rattle.std.specs.Option.{option_map}
use Rattle.std.proofs.lemmas.Option.{slice_get_read, slice_get_past}
use Rattle.hr_progress.specs.declared.attempt.Told.{Told}
use Rattle.hr_progress.proofs.Lookups.{numbered_at}
use Rattle.hr_progress.proofs.attempt.told_place.Goals as goal

pub returns-in-Some : goal.returns-in-Some
returns-in-Some c =
    let ts = c.args.told.now in
    sym (ap (λ (o : Option Told). unwrap_or (option_map (λ (t : Told). t.at) o) 0) (numbered_at ts c.args.index c.if-index-eq0.false ∙ slice_get_read ts (length ts) (c.args.index - 1) c.in-Some.told.now refl c.in-Some.ensures.lookup.3.0 c.in-Some.ensures.lookup.1))

pub returns-in-None : goal.returns-in-None
returns-in-None c =
    let ts = c.args.told.now in
    sym (ap (λ (o : Option Told). unwrap_or (option_map (λ (t : Told). t.at) o) 0) (numbered_at ts c.args.index c.if-index-eq0.false ∙ slice_get_past ts (c.args.index - 1) c.in-None.ensures.lookup.3))
