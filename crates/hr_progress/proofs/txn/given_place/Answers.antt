use Rattle.std.proofs.Common.{◌-◌, refl, length, sym, ap, ◌∙◌}
use Rattle.std.specs.Option.{option_map}
use Rattle.std.proofs.lemmas.Option.{slice_get_read, slice_get_past}
use Rattle.hr_progress.specs.declared.txn.Given.{Given}
use Rattle.hr_progress.proofs.Lookups.{numbered_at}
use Rattle.hr_progress.proofs.txn.given_place.Goals as goal

pub returns-in-Some : goal.returns-in-Some
returns-in-Some c =
    let gs = c.args.given.now in
    sym (ap (option_map (λ (g : Given). g.reply)) (numbered_at gs c.args.index c.if-index-eq0.false ∙ slice_get_read gs (length gs) (c.args.index - 1) c.in-Some.given.now refl c.in-Some.ensures.lookup.3.0 c.in-Some.ensures.lookup.1))

pub returns-in-None : goal.returns-in-None
returns-in-None c =
    let gs = c.args.given.now in
    sym (ap (option_map (λ (g : Given). g.reply)) (numbered_at gs c.args.index c.if-index-eq0.false ∙ slice_get_past gs (c.args.index - 1) c.in-None.ensures.lookup.3))
