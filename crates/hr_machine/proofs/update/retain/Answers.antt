use Rattle.std.proofs.Common.{rules, not, [], ◌∷◌}
use Rattle.std.proofs.lemmas.Fn.{filter_same}
use Rattle.hr_meaning.specs.Truth.{is_kept}
use Rattle.hr_machine.proofs.update.retain.Goals as goal

pub returns : goal.returns
returns c = filter_same _ (λ row. not (is_kept c.args.filter.now (row ∷ []))) _ (λ x b f' k. search rules) _ _ c.retain.ensures.filtered
