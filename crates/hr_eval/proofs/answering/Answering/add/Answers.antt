use Rattle.std.proofs.Common.{ap, subst, ◌∙◌}
use Rattle.std.specs.List.{list_all}
use Rattle.std.proofs.lemmas.Result.{on_ok_weaker}
use Rattle.hr_rel.specs.Fit.{is_plain}
use Rattle.hr_eval.specs.Tuples.{rows_in}
use Rattle.hr_eval.specs.Groups.{steps}
use Rattle.hr_eval.specs.Answerings.{IsSoFar}
use Rattle.hr_eval.proofs.AnsweringLaws.{all_plain, whole_one_more}
use Rattle.hr_eval.proofs.answering.Answering.add.Goals as goal

pub add-requires : goal.add-requires
add-requires c =
    let so_far = subst (λ a. IsSoFar c.args.select.now a c.requires.0) c.in-Plain.is c.requires.1 in
    ap (list_all is_plain) c.as_slice-items.ensures ∙ all_plain c.args.select.now so_far.0

pub returns-in-Whole : goal.returns-in-Whole
returns-in-Whole c =
    on_ok_weaker c.step.result
    (λ e kept so_far. whole_one_more c.args.select.now c.in-Whole.tallies c.step.new.tallies kept (rows_in c.args.tuple)
    (subst (λ a. IsSoFar c.args.select.now a kept) c.in-Whole.is so_far)
    (e ∙ ap (λ items. steps (rows_in c.args.tuple) items c.in-Whole.tallies) c.as_slice-items.ensures))
    c.step.ensures
