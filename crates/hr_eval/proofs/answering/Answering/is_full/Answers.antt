use Rattle.std.proofs.Common.{subst, sym, ◌∙◌}
use Rattle.hr_eval.specs.Answerings.{IsSoFar}
use Rattle.hr_eval.proofs.AnsweringLaws.{grouped_full}
use Rattle.hr_eval.proofs.answering.Answering.is_full.Goals as goal

pub returns-in-Grouped : goal.returns-in-Grouped
returns-in-Grouped c = λ s kept more so_far full.
    let grouped = subst (λ a. IsSoFar s a kept) c.in-Grouped.is so_far in
    grouped_full s kept more grouped.0 (sym (c.is_full-in-Grouped.ensures s.groups s.items kept grouped.1) ∙ full)
