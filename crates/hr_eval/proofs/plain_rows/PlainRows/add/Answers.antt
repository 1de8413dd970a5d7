use Rattle.std.proofs.Common.{◌+◌, min, ap, ◌∙◌}
use Rattle.hr_base.specs.declared.limits.TheConstants.{MAX_ROWS}
use Rattle.hr_eval.specs.Tuples.{rows_in}
use Rattle.hr_eval.proofs.Listed.{listed_one_more}
use Rattle.hr_eval.proofs.plain_rows.PlainRows.add.Goals as goal

pub returns-clause-ok : goal.returns-clause-ok
returns-clause-ok c kept so_far =
    let counted = c.one_more-self.ensures ∙ ap (λ n. min n MAX_ROWS + 1) c.evaluate.ensures.count in
    listed_one_more c.args.items.now c.args.self.now _ kept (rows_in c.args.tuple) so_far counted c.in_ok-evaluate.ensures.ok
