use Rattle.std.proofs.Common.{arith}
use Rattle.std.proofs.lemmas.Result.{on_ok_weaker}
use Rattle.hr_eval.specs.Tuples.{rows_in}
use Rattle.hr_eval.proofs.GroupLaws.{groups_ascend, grouped_when_full, grouped_one_more}
use Rattle.hr_eval.proofs.groups.Groups.add.Goals as goal

pub put-requires : goal.put-requires
put-requires c = groups_ascend c.args.columns.now c.args.items.now c.args.self.now c.requires.0 c.requires.1 (omega arith)

pub returns-then-len-gt-MAX_ROWS : goal.returns-then-len-gt-MAX_ROWS
returns-then-len-gt-MAX_ROWS c = λ kept so_far. grouped_when_full c.args.columns.now c.args.items.now c.args.self.now kept (rows_in c.args.tuple) so_far (omega arith)

pub returns : goal.returns
returns c =
    on_ok_weaker c.put.result
    (λ e kept so_far. grouped_one_more c.args.columns.now c.args.items.now c.args.self.now _ kept (rows_in c.args.tuple) so_far (omega arith) e)
    c.put.ensures
