use Rattle.std.proofs.Common.{rules, []}
use Rattle.std.proofs.lemmas.List.Sorted.{IsPartitionPoint-from_clause}
use Rattle.hr_meaning.specs.Select.{group_of}
use Rattle.hr_eval.specs.Tuples.{rows_in}
use Rattle.hr_eval.specs.Groups.{is_over}
use Rattle.hr_eval.proofs.GroupLaws.{parted}
use Rattle.hr_eval.proofs.groups.place.Goals as goal

pub returns-clause-before : goal.returns-clause-before
returns-clause-before c =
    let key = group_of c.args.columns.now (rows_in c.args.tuple) in
    (IsPartitionPoint-from_clause (is_over key) c.args.groups.now _ c.partition_point.ensures.partitioned (λ i j d le lt o. parted [] [] key c.args.groups.now c.requires i j d le lt o) (λ a r q k. search rules)).0

pub returns-clause-behind : goal.returns-clause-behind
returns-clause-behind c =
    let key = group_of c.args.columns.now (rows_in c.args.tuple) in
    (IsPartitionPoint-from_clause (is_over key) c.args.groups.now _ c.partition_point.ensures.partitioned (λ i j d le lt o. parted [] [] key c.args.groups.now c.requires i j d le lt o) (λ a r q k. search rules)).1
