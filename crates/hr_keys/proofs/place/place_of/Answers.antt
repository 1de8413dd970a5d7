use Rattle.std.proofs.Common.{rules}
use Rattle.std.proofs.lemmas.List.Sorted.{IsPartitionPoint-from_clause}
use Rattle.std.specs.Prelude.{not}
use Rattle.hr_meaning.specs.Insert.{comes_after}
use Rattle.hr_keys.proofs.Places.{parted, place_found}
use Rattle.hr_keys.proofs.place.place_of.Goals as goal

pub returns-clause-place : goal.returns-clause-place
returns-clause-place c =
    let parts = IsPartitionPoint-from_clause (λ row. not (comes_after c.args.key row)) c.args.table.now _ c.partition_point.ensures.partitioned
    (λ i j d le lt o. parted c.args.key c.args.table.now c.requires i j d le lt o) (λ a r q k. search rules) in
    place_found c.args.key c.args.table.now _ c.partition_point.ensures.bound parts.0 parts.1
