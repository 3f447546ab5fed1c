use Rattle.std.proofs.Common.{nat_lt, rules}
use Rattle.std.proofs.lemmas.List.Sorted.{IsPartitionPoint-from_clause}
use Rattle.sm_shapes.proofs.FieldPlaces.{parts_at}
use Rattle.sm_shapes.proofs.value_puts.place_of.Goals as goal

pub returns-clause-place : goal.returns-clause-place
returns-clause-place c =
    let fs = c.args.fields.now in
    let k = c.args.member in
    parts_at k fs c.partition_point.result c.requires
    (λ q. IsPartitionPoint-from_clause (λ f. nat_lt f.0 k) fs c.partition_point.result c.partition_point.ensures.partitioned q
    (λ a r g called. search rules))
