use Rattle.std.proofs.Common.{map, rules}
use Rattle.std.specs.Ordering.{is_lt}
use Rattle.std.proofs.lemmas.List.Sorted.{IsPartitionPoint-from_clause}
use Rattle.sm_shapes.specs.ValueView.{val_of}
use Rattle.sm_examples.specs.ExampleView.{example_data}
use Rattle.sm_examples.specs.InputOrder.{rank, rank_at, rank_cmp}
use Rattle.sm_examples.proofs.ExamplesAt.{taken, taken_none}
use Rattle.sm_examples.proofs.InputOrders.{found_or_none, none_at_end, places_parted}
use Rattle.sm_examples.proofs.finding.first_example.Goals as goal

pub returns-in-Some : goal.returns-in-Some
returns-in-Some c =
    let es = map example_data c.args.examples.now in
    let places = c.args.places.now in
    let o = c.args.operation in
    let v = val_of c.args.input.now in
    let at = c.partition_point-at.result in
    let point = IsPartitionPoint-from_clause (λ k. is_lt (rank_cmp (rank_at es k) (rank 1 o v 0))) places at
    c.partition_point-at.ensures.partitioned (places_parted es places (rank 1 o v 0) c.requires) (λ a r g called. search rules) in
    found_or_none es places c.requires o v at point c.in-Some.place.now
    (taken places at c.in-Some.place.now c.in-Some.ensures.lookup.0 c.in-Some.ensures.lookup.1) c.example_for.result c.example_for.ensures

pub returns-in-None : goal.returns-in-None
returns-in-None c =
    let es = map example_data c.args.examples.now in
    let places = c.args.places.now in
    let o = c.args.operation in
    let v = val_of c.args.input.now in
    let at = c.partition_point-at.result in
    let point = IsPartitionPoint-from_clause (λ k. is_lt (rank_cmp (rank_at es k) (rank 1 o v 0))) places at
    c.partition_point-at.ensures.partitioned (places_parted es places (rank 1 o v 0) c.requires) (λ a r g called. search rules) in
    none_at_end es places c.requires o v at point (taken_none places at c.in-None.ensures.lookup.0)
