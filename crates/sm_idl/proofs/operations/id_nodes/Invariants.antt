use Rattle.std.proofs.Common.{◌≡◌, ◌++◌, map}
use Rattle.std.specs.Vec.Iter.{into_iter_items}
use Rattle.sm_model.specs.Raw.{raw_id}
use Rattle.sm_model.specs.RawView.{raws_view}
use Rattle.sm_idl.proofs.operations.id_nodes.Given as goal

abbrev pub invariant-loop-id : goal.invariant-loop-id
invariant-loop-id l =
    raws_view l.nodes.items ++ map raw_id (into_iter_items l.id-iterator) ≡ map raw_id (into_iter_items l.initial.id-iterator)
