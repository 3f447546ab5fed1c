use Rattle.std.proofs.Common.{◌≡◌, ◌++◌, drop}
use Rattle.std.specs.List.{filter_map}
use Rattle.sm_tree.specs.View.{nodes_view}
use Rattle.sm_transform.specs.IdChanges.{reference_after}
use Rattle.sm_transform.proofs.changed_body.changed_entries.Given as goal

abbrev pub invariant-loop-item : goal.invariant-loop-item
invariant-loop-item g l =
    nodes_view l.entries.items ++ filter_map (reference_after (g.C.ChangesIds.after l.change)) (nodes_view (drop l.item-index l.items))
    ≡ filter_map (reference_after (g.C.ChangesIds.after l.change)) (nodes_view l.items)
