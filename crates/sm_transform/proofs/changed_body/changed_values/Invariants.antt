use Rattle.std.proofs.Common.{◌≡◌, ◌++◌, drop}
use Rattle.std.specs.List.{filter_map}
use Rattle.sm_tree.specs.View.{members_view}
use Rattle.sm_transform.specs.steps.Changing.{named_reference}
use Rattle.sm_transform.proofs.changed_body.changed_values.Given as goal

abbrev pub invariant-loop-pair : goal.invariant-loop-pair
invariant-loop-pair g l =
    members_view l.left.items ++ filter_map (named_reference (g.C.ChangesIds.after l.change)) (members_view (drop l.pair-index l.pairs))
    ≡ filter_map (named_reference (g.C.ChangesIds.after l.change)) (members_view l.pairs)
