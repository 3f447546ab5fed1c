use Rattle.std.proofs.Common.{◌≡◌, ◌++◌, drop}
use Rattle.std.specs.List.{filter_map}
use Rattle.sm_tree.specs.View.{members_view}
use Rattle.sm_transform.specs.steps.Changing.{named_field}
use Rattle.sm_transform.proofs.changed_body.changed_fields.Given as goal

abbrev pub invariant-loop-pair : goal.invariant-loop-pair
invariant-loop-pair g l =
    members_view l.left.items ++ filter_map (named_field (g.C.ChangesIds.after l.change) l.kind) (members_view (drop l.pair-index l.pairs))
    ≡ filter_map (named_field (g.C.ChangesIds.after l.change) l.kind) (members_view l.pairs)
