use Rattle.std.proofs.Common.{drop}
use Rattle.std.specs.Prelude.{◌↔◌}
use Rattle.sm_tree.specs.Node.{members_of}
use Rattle.sm_tree.specs.View.{members_view}
use Rattle.sm_transform.specs.steps.Knowing.{HasFieldKey}
use Rattle.sm_transform.proofs.knowing.some_key.Given as goal

abbrev pub invariant-loop-field : goal.invariant-loop-field
invariant-loop-field l =
    HasFieldKey l.kind l.namespace (members_of (members_view (drop l.field-index l.fields)))
    ↔ HasFieldKey l.kind l.namespace (members_of (members_view l.fields))
