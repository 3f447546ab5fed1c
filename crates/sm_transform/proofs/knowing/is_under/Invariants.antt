use Rattle.std.proofs.Common.{◌≡◌, drop}
use Rattle.std.specs.List.{list_any}
use Rattle.sm_tree.specs.View.{members_view}
use Rattle.sm_model.specs.Given.{are_under}
use Rattle.sm_transform.specs.Namespaces.{is_of_namespace}
use Rattle.sm_transform.proofs.knowing.is_under.Given as goal

abbrev pub invariant-loop-pair : goal.invariant-loop-pair
invariant-loop-pair l =
    list_any (is_of_namespace l.namespace) (are_under (members_view (drop l.pair-index l.pairs)))
    ≡ list_any (is_of_namespace l.namespace) (are_under (members_view l.pairs))
