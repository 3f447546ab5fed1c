use Rattle.std.proofs.Common.{◌≡◌, ◌++◌, drop}
use Rattle.sm_tree.specs.View.{members_view}
use Rattle.sm_model.specs.SaidView.{traits_view}
use Rattle.sm_merge.specs.Stated.{traits_stated}
use Rattle.sm_merge.specs.steps.Known.{known}
use Rattle.sm_merge.proofs.stated.meant_traits.Given as goal

abbrev pub invariant-loop-one : goal.invariant-loop-one
invariant-loop-one l =
    members_view l.traits.items ++ traits_stated (known l.names) (traits_view (drop l.one-index l.uses))
    ≡ traits_stated (known l.names) (traits_view l.uses)
