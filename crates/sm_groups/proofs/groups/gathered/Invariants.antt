use Rattle.std.proofs.Common.{◌≡◌, ◌++◌}
use Rattle.std.specs.Vec.Iter.{into_iter_items}
use Rattle.sm_groups.specs.Groups.{grouped, groups_view, resumed_by}
use Rattle.sm_groups.proofs.groups.gathered.Given as goal

abbrev pub invariant-loop-key : goal.invariant-loop-key
invariant-loop-key g l = groups_view l.groups.items ++ resumed_by l.current (grouped (into_iter_items l.key-iterator))
    ≡ grouped (into_iter_items l.initial.key-iterator)
