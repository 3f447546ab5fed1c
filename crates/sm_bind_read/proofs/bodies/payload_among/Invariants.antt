use Rattle.std.proofs.Common.{◌≡◌, ◌+◌, drop}
use Rattle.std.specs.Option.{option_map}
use Rattle.sm_bind.specs.BoundView.{bound_of}
use Rattle.sm_bind_read.specs.steps.Bodies.{payload_place}
use Rattle.sm_bind_read.proofs.bodies.payload_among.Given as goal

abbrev pub invariant-loop-index : goal.invariant-loop-index
invariant-loop-index l =
    option_map (λ n. n + l.index) (payload_place (bound_of l.place) (drop l.index l.members)) ≡ payload_place (bound_of l.place) l.members
