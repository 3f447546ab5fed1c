use Rattle.std.proofs.Common.{◌≡◌, drop, map}
use Rattle.sm_model.specs.GraphView.{AreShapeNumbers, maps_of}
use Rattle.sm_model.specs.Reaching.{id_of_number}
use Rattle.sm_http_rules.specs.steps.BoundTargets.{has_payload}
use Rattle.sm_http_rules.proofs.bound_targets.has_payload.Given as goal

abbrev pub invariant-loop-member : goal.invariant-loop-member
invariant-loop-member l = record {
  numbers : AreShapeNumbers l.graph (drop l.member-index l.members);
  told : has_payload (maps_of l.graph) (map (id_of_number l.graph) (drop l.member-index l.members))
      ≡ has_payload (maps_of l.graph) (map (id_of_number l.graph) l.members);
}
