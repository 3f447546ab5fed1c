use Rattle.std.proofs.Common.{◌≡◌, drop, map}
use Rattle.std.specs.List.{list_all}
use Rattle.sm_model.specs.GraphView.{AreShapeNumbers, maps_of}
use Rattle.sm_model.specs.Reaching.{id_of_number}
use Rattle.sm_rules.specs.Bindings.{passes, targets}
use Rattle.sm_http_rules.specs.steps.Allowing.{test_of}
use Rattle.sm_http_rules.proofs.allows.all_target.Given as goal

abbrev pub invariant-loop-member : goal.invariant-loop-member
invariant-loop-member l = record {
  numbers : AreShapeNumbers l.graph (drop l.member-index l.members);
  rest : list_all (targets (passes (test_of l.wanted)) (maps_of l.graph)) (map (id_of_number l.graph) l.members)
      ≡ list_all (targets (passes (test_of l.wanted)) (maps_of l.graph)) (map (id_of_number l.graph) (drop l.member-index l.members));
}
