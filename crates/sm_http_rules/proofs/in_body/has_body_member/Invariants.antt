use Rattle.std.proofs.Common.{◌≡◌, drop, map}
use Rattle.std.specs.List.{list_any}
use Rattle.sm_model.specs.GraphView.{AreShapeNumbers, maps_of}
use Rattle.sm_model.specs.Reaching.{id_of_number}
use Rattle.sm_http_rules.specs.steps.InBody.{is_body_member}
use Rattle.sm_http_rules.proofs.in_body.has_body_member.Given as goal

abbrev pub invariant-loop-member : goal.invariant-loop-member
invariant-loop-member l = record {
  numbers : AreShapeNumbers l.graph (drop l.member-index l.members);
  told : list_any (is_body_member (maps_of l.graph)) (map (id_of_number l.graph) (drop l.member-index l.members))
      ≡ list_any (is_body_member (maps_of l.graph)) (map (id_of_number l.graph) l.members);
}
