use Rattle.std.proofs.Common.{◌≡◌, cond, drop, map}
use Rattle.std.specs.List.{list_any}
use Rattle.sm_model.specs.GraphView.{AreShapeNumbers, maps_of}
use Rattle.sm_model.specs.Reaching.{id_of_number}
use Rattle.sm_trait_rules.specs.steps.Twice.{carried_twice}
use Rattle.sm_passes.specs.Carrying.{carries}
use Rattle.sm_trait_rules.proofs.single.is_carried_twice.Given as goal

abbrev pub invariant-loop-member : goal.invariant-loop-member
invariant-loop-member l = record {
  numbers : AreShapeNumbers l.graph (drop l.member-index l.members);
  told : cond l.seen (list_any (carries (maps_of l.graph) l.name) (map (id_of_number l.graph) (drop l.member-index l.members)))
      (carried_twice (maps_of l.graph) l.name (map (id_of_number l.graph) (drop l.member-index l.members)))
      ≡ carried_twice (maps_of l.graph) l.name (map (id_of_number l.graph) l.members);
}
