use Rattle.std.proofs.Common.{◌≡◌, ◌++◌, drop, map}
use Rattle.sm_model.specs.Graphs.{member_id}
use Rattle.sm_model.specs.GraphView.{AreShapeNumbers, maps_of}
use Rattle.sm_model.specs.Reaching.{id_of_number}
use Rattle.sm_compile.specs.Sound.{json_name_of}
use Rattle.sm_compile.specs.steps.Naming.{texts_of_all}
use Rattle.sm_compile.proofs.names.names_of.Given as goal

abbrev pub invariant-loop-member : goal.invariant-loop-member
invariant-loop-member l = record {
  numbers : AreShapeNumbers l.graph (drop l.member-index l.members);
  named : map (member_id (id_of_number l.graph l.shape)) (texts_of_all l.names.items)
      ++ map (id_of_number l.graph) (drop l.member-index l.members)
      ≡ map (id_of_number l.graph) l.members;
  json_named : texts_of_all l.json_names.items
      ≡ map (json_name_of (maps_of l.graph) (id_of_number l.graph l.shape)) (texts_of_all l.names.items);
}
