use Rattle.std.proofs.Common.{◌≡◌, ◌++◌, ℕ, drop, filter, length, map}
use Rattle.std.specs.List.{Contains}
use Rattle.sm_model.specs.GraphView.{entries_of}
use Rattle.sm_model.specs.Reaching.{AreFound, id_of_number}
use Rattle.sm_compile.specs.steps.Naming.{texts_of_all}
use Rattle.sm_service.specs.References.{once}
use Rattle.sm_service.specs.steps.OperationRows.{is_none_of}
use Rattle.sm_service.proofs.operation_errors.put_each_once.Given as goal

abbrev pub invariant-loop-id : goal.invariant-loop-id
invariant-loop-id l = record {
  count : length l.marks.items ≡ length (entries_of l.graph);
  found : AreFound l.marks.items l.numbers.items;
  there : (k : ℕ) → Contains l.numbers.items k → Contains l.shapes k;
  said : map (id_of_number l.graph) l.numbers.items
      ++ filter (is_none_of (map (id_of_number l.graph) l.numbers.items)) (once (texts_of_all (drop l.id-index l.ids)))
      ≡ once (texts_of_all l.ids);
}
