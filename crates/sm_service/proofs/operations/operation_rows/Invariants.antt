use Rattle.std.proofs.Common.{◌≡◌, false, length, map, replicate, take}
use Rattle.sm_model.specs.GraphView.{entries_of}
use Rattle.sm_model.specs.Reaching.{id_of_number}
use Rattle.sm_compile.specs.Compiled.{EachSays}
use Rattle.sm_service.specs.ServiceView.{operation_data}
use Rattle.sm_service.specs.steps.OperationRows.{TellsOperation}
use Rattle.sm_service.specs.steps.ServingRooms.{IsServingRoom}
use Rattle.sm_service.proofs.operations.operation_rows.Given as goal

abbrev pub invariant-loop-operation : goal.invariant-loop-operation
invariant-loop-operation l = record {
  marks : l.marks.items ≡ replicate (length (entries_of l.graph)) false;
  room : IsServingRoom l.graph l.room;
  rows : EachSays (TellsOperation l.graph l.shapes l.shared.known.value) (map (id_of_number l.graph) (take l.operation-index l.operations))
      (map operation_data l.rows.items);
}
