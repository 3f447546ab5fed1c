use Rattle.std.proofs.Common.{◌≡◌}
use Rattle.sm_model.specs.GraphView.{AreShapeNumbers}
use Rattle.sm_service.specs.steps.OperationRows.{operations_below}
use Rattle.sm_service.proofs.operation_numbers.marked_operations.Given as goal

abbrev pub invariant-loop-number : goal.invariant-loop-number
invariant-loop-number l = record {
  numbers : AreShapeNumbers l.graph l.numbers.items;
  are : l.numbers.items ≡ operations_below l.graph l.marks l.number;
}
