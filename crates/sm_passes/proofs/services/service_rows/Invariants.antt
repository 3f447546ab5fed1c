use Rattle.std.proofs.Common.{length, ◌≤◌}
use Rattle.std.specs.Map.{values_of}
use Rattle.sm_model.specs.GraphView.{entries_of}
use Rattle.sm_passes.specs.steps.Groups.{AreServiceRows, AreServicesBelow}
use Rattle.sm_passes.proofs.services.service_rows.Given as goal

abbrev pub invariant-loop-number : goal.invariant-loop-number
invariant-loop-number l = record {
  within : l.number ≤ length (entries_of l.graph);
  services : AreServicesBelow l.graph l.number (values_of l.rows.items);
  rows : AreServiceRows l.graph l.ways.on l.rows.items;
}
