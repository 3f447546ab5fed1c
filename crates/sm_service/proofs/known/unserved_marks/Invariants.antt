use Rattle.std.proofs.Common.{◌≤◌, length}
use Rattle.sm_model.specs.GraphView.{entries_of, maps_of}
use Rattle.sm_model.specs.Reaching.{AreMarks, id_of_number}
use Rattle.sm_compile.specs.Served.{IsUnserved}
use Rattle.sm_service.proofs.known.unserved_marks.Given as goal

abbrev pub invariant-loop-number : goal.invariant-loop-number
invariant-loop-number l = record {
  within : l.number ≤ length (entries_of l.graph);
  marks : AreMarks l.number (λ k. IsUnserved (maps_of l.graph) (id_of_number l.graph k)) l.marks.items;
}
