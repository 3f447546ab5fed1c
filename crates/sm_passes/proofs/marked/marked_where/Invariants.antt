use Rattle.std.proofs.Common.{◌≡◌, ◌≤◌, length, true}
use Rattle.sm_model.specs.GraphView.{entries_of, maps_of}
use Rattle.sm_model.specs.Reaching.{AreMarks, id_of_number}
use Rattle.sm_passes.proofs.marked.marked_where.Given as goal

abbrev pub invariant-loop-number : goal.invariant-loop-number
invariant-loop-number g l = record {
  within : l.number ≤ length (entries_of l.graph);
  marks : AreMarks l.number (λ k. g.T.NumberTest.passes l.test (maps_of l.graph) (id_of_number l.graph k) ≡ true) l.marks.items;
}
