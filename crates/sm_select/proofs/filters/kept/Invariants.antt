use Rattle.sm_model.specs.GraphView.{maps_of}
use Rattle.sm_model.specs.Reaching.{AreMarks, id_of_number, IsMarked}
use Rattle.sm_select.proofs.filters.kept.Given as goal

abbrev pub invariant-loop-number : goal.invariant-loop-number
invariant-loop-number g l =
    AreMarks l.number (λ k. IsMarked l.starts k × g.F.Filter.keeps l.filter (maps_of l.graph) (id_of_number l.graph k)) l.marks.items
