use Rattle.sm_model.specs.GraphView.{maps_of}
use Rattle.sm_model.specs.Reaching.{AreMarks, IsMarked}
use Rattle.sm_select.specs.steps.Staying.{id_among}
use Rattle.sm_select.proofs.filters.kept_among.Given as goal

abbrev pub invariant-loop-place : goal.invariant-loop-place
invariant-loop-place g l =
    AreMarks l.place (λ i. IsMarked l.starts i × g.F.Filter.keeps l.filter (maps_of l.graph) (id_among l.graph l.numbers i)) l.marks.items
