use Rattle.std.proofs.Common.{◌+◌, ℕ, subst, sym}
use Rattle.sm_model.specs.GraphView.{maps_of}
use Rattle.sm_model.specs.Reaching.{AreMarks, id_of_number, IsMarked}
use Rattle.sm_select.proofs.MarkedNumbers.{marks_more, marks_none}
use Rattle.sm_select.proofs.filters.kept.Goals as goal

pub loop-number-init : goal.loop-number-init
loop-number-init g c =
    let m = maps_of c.args.graph.now in
    let Holds : ℕ → Type 0 =
    λ k. IsMarked c.args.starts.now k × g.F.Filter.keeps c.args.filter.now m (id_of_number c.args.graph.now k) in
    subst (AreMarks 0 Holds) (sym c.in_ok-marks.ensures.items) (marks_none Holds)

pub loop-number-preserved : goal.loop-number-preserved
loop-number-preserved g c =
    let at = c.loop-number in
    let m = maps_of c.args.graph.now in
    let Holds : ℕ → Type 0 =
    λ k. IsMarked c.args.starts.now k × g.F.Filter.keeps c.args.filter.now m (id_of_number c.args.graph.now k) in
    subst (AreMarks (at.number + 1) Holds) (sym c.in_ok-push.ensures.items)
    (marks_more Holds at.number at.marks.items c.in_ok-keeps.keeps at.invariant c.in_ok-keeps.ensures)
