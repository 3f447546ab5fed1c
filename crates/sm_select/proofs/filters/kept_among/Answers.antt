use Rattle.std.proofs.Common.{◌+◌, ℕ, get_or, subst, sym}
use Rattle.std.proofs.lemmas.List.Elements.{Contains-get_or}
use Rattle.sm_model.specs.GraphView.{maps_of}
use Rattle.sm_model.specs.Reaching.{AreMarks, IsMarked}
use Rattle.sm_select.specs.steps.Staying.{id_among}
use Rattle.sm_select.proofs.MarkedNumbers.{marks_more, marks_none}
use Rattle.sm_select.proofs.filters.kept_among.Goals as goal

pub keeps_start-requires : goal.keeps_start-requires
keeps_start-requires g c =
    let ns = c.args.numbers.now in
    let i = c.loop-place.place in
    c.requires.numbers (get_or ns i 0) (Contains-get_or ns i 0 c.loop-place-test.true)

pub loop-place-init : goal.loop-place-init
loop-place-init g c =
    let m = maps_of c.args.graph.now in
    let Holds : ℕ → Type 0 =
    λ i. IsMarked c.args.starts.now i × g.F.Filter.keeps c.args.filter.now m (id_among c.args.graph.now c.args.numbers.now i) in
    subst (AreMarks 0 Holds) (sym c.in_ok-marks.ensures.items) (marks_none Holds)

pub loop-place-preserved : goal.loop-place-preserved
loop-place-preserved g c =
    let at = c.loop-place in
    let m = maps_of c.args.graph.now in
    let Holds : ℕ → Type 0 =
    λ i. IsMarked c.args.starts.now i × g.F.Filter.keeps c.args.filter.now m (id_among c.args.graph.now c.args.numbers.now i) in
    subst (AreMarks (at.place + 1) Holds) (sym c.in_ok-push.ensures.items)
    (marks_more Holds at.place at.marks.items c.in_ok-keeps.keeps at.invariant c.in_ok-keeps.ensures)
