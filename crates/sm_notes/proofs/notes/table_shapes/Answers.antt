use Rattle.std.proofs.Common.{length, ap, ◌∙◌}
use Rattle.std.proofs.lemmas.Result.{IfOk-weaker}
use Rattle.sm_compile.specs.Tabling.{tabled_below}
use Rattle.sm_notes.proofs.NotesFound.{shapes_told}
use Rattle.sm_notes.proofs.notes.table_shapes.Goals as goal

pub returns-clause-shapes : goal.returns-clause-shapes
returns-clause-shapes c =
    IfOk-weaker c.tabled_shapes.result _ _ (λ shapes is.
    shapes_told c.args.graph.now c.args.root c.in_ok-marks.marks.items shapes.items c.in_ok-marks.ensures
    (is ∙ ap (λ xs. tabled_below c.args.graph.now xs (length xs)) c.as_slice.ensures.value)) c.tabled_shapes.ensures.shapes
