use Rattle.std.proofs.Common.{sym, ◌∙◌}
use Rattle.sm_model.proofs.Worklist.{apart}
use Rattle.sm_compile.proofs.StepsFound.{fresh_found}
use Rattle.sm_compile.proofs.way.fresh_step.Goals.{then-marks-to, else-marks-to}
use Rattle.sm_compile.proofs.way.fresh_step.Goals as goal

pub returns-else-known-to : goal.returns-else-known-to
returns-else-known-to c = elim c.if-marks-to.branch [
  | then-marks-to w ↦ absurd (apart (sym c.if-known-to.false ∙ w.value-is ∙ w.if-marks-to.true))
  | else-marks-to w ↦
      fresh_found c.args.graph.now c.args.known.now c.args.marks.now c.args.shape c.args.at c.in-Some.to c.named_step.result
      c.in-Some.ensures.0 w.if-marks-to.false c.named_step.ensures
]
