use Rattle.std.proofs.Common.{sym, ◌∙◌}
use Rattle.std.proofs.lemmas.Result.{on_ok_weaker}
use Rattle.sm_model.proofs.Worklist.{apart, finds_none, finds_same}
use Rattle.sm_select.specs.Neighbors.{HasStep}
use Rattle.sm_select.specs.steps.Reaching.{StepsFromStart}
use Rattle.sm_select.proofs.reach.visit_start.Goals as goal

pub returns-then-starts-number : goal.returns-then-starts-number
returns-then-starts-number c =
    let rows = c.args.neighbors.now in
    on_ok_weaker c.visit.result
    (finds_same (HasStep rows c.args.number) (StepsFromStart rows c.args.starts.now c.args.number) c.args.marks.now.items
    c.args.found.now.items
    c.visit.new.marks.items c.visit.new.found.items (λ k. (λ h. (c.if-starts-number.true, h), λ h. h.1))) c.visit.ensures

pub returns-else-starts-number : goal.returns-else-starts-number
returns-else-starts-number c =
    finds_none (StepsFromStart c.args.neighbors.now c.args.starts.now c.args.number) c.args.marks.now.items c.args.found.now.items
    c.requires.are
    (λ k h. absurd (apart (sym c.if-starts-number.false ∙ h.0)))
