use Rattle.std.proofs.Common.{◌+◌, ◌⊎◌, arith}
use Rattle.sm_model.proofs.Worklist.{finds_none, finds_same, finds_then}
use Rattle.sm_select.specs.steps.Reaching.{StepsFrom, StepsFromStart}
use Rattle.sm_select.proofs.Worklist.{starts_more}
use Rattle.sm_select.proofs.reach.visit_starts.Goals as goal

pub loop-number-preserved : goal.loop-number-preserved
loop-number-preserved c =
    let at = c.loop-number in
    let k = at.number in
    let rows = c.args.neighbors.now in
    let starts = c.args.starts.now in
    finds_same (λ b. StepsFrom rows starts k b ⊎ StepsFromStart rows starts k b) (StepsFrom rows starts (k + 1)) c.args.marks.now.items
    c.args.found.now.items _ _ (starts_more rows starts k)
    (finds_then (StepsFrom rows starts k) (StepsFromStart rows starts k) c.args.marks.now.items c.args.found.now.items at.marks.items
    at.found.items _ _
    at.invariant c.in_ok-visit_start.ensures)

pub loop-number-init : goal.loop-number-init
loop-number-init c =
    finds_none (StepsFrom c.args.neighbors.now c.args.starts.now 0) c.args.marks.now.items c.args.found.now.items c.requires.are
    (λ k h. absurd (omega (arith, h.1)))
