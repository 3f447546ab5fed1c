use Rattle.std.proofs.Common.{false, subst, sym}
use Rattle.std.proofs.lemmas.Result.{IfOk-weaker}
use Rattle.sm_model.specs.GraphView.{maps_of}
use Rattle.sm_select.specs.Neighbors.{AreBelow, AreNeighbors}
use Rattle.sm_transform.specs.steps.Steps.{IsLost, LeadBy}
use Rattle.sm_transform.proofs.StepsNeeded.{led_below, led_rows}
use Rattle.sm_transform.proofs.losses.lost_rows.Goals as goal

pub new-requires : goal.new-requires
new-requires c =
    let g = c.args.graph.now in
    subst (AreBelow c.count.result) (sym c.as_slice.ensures.value)
    (led_below g (IsLost (maps_of g)) c.in_ok-steps.steps.items c.in_ok-steps.ensures c.count.result c.count.ensures)

pub returns : goal.returns
returns c =
    let g = c.args.graph.now in
    IfOk-weaker c.new.result (λ rows. AreNeighbors c.count.result c.as_slice.result.now false rows) (λ rows. LeadBy g (IsLost
    (maps_of g)) rows)
    (λ rows near. led_rows g (IsLost (maps_of g)) c.in_ok-steps.steps.items c.in_ok-steps.ensures c.count.result rows c.count.ensures
    (subst (λ ls. AreNeighbors c.count.result ls false rows) c.as_slice.ensures.value near)) c.new.ensures
