use Rattle.std.proofs.Common.{false, length, replicate, subst}
use Rattle.sm_model.specs.Reaching.{Finds}
use Rattle.sm_select.specs.steps.Reaching.{StepsFrom}
use Rattle.sm_select.proofs.Worklist.{reached_by}
use Rattle.sm_select.proofs.reach.reached.Goals as goal

pub returns-clause-marked : goal.returns-clause-marked
returns-clause-marked c =
    let rows = c.args.neighbors.now in
    let starts = c.args.starts.now in
    let n = length starts in
    let marks = c.visit_starts.new.marks.items in
    let found = c.visit_starts.new.found.items in
    reached_by rows starts n marks found c.spread.new.marks.items
    (subst (λ xs. Finds (StepsFrom rows starts n) (replicate n false) xs marks found) c.new-found.ensures.items
    (subst (λ xs. Finds (StepsFrom rows starts n) xs c.new-found.result.items marks found) c.in_ok-marks.ensures
    c.in_ok-visit_starts.ensures))
    c.in_ok-spread.ensures.marked
