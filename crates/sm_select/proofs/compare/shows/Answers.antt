use Rattle.std.proofs.Common.{◌↔◌, IfOk, IsTrue, subst, sym}
use Rattle.sm_tree.specs.Node.{text}
use Rattle.sm_select.specs.Picks.{StandsToOne, folded}
use Rattle.sm_select.specs.steps.Filtering.{Shows, found_node}
use Rattle.sm_select.proofs.FilterFacts.{said_as, shows_text}
use Rattle.sm_select.proofs.compare.shows.Goals as goal

pub returns-in-Part : goal.returns-in-Part
returns-in-Part c =
    let op = c.args.op in
    let fold = c.args.fold in
    let values = c.args.values.now in
    let t = c.in-Part.part.now in
    subst (λ f. IfOk c.stands.result (λ said. IsTrue said ↔ Shows op fold values (found_node f))) (sym c.in-Part.is)
    (said_as c.stands.result (StandsToOne op (folded fold t) values) (Shows op fold values (text t)) (shows_text op fold values t)
    c.stands.ensures)
