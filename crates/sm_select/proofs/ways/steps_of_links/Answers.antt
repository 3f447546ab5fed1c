use Rattle.std.proofs.lemmas.Result.{IfOk-weaker}
use Rattle.sm_select.specs.Neighbors.{AreNeighbors}
use Rattle.sm_select.specs.steps.Imaging.{AreSteps}
use Rattle.sm_select.proofs.WalkNumbers.{graph_steps, links_below}
use Rattle.sm_select.proofs.ways.steps_of_links.Goals as goal

pub new-requires : goal.new-requires
new-requires c = links_below c.args.graph.now c.count.result c.args.links.now c.requires c.count.ensures

pub returns : goal.returns
returns c =
    let g = c.args.graph.now in
    let links = c.args.links.now in
    IfOk-weaker c.new.result (λ rows. AreNeighbors c.count.result links c.args.back rows) (λ rows. AreSteps g c.args.back rows)
    (λ rows near. graph_steps g c.count.result links c.args.back rows c.requires c.count.ensures near) c.new.ensures
