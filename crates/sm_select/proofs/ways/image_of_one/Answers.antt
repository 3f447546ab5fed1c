use Rattle.std.proofs.lemmas.Result.{IfOk-weaker}
use Rattle.sm_model.specs.GraphView.{maps_of}
use Rattle.sm_model.specs.Relations.{IsNeighbor}
use Rattle.sm_select.specs.Images.{AreImage, turned}
use Rattle.sm_select.specs.Picks.{LeadsAlong}
use Rattle.sm_select.proofs.NineRelations.{followed_image, followed_relations}
use Rattle.sm_select.proofs.ways.image_of_one.Goals as goal

pub returns : goal.returns
returns c =
    let g = c.args.graph.now in
    let starts = c.args.starts.now in
    IfOk-weaker c.image_along.result (λ m. AreImage g starts (turned c.args.back (LeadsAlong (maps_of g) followed_relations)) m.items)
    (λ m. AreImage g starts (turned c.args.back (IsNeighbor (maps_of g))) m.items)
    (λ m are. followed_image g c.args.back starts m.items are) c.image_along.ensures
