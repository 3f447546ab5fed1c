use Rattle.std.proofs.Common.{subst}
use Rattle.std.proofs.lemmas.Result.{on_ok_weaker}
use Rattle.std.specs.List.{Contains}
use Rattle.sm_tree.specs.View.{members_view}
use Rattle.sm_model.specs.GraphView.{At, HasBodyNode}
use Rattle.sm_model.specs.steps.Linking.{BodyLinks, FieldsLinks}
use Rattle.sm_model.proofs.Linking.{joins_same}
use Rattle.sm_model.proofs.LinkedGraphs.{body_links}
use Rattle.sm_model.proofs.graph.Graph.put_body.Goals as goal

pub returns-in-Some : goal.returns-in-Some
returns-in-Some c =
    let g = c.args.self.now in
    let s = c.args.shape in
    let ps = members_view c.in-Some.pairs.now in
    on_ok_weaker c.put_fields.result
    (joins_same (Contains c.args.links.now.items) (FieldsLinks g c.kind-kind.result s ps) (BodyLinks g s)
    (Contains c.put_fields.new.links.items)
    (body_links g s c.kind-kind.result ps c.kind-kind.ensures
    (subst (λ n. At g s (λ id e. HasBodyNode n e)) c.in-Some.ensures.node c.properties.ensures))) c.put_fields.ensures
