use Rattle.std.proofs.Common.{◌≡◌}
use Rattle.std.specs.List.{Contains}
use Rattle.std.proofs.lemmas.Result.{on_ok_weaker}
use Rattle.sm_tree.specs.Node.{text}
use Rattle.sm_tree.specs.View.{node_of}
use Rattle.sm_model.specs.steps.Linking.{RunsTo}
use Rattle.sm_model.proofs.Linking.{joins_same}
use Rattle.sm_model.proofs.LinkFacts.{runs_same, text_refers}
use Rattle.sm_model.proofs.graph.Graph.put_text.Goals as goal

pub returns-in-Some : goal.returns-in-Some
returns-in-Some c =
    let Runs = RunsTo c.args.self.now c.args.relation c.args.from in
    on_ok_weaker c.put_reference.result
    (joins_same (Contains c.args.links.now.items) (Runs (λ i. c.in-Some.id.now ≡ i)) (Runs (λ id. node_of c.args.tree.now ≡ text id))
    (Contains c.put_reference.new.links.items)
    (runs_same c.args.self.now c.args.relation c.args.from (λ i. c.in-Some.id.now ≡ i) (λ id. node_of c.args.tree.now ≡ text id)
    (text_refers (node_of c.args.tree.now) c.in-Some.id.now c.in-Some.ensures.node))) c.put_reference.ensures
