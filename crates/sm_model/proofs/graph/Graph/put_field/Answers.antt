use Rattle.std.proofs.Common.{subst, sym}
use Rattle.std.proofs.lemmas.Result.{on_ok_weaker}
use Rattle.sm_tree.specs.View.{node_of}
use Rattle.sm_model.specs.steps.Linking.{Adds, FieldLinks}
use Rattle.sm_model.proofs.graph.Graph.put_field.Goals as goal

pub returns-in-Some : goal.returns-in-Some
returns-in-Some c =
    on_ok_weaker c.put_value.result
    (subst (λ r. Adds (FieldLinks c.args.self.now c.args.shape
    (node_of c.args.value.now) r) c.args.links.now.items c.put_value.new.links.items)
    (sym c.in-Some.is)) c.put_value.ensures
