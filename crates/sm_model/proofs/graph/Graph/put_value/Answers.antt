use Rattle.std.proofs.Common.{subst, sym}
use Rattle.sm_model.specs.Relations.{Refers}
use Rattle.sm_model.specs.steps.Linking.{Adds, RunsTo}
use Rattle.std.proofs.lemmas.Result.{on_ok_weaker}
use Rattle.sm_model.proofs.graph.Graph.put_value.Goals as goal

pub returns-in-Some : goal.returns-in-Some
returns-in-Some c =
    on_ok_weaker c.put_reference.result
    (subst (λ n. Adds (RunsTo c.args.self.now c.args.relation c.args.from
    (λ id. Refers id n)) c.args.links.now.items c.put_reference.new.links.items)
    (sym c.in-Some.ensures.node)) c.put_reference.ensures
