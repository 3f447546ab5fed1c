use Rattle.std.proofs.Common.{subst, sym}
use Rattle.std.proofs.lemmas.Result.{on_ok_weaker}
use Rattle.sm_model.specs.Relations.{Refers}
use Rattle.sm_model.specs.steps.Linking.{Adds, RunsTo}
use Rattle.sm_model.proofs.graph.Graph.put_parts.Goals as goal

pub returns-in-Some : goal.returns-in-Some
returns-in-Some c =
    on_ok_weaker c.put_entries.result
    (subst (λ n. Adds (RunsTo c.args.self.now c.args.relation c.args.from
    (λ id. Refers id n)) c.args.links.now.items c.put_entries.new.links.items)
    (sym c.in-Some.ensures.node)) c.put_entries.ensures

pub returns-in-Some-pairs_of : goal.returns-in-Some-pairs_of
returns-in-Some-pairs_of c =
    on_ok_weaker c.put_values.result
    (subst (λ n. Adds (RunsTo c.args.self.now c.args.relation c.args.from
    (λ id. Refers id n)) c.args.links.now.items c.put_values.new.links.items)
    (sym c.in-Some-pairs_of.ensures.node)) c.put_values.ensures
