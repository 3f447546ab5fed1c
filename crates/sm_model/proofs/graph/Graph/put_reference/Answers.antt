use Rattle.std.proofs.Common.{◌≡◌}
use Rattle.std.specs.List.{Contains}
use Rattle.std.proofs.lemmas.Result.{on_ok_weaker}
use Rattle.sm_model.specs.steps.Linking.{RunsTo}
use Rattle.sm_model.proofs.Linking.{joins_none, joins_same}
use Rattle.sm_model.proofs.LinkFacts.{runs_to_none, runs_to_one}
use Rattle.sm_model.proofs.graph.Graph.put_reference.Goals as goal

pub returns-in-Some : goal.returns-in-Some
returns-in-Some c =
    let g = c.args.self.now in
    on_ok_weaker c.push_link.result
    (joins_same (Contains c.args.links.now.items) (λ l. l ≡ record { relation = c.args.relation; from = c.args.from; to = c.in-Some.to })
    (RunsTo g c.args.relation c.args.from (λ i. c.args.id.now ≡ i)) (Contains c.push_link.new.links.items)
    (runs_to_one g c.args.relation c.args.from c.in-Some.to c.args.id.now c.in-Some.ensures)) c.push_link.ensures

pub returns-in-None : goal.returns-in-None
returns-in-None c =
    joins_none (Contains c.args.links.now.items) (RunsTo c.args.self.now c.args.relation c.args.from (λ i. c.args.id.now ≡ i))
    (runs_to_none c.args.self.now c.args.relation c.args.from c.args.id.now c.in-None.ensures)
