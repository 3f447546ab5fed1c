use Rattle.std.proofs.Common.{◌≡◌}
use Rattle.std.specs.List.{Contains}
use Rattle.std.proofs.lemmas.Result.{on_ok_weaker}
use Rattle.sm_model.specs.declared.relation.Relation.TheVariants.{Member}
use Rattle.sm_model.specs.steps.Linking.{RunsTo}
use Rattle.sm_model.proofs.Linking.{joins_none, joins_same}
use Rattle.sm_model.proofs.LinkFacts.{runs_to_none, runs_to_one}
use Rattle.sm_transform.specs.steps.Steps.{step_between}
use Rattle.sm_transform.proofs.needs.put_trait.Goals as goal

pub returns-in-Some : goal.returns-in-Some
returns-in-Some c =
    let g = c.args.graph.now in
    on_ok_weaker c.push_step.result
    (joins_same (Contains c.args.steps.now.items) (λ s. s ≡ step_between c.args.number c.in-Some.to)
    (RunsTo g Member c.args.number (λ i. c.args.id.now ≡ i)) (Contains c.push_step.new.steps.items)
    (runs_to_one g Member c.args.number c.in-Some.to c.args.id.now c.in-Some.ensures)) c.push_step.ensures

pub returns-in-None : goal.returns-in-None
returns-in-None c =
    joins_none (Contains c.args.steps.now.items) (RunsTo c.args.graph.now Member c.args.number (λ i. c.args.id.now ≡ i))
    (runs_to_none c.args.graph.now Member c.args.number c.args.id.now c.in-None.ensures)
