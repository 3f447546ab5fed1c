use Rattle.std.specs.List.{Contains}
use Rattle.std.proofs.lemmas.Result.{on_ok_weaker}
use Rattle.sm_tree.specs.View.{members_view}
use Rattle.sm_model.proofs.Linking.{joins_same}
use Rattle.sm_transform.specs.steps.Steps.{StepsToTraits, TraitSteps}
use Rattle.sm_transform.proofs.StepsNeeded.{own_steps}
use Rattle.sm_transform.proofs.needs.put_own_traits.Goals as goal

pub returns : goal.returns
returns c =
    let g = c.args.graph.now in
    let ts = members_view c.traits.result.now in
    on_ok_weaker c.put_traits.result
    (joins_same (Contains c.args.steps.now.items) (TraitSteps g c.args.number ts) (StepsToTraits g c.args.number)
    (Contains c.put_traits.new.steps.items) (own_steps g c.args.number ts c.traits.ensures)) c.put_traits.ensures
