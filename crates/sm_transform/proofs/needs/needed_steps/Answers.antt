use Rattle.std.proofs.Common.{[], length, subst}
use Rattle.std.specs.List.{Contains}
use Rattle.sm_model.specs.GraphView.{entries_of}
use Rattle.sm_model.specs.steps.Linking.{Adds}
use Rattle.sm_model.proofs.Linking.{joins_both}
use Rattle.sm_transform.specs.steps.Steps.{IsStepAlong, TraitStepsBelow}
use Rattle.sm_transform.proofs.StepsNeeded.{needed_led}
use Rattle.sm_transform.proofs.needs.needed_steps.Goals as goal

pub returns : goal.returns
returns c =
    let g = c.args.graph.now in
    let links = c.args.ways.now.links.items in
    let n = length (entries_of g) in
    let first : Adds (IsStepAlong links) [] c.push_along.new.steps.items =
    subst (λ xs. Adds (IsStepAlong links) xs c.push_along.new.steps.items) c.new-steps.ensures.items
    (subst (λ ls. Adds (IsStepAlong ls) c.new-steps.result.items c.push_along.new.steps.items) c.as_slice.ensures.value
    c.in_ok-push_along.ensures) in
    needed_led g links c.requires.are_links c.put_all_traits.new.steps.items
    (joins_both (Contains []) (IsStepAlong links) (Contains c.push_along.new.steps.items) (TraitStepsBelow g n)
    (Contains c.put_all_traits.new.steps.items) first c.in_ok-put_all_traits.ensures)
