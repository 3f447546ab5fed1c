use Rattle.std.proofs.Common.{subst}
use Rattle.std.specs.List.{Contains}
use Rattle.sm_model.specs.steps.Linking.{Adds}
use Rattle.sm_transform.specs.steps.Steps.{Losses}
use Rattle.sm_transform.proofs.LossesNeeded.{link_within, losses_are}
use Rattle.sm_transform.proofs.losses.lost_steps.Goals as goal

pub put_losses-requires : goal.put_losses-requires
put_losses-requires c =
    let g = c.args.graph.now in
    λ l among. link_within g c.args.ways.now.links.items c.requires.are_links l
    (subst (λ ls. Contains ls l) c.as_slice.ensures.value among)

pub returns : goal.returns
returns c =
    let g = c.args.graph.now in
    let links = c.args.ways.now.links.items in
    losses_are g links c.requires.are_links c.put_losses.new.steps.items
    (subst (λ xs. Adds (Losses g links) xs c.put_losses.new.steps.items) c.new-steps.ensures.items
    (subst (λ ls. Adds (Losses g ls) c.new-steps.result.items c.put_losses.new.steps.items) c.as_slice.ensures.value
    c.in_ok-put_losses.ensures))
