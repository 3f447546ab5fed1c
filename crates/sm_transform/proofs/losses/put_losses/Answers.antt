use Rattle.std.proofs.Common.{◌≡◌, [], arith, drop, subst}
use Rattle.std.specs.List.{Contains}
use Rattle.std.proofs.lemmas.List.{drop_all, drop_more}
use Rattle.sm_model.specs.steps.Linking.{AddsUpTo}
use Rattle.sm_model.proofs.Linking.{up_to_end}
use Rattle.sm_transform.specs.steps.Steps.{Losses}
use Rattle.sm_transform.proofs.CopiedShapes.{contains_nth}
use Rattle.sm_transform.proofs.LossesNeeded.{losses_more, losses_none}
use Rattle.sm_transform.proofs.losses.put_losses.Goals as goal

pub put_loss-requires-clause-from : goal.put_loss-requires-clause-from
put_loss-requires-clause-from c =
    (c.requires _ (contains_nth c.args.links.now c.loop-link.link-index _ (omega arith))).0

pub put_loss-requires-clause-to : goal.put_loss-requires-clause-to
put_loss-requires-clause-to c =
    (c.requires _ (contains_nth c.args.links.now c.loop-link.link-index _ (omega arith))).1

pub loop-link-preserved : goal.loop-link-preserved
loop-link-preserved c =
    let at = c.loop-link in
    losses_more c.args.graph.now c.args.links.now at.link-index _ c.args.steps.now.items at.steps.items _
    (drop_more c.args.links.now at.link-index _ (omega arith)) at.invariant c.in_ok-put_loss.ensures

pub returns : goal.returns
returns c =
    let at = c.loop-link in
    let g = c.args.graph.now in
    let links = c.args.links.now in
    let none : drop at.link-index links ≡ [] = drop_all at.link-index links (omega (arith, c.loop-link-test.false)) in
    up_to_end (Losses g links) (Losses g []) (Contains c.args.steps.now.items) (Contains at.steps.items) (losses_none g)
    (subst (λ ls. AddsUpTo (Losses g links) (Losses g ls) c.args.steps.now.items at.steps.items) none at.invariant)
