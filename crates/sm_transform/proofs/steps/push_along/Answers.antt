use Rattle.std.proofs.Common.{◌≡◌, [], arith, drop, subst}
use Rattle.std.specs.List.{Contains}
use Rattle.std.proofs.lemmas.List.{drop_all, drop_more}
use Rattle.sm_model.specs.steps.Linking.{AddsUpTo}
use Rattle.sm_model.proofs.Linking.{up_to_end}
use Rattle.sm_transform.specs.steps.Steps.{IsStepAlong}
use Rattle.sm_transform.proofs.StepsNeeded.{along_more, along_none}
use Rattle.sm_transform.proofs.steps.push_along.Goals as goal

pub loop-link-preserved : goal.loop-link-preserved
loop-link-preserved c =
    let at = c.loop-link in
    along_more c.args.links.now at.link-index _ c.args.steps.now.items at.steps.items _
    (drop_more c.args.links.now at.link-index _ (omega arith)) at.invariant c.in_ok-push_link.ensures

pub returns : goal.returns
returns c =
    let at = c.loop-link in
    let links = c.args.links.now in
    let none : drop at.link-index links ≡ [] = drop_all at.link-index links (omega (arith, c.loop-link-test.false)) in
    up_to_end (IsStepAlong links) (IsStepAlong []) (Contains c.args.steps.now.items) (Contains at.steps.items) along_none
    (subst (λ ls. AddsUpTo (IsStepAlong links) (IsStepAlong ls) c.args.steps.now.items at.steps.items) none at.invariant)
