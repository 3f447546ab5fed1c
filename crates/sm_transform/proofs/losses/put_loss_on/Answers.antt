use Rattle.std.proofs.Common.{◌≡◌}
use Rattle.std.specs.List.{Contains}
use Rattle.std.proofs.lemmas.Result.{on_ok_weaker}
use Rattle.sm_model.proofs.Linking.{joins_same}
use Rattle.sm_transform.specs.steps.Steps.{LossesOn, step_between}
use Rattle.sm_transform.proofs.losses.put_loss_on.Goals as goal

pub returns-then-is_lost_on : goal.returns-then-is_lost_on
returns-then-is_lost_on c =
    let g = c.args.graph.now in
    let l = c.args.link.now in
    let lost = c.is_lost_on.ensures.0 c.if-is_lost_on.true in
    on_ok_weaker c.push_step.result
    (joins_same (Contains c.args.steps.now.items) (λ s. s ≡ step_between c.args.link.now.from c.args.link.now.to) (LossesOn g l)
    (Contains c.push_step.new.steps.items)
    (λ s. (λ e. (e, lost), λ h. h.0))) c.push_step.ensures
