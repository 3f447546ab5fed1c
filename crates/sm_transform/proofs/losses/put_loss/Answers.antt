use Rattle.std.specs.List.{Contains}
use Rattle.std.proofs.lemmas.Result.{on_ok_weaker}
use Rattle.sm_model.proofs.Linking.{joins_both}
use Rattle.sm_transform.specs.steps.Steps.{LossesBack, LossesOn}
use Rattle.sm_transform.proofs.losses.put_loss.Goals as goal

pub returns : goal.returns
returns c =
    let g = c.args.graph.now in
    let l = c.args.link.now in
    on_ok_weaker c.put_loss_back.result
    (joins_both (Contains c.args.steps.now.items) (LossesOn g l) (Contains c.put_loss_on.new.steps.items) (LossesBack g l)
    (Contains c.put_loss_back.new.steps.items) c.in_ok-put_loss_on.ensures) c.put_loss_back.ensures
