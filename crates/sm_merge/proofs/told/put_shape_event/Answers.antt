use Rattle.std.proofs.Common.{[], ◌∙◌}
use Rattle.std.specs.Prelude.{codes}
use Rattle.sm_merge.specs.Merged.{model_event}
use Rattle.sm_merge.specs.steps.EventLists.{shape_event}
use Rattle.sm_merge.proofs.EventsTold.{put_more}
use Rattle.sm_merge.proofs.told.put_shape_event.Goals as goal

pub returns : goal.returns
returns c =
    put_more c.args.events.now.items c.push.new.self.items c.in_ok-event.field-0 (shape_event c.args.id.now) c.in_ok-push.ensures.items
    (c.in_ok-event.ensures.told ∙ (λ i. model_event (c.in_ok-shape.ensures i) (codes "Model.Shape") [])) c.in_ok-event.ensures.severity
