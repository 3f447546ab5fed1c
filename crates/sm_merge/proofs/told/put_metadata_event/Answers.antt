use Rattle.std.proofs.Common.{◌≡◌, [], ◌∷◌, true, sym, subst, ◌∙◌}
use Rattle.std.specs.Prelude.{codes, if◌then◌else◌}
use Rattle.sm_model.specs.PreludeShapes.{unit_id}
use Rattle.sm_merge.specs.Merged.{model_event}
use Rattle.sm_merge.specs.steps.EventLists.{TellsMore}
use Rattle.sm_merge.proofs.EventsTold.{put_more}
use Rattle.sm_merge.proofs.told.put_metadata_event.Goals as goal

pub returns : goal.returns
returns c =
    let row = c.args.row.now in
    let told = model_event unit_id (codes "Model.Metadata") row.name in
    let conflict : row.folded.conflict ≡ true = c.if-not-row.false in
    subst (λ b. TellsMore c.args.events.now.items c.push.new.self.items (if b then told ∷ [] else [])) (sym conflict)
    (put_more c.args.events.now.items c.push.new.self.items c.in_ok-event.field-0 told c.in_ok-push.ensures.items
    (c.in_ok-event.ensures.told ∙ (λ i. model_event (c.in_ok-unit.ensures i) (codes "Model.Metadata") (c.as_str.ensures.bytes i)))
    c.in_ok-event.ensures.severity)
