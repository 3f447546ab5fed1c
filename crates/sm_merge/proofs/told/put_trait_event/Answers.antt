use Rattle.std.proofs.Common.{◌≡◌, [], ◌∷◌, true, sym, subst, ◌∙◌}
use Rattle.std.specs.Prelude.{if◌then◌else◌}
use Rattle.sm_merge.specs.steps.EventLists.{TellsMore, trait_event}
use Rattle.sm_merge.proofs.EventsTold.{put_more}
use Rattle.sm_merge.proofs.told.put_trait_event.Goals as goal

pub returns : goal.returns
returns c =
    let told = trait_event c.args.id.now c.args.value.now.name in
    let conflict : c.args.value.now.folded.conflict ≡ true = c.if-not-value.false in
    subst (λ b. TellsMore c.args.events.now.items c.push.new.self.items (if b then told ∷ [] else [])) (sym conflict)
    (put_more c.args.events.now.items c.push.new.self.items c.in_ok-event.field-0 told c.in_ok-push.ensures.items
    (c.in_ok-event.ensures.told ∙ (λ i. trait_event (c.in_ok-shape.ensures i) (c.as_str.ensures.bytes i)))
    c.in_ok-event.ensures.severity)
