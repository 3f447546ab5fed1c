use Rattle.std.proofs.Common.{◌≡◌, ◌++◌, ◌∷◌, [], true, ap, sym, subst, ◌∙◌}
use Rattle.std.proofs.lemmas.Result.{on_ok_weaker}
use Rattle.sm_tree.specs.Events.{tag_event}
use Rattle.sm_tree.specs.Building.{so_far, awaits_value, is_tagged, inner_awaits_content, within, tag_events}
use Rattle.sm_tree.specs.BuilderView.{inner_of, open_of, state_of, outer_of}
use Rattle.sm_tree.specs.declared.build.State.{State}
use Rattle.sm_tree.proofs.Building.{tag_taken, tag_events_more, is_tagged_more, with_tag_content}
use Rattle.sm_tree.proofs.build.TreeBuilder.tag.Goals as goal

pub returns-in-Ok-clause-taken : goal.returns-in-Ok-clause-taken
returns-in-Ok-clause-taken c =
    ap tag_events c.in-Ok.ensures.items ∙ tag_events_more c.in-Empty.tags.items c.args.number
    ∙ ap (λ (s : State). so_far (state_of s) ++ tag_event c.args.number ∷ []) (sym c.in-Empty.is)

pub returns-in-Within-clause-taken : goal.returns-in-Within-clause-taken
returns-in-Within-clause-taken c =
    let awaits : awaits_value (open_of c.in-Within.open) ≡ true =
    subst (λ (s : State). awaits_value (state_of s) ≡ true) c.in-Within.is c.requires in
    on_ok_weaker c.tag.result
    (λ put. ap (λ i. so_far (within c.in-Within.open.tags.items i (outer_of c.in-Within.open))) put
    ∙ tag_taken (open_of c.in-Within.open) c.args.number awaits
    ∙ ap (λ (s : State). so_far (state_of s) ++ tag_event c.args.number ∷ []) (sym c.in-Within.is))
    c.tag.ensures

pub returns-in-Ok-clause-content : goal.returns-in-Ok-clause-content
returns-in-Ok-clause-content c = ap is_tagged c.in-Ok.ensures.items ∙ is_tagged_more c.in-Empty.tags.items c.args.number

pub returns-in-Within-clause-content : goal.returns-in-Within-clause-content
returns-in-Within-clause-content c =
    let awaits : awaits_value (open_of c.in-Within.open) ≡ true =
    subst (λ (s : State). awaits_value (state_of s) ≡ true) c.in-Within.is c.requires in
    on_ok_weaker c.tag.result
    (λ put. ap inner_awaits_content put ∙ with_tag_content (inner_of c.in-Within.open.inner) c.args.number awaits)
    c.tag.ensures
