use Rattle.std.proofs.Common.{◌≡◌, subst, rules}
use Rattle.sm_model.specs.EventView.{events_view}
use Rattle.sm_merge.specs.Merged.{AreEventsOf}
use Rattle.sm_merge.specs.steps.Made.{made_shapes, parted_shapes}
use Rattle.sm_merge.proofs.IdsNamed.{named_ids}
use Rattle.sm_merge.proofs.MergeTold.{none_of, told_from, whole_rejected, whole_tell}
use Rattle.sm_merge.proofs.PartsTold.{sound_traits}
use Rattle.sm_merge.proofs.merging.whole_parts.Goals as goal

pub all_events-requires-clause-ids : goal.all_events-requires-clause-ids
all_events-requires-clause-ids c = c.requires.some.1.names.sound.tables.shapes.rows.rise

pub all_events-requires-clause-named : goal.all_events-requires-clause-named
all_events-requires-clause-named c =
    let some = c.requires.some in
    named_ids some.0 c.args.tables.now c.args.walk.now c.args.mixed.now c.args.members.now c.args.all.now some.1

pub all_events-requires-clause-places : goal.all_events-requires-clause-places
all_events-requires-clause-places c = c.requires.some.1.names.sound.tables.traits.rise

pub all_events-requires-clause-names : goal.all_events-requires-clause-names
all_events-requires-clause-names c = c.requires.some.1.names.sound.tables.traits.names

pub returns-then-not-is_empty : goal.returns-then-not-is_empty
returns-then-not-is_empty c = λ ss w.
    whole_rejected ss c.args.tables.now c.args.walk.now c.args.mixed.now c.args.members.now c.args.all.now w
    c.in-Ok.events (c.in-Ok.ensures.told ss (told_from ss c.args.tables.now c.args.walk.now c.args.mixed.now c.args.members.now
    c.args.all.now w))
    c.in-Ok.ensures.errors (search rules)

pub shape_parts-requires : goal.shape_parts-requires
shape_parts-requires c =
    let some = c.requires.some in
    sound_traits some.0 c.args.tables.now c.args.members.now c.args.all.now some.1.effective

pub returns-in-Ok-shape_parts : goal.returns-in-Ok-shape_parts
returns-in-Ok-shape_parts c = λ ss w.
    whole_tell ss c.args.tables.now c.args.walk.now c.args.mixed.now c.args.members.now c.args.all.now w
    c.in-Ok-shape_parts.parts
    (subst (λ rows. parted_shapes rows c.in-Ok-shape_parts.parts.items ≡ made_shapes rows c.args.members.now c.args.all.now)
    c.as_slice-rows.ensures.value c.in-Ok-shape_parts.ensures)
    (subst (λ es. AreEventsOf ss (events_view es)) (none_of c.in-Ok.events (search rules))
    (c.in-Ok.ensures.told ss (told_from ss c.args.tables.now c.args.walk.now c.args.mixed.now c.args.members.now c.args.all.now w)))
