use Rattle.sm_model.specs.GraphView.{maps_of}
use Rattle.sm_rules.specs.declared.rule.Rule.TheVariants as rule
use Rattle.sm_load.proofs.RulesPut.{all_put, none_put, put_first}
use Rattle.sm_load.proofs.told.put_rules.Goals as goal

pub put_values-requires : goal.put_values-requires
put_values-requires c = c.requires.are_marks

pub put_places-requires : goal.put_places-requires
put_places-requires c = c.requires.are_ways

pub put_infinite-requires : goal.put_infinite-requires
put_infinite-requires c = c.requires.are_ways

pub put_defaults-requires : goal.put_defaults-requires
put_defaults-requires c = c.requires.are_marks

pub put_names-requires : goal.put_names-requires
put_names-requires c = c.requires.are_ways

pub put_labels-requires : goal.put_labels-requires
put_labels-requires c = c.requires.are_ways

pub put_bound_targets-requires-clause-ways : goal.put_bound_targets-requires-clause-ways
put_bound_targets-requires-clause-ways c = c.requires.are_ways

pub put_bound_targets-requires-clause-sides : goal.put_bound_targets-requires-clause-sides
put_bound_targets-requires-clause-sides c = c.requires.are_sides

pub put_wire_names-requires : goal.put_wire_names-requires
put_wire_names-requires c = c.requires.are_sides

pub put_routes-requires : goal.put_routes-requires
put_routes-requires c = c.requires.are_ways

pub put_codes-requires : goal.put_codes-requires
put_codes-requires c = c.requires.are_ways

pub put_unused-requires : goal.put_unused-requires
put_unused-requires c = c.requires.are_ways

pub returns : goal.returns
returns c =
    let g = maps_of c.args.graph.now in
    let rest_22 = none_put g c.put_unused.new.events.items in
    let rest_21 = put_first g _ rule.ShapeUnused _ _ _ c.in_ok-put_unused.ensures rest_22 in
    let rest_20 = put_first g _ rule.HttpMethod _ _ _ c.in_ok-put_methods.ensures rest_21 in
    let rest_19 = put_first g _ rule.HttpCode _ _ _ c.in_ok-put_codes.ensures rest_20 in
    let rest_18 = put_first g _ rule.HttpRoutes _ _ _ c.in_ok-put_routes.ensures rest_19 in
    let rest_17 = put_first g _ rule.WireNames _ _ _ c.in_ok-put_wire_names.ensures rest_18 in
    let rest_16 = put_first g _ rule.HttpTarget _ _ _ c.in_ok-put_bound_targets.ensures rest_17 in
    let rest_15 = put_first g _ rule.HttpLabels _ _ _ c.in_ok-put_labels.ensures rest_16 in
    let rest_14 = put_first g _ rule.HttpUri _ _ _ c.in_ok-put_uris.ensures rest_15 in
    let rest_13 = put_first g _ rule.ServiceNames _ _ _ c.in_ok-put_names.ensures rest_14 in
    let rest_12 = put_first g _ rule.ConstraintBounds _ _ _ c.in_ok-put_bounds.ensures rest_13 in
    let rest_11 = put_first g _ rule.DefaultValue _ _ _ c.in_ok-put_defaults.ensures rest_12 in
    let rest_10 = put_first g _ rule.EnumValues _ _ _ c.in_ok-put_enums.ensures rest_11 in
    let rest_9 = put_first g _ rule.ShapeInfinite _ _ _ c.in_ok-put_infinite.ensures rest_10 in
    let rest_8 = put_first g _ rule.TraitSingle _ _ _ c.in_ok-put_single.ensures rest_9 in
    let rest_7 = put_first g _ rule.TraitConflict _ _ _ c.in_ok-put_conflicts.ensures rest_8 in
    let rest_6 = put_first g _ rule.TraitPlace _ _ _ c.in_ok-put_places.ensures rest_7 in
    let rest_5 = put_first g _ rule.TraitValue _ _ _ c.in_ok-put_values.ensures rest_6 in
    let rest_4 = put_first g _ rule.TraitUnknown _ _ _ c.in_ok-put_unknown.ensures rest_5 in
    let rest_3 = put_first g _ rule.TargetKind _ _ _ c.in_ok-put_kinds.ensures rest_4 in
    let rest_2 = put_first g _ rule.TargetMissing _ _ _ c.in_ok-put_missing.ensures rest_3 in
    let rest_1 = put_first g _ rule.MemberCase _ _ _ c.in_ok-put_repeats.ensures rest_2 in
    all_put g _ _ (put_first g _ rule.IdCase _ _ _ c.in_ok-put_twins.ensures rest_1)
