use Rattle.std.proofs.Common.{[], ◌∷◌, map, sym, ap, ◌∙◌, subst, arith}
use Rattle.std.specs.Option.{option_map}
use Rattle.sm_tree.specs.declared.path.Step.TheVariants.{Key}
use Rattle.sm_shapes.specs.Values.{entries_of}
use Rattle.sm_shapes.specs.ValueView.{each_entry_view}
use Rattle.sm_codec.specs.Encoded.{first_path}
use Rattle.sm_codec.specs.PlaceView.{place_of}
use Rattle.sm_part_texts.specs.PlaceTexts.{EachStandsAt}
use Rattle.sm_bind.specs.BoundView.{bound_of}
use Rattle.sm_bind.specs.Roles.{is_taken_key}
use Rattle.sm_bind_write.specs.PartSpots.{part_path}
use Rattle.sm_bind_write.specs.steps.FreeKeys.{free_failing}
use Rattle.sm_bind_write.proofs.KeysFree.{free_found, free_none, not_empty, stand_first, within_all}
use Rattle.sm_bind_write.proofs.map_spots.some_params.Goals as goal

pub split_at-requires : goal.split_at-requires
split_at-requires c =
    let most = within_all (is_taken_key (bound_of c.args.place.now)) c.args.entries.now in
    omega (arith, c.free_len.ensures, most)

pub first_param-requires-clause-stand : goal.first_param-requires-clause-stand
first_param-requires-clause-stand c =
    let b = bound_of c.args.place.now in
    let q = place_of c.args.at in
    subst (λ xs. EachStandsAt b.table q (entries_of (each_entry_view xs))) (sym c.split_at.ensures.front)
    (stand_first b q c.args.entries.now c.free_len.result c.requires.stand)

pub returns-in-Some : goal.returns-in-Some
returns-in-Some c =
    let b = bound_of c.args.place.now in
    let q = place_of c.args.at in
    let es = c.args.entries.now in
    free_found b q es c.free_len.result (part_path c.in-Some.spot) (not_empty es (sym c.is_empty.ensures ∙ c.if-is_empty.false))
    c.free_len.ensures
    (ap (option_map part_path) (sym c.in-Some.is) ∙ c.first_param.ensures
    ∙ ap (λ xs. first_path (free_failing b.table q (entries_of (each_entry_view xs)))) c.split_at.ensures.front)

pub returns-in-None : goal.returns-in-None
returns-in-None c =
    let b = bound_of c.args.place.now in
    let q = place_of c.args.at in
    let es = c.args.entries.now in
    c.first_key.ensures ∙ ap (λ xs. first_path (map (λ e. Key e.0 ∷ []) xs)) c.split_at.ensures.back
    ∙ free_none b q es c.free_len.result (not_empty es (sym c.is_empty.ensures ∙ c.if-is_empty.false)) c.free_len.ensures
    (ap (option_map part_path) (sym c.in-None.is) ∙ c.first_param.ensures
    ∙ ap (λ xs. first_path (free_failing b.table q (entries_of (each_entry_view xs)))) c.split_at.ensures.front)
