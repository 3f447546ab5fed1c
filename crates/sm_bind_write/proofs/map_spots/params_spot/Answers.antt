use Rattle.std.proofs.Common.{◌≡◌, sym, ap, ◌∙◌, subst}
use Rattle.std.specs.Cmp.Lexicographic.{slice_cmp}
use Rattle.std.specs.List.Sorted.{IsStrictlySortedBy}
use Rattle.std.specs.Ordering.{nat_cmp}
use Rattle.sm_shapes.specs.Fitting.{Fits, any_text}
use Rattle.sm_shapes.specs.Places.{value_place}
use Rattle.sm_shapes.specs.TableView.{table_data}
use Rattle.sm_shapes.specs.Values.{entries_of, keys_of, map_val}
use Rattle.sm_shapes.specs.ValueView.{each_entry_view, entries_view, val_of}
use Rattle.sm_shapes.proofs.ValueViews.{map_value}
use Rattle.sm_codec.specs.PlaceView.{place_of}
use Rattle.sm_part_texts.specs.PlaceTexts.{EachStandsAt}
use Rattle.sm_part_texts.proofs.TextsHad.{each_stands}
use Rattle.sm_bind_write.proofs.KeysFree.{keys_seen}
use Rattle.sm_bind_write.proofs.map_spots.params_spot.Goals as goal

pub some_params-requires-clause-stand : goal.some_params-requires-clause-stand
some_params-requires-clause-stand c =
    let t = table_data c.args.place.now.table.now in
    let p = place_of c.args.at in
    let es = entries_view c.in-Map.entries in
    let seen : val_of c.args.value.now ≡ map_val (entries_of es) = ap val_of c.in-Map.is ∙ map_value c.in-Map.entries in
    let fits : Fits t any_text p (map_val (entries_of es)) = subst (Fits t any_text p) seen c.requires.fits in
    subst (λ q. EachStandsAt t q (entries_of (each_entry_view c.as_slice.result.now))) (sym c.value.ensures)
    (subst (λ xs. EachStandsAt t (value_place t p) (entries_of xs)) (sym c.as_slice.ensures) (each_stands t any_text p (entries_of es) fits.3))

pub some_params-requires-clause-rise : goal.some_params-requires-clause-rise
some_params-requires-clause-rise c =
    let t = table_data c.args.place.now.table.now in
    let p = place_of c.args.at in
    let es = entries_view c.in-Map.entries in
    let seen : val_of c.args.value.now ≡ map_val (entries_of es) = ap val_of c.in-Map.is ∙ map_value c.in-Map.entries in
    let fits : Fits t any_text p (map_val (entries_of es)) = subst (Fits t any_text p) seen c.requires.fits in
    subst (IsStrictlySortedBy (slice_cmp nat_cmp))
    (sym (ap (λ xs. keys_of (entries_of xs)) c.as_slice.ensures) ∙ keys_seen c.as_slice.result.now) fits.2
