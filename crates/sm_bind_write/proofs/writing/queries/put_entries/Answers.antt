use Rattle.std.proofs.Common.{◌≡◌, [], true, sym, ap, ◌∙◌, subst}
use Rattle.sm_shapes.specs.Fitting.{Fits, any_text}
use Rattle.sm_shapes.specs.Places.{value_place}
use Rattle.sm_shapes.specs.TableView.{table_data}
use Rattle.sm_shapes.specs.Values.{entries_of, map_val}
use Rattle.sm_shapes.specs.ValueView.{each_entry_view, entries_view, val_of}
use Rattle.sm_shapes.proofs.ValueViews.{map_value}
use Rattle.sm_codec.specs.PlaceView.{place_of}
use Rattle.sm_part_texts.specs.CarriedTexts.{keyed_have_texts}
use Rattle.sm_part_texts.specs.PlaceTexts.{EachStandsAt}
use Rattle.sm_part_texts.proofs.TextsHad.{each_stands}
use Rattle.sm_bind.specs.BoundView.{bound_of}
use Rattle.sm_bind_write.specs.CarriedParts.{uncarried_params}
use Rattle.sm_bind_write.proofs.PartsHad.{some_params_had}
use Rattle.sm_bind_write.proofs.writing.queries.put_entries.Goals as goal

pub put_keyed-requires-clause-stand : goal.put_keyed-requires-clause-stand
put_keyed-requires-clause-stand c =
    let t = table_data c.args.place.now.table.now in
    let p = place_of c.args.at in
    let es = entries_view c.in-Map.entries in
    let seen : val_of c.args.value.now ≡ map_val (entries_of es) = ap val_of c.in-Map.is ∙ map_value c.in-Map.entries in
    let fits : Fits t any_text p (map_val (entries_of es)) = subst (Fits t any_text p) seen c.requires.fits in
    subst (λ q. EachStandsAt t q (entries_of (each_entry_view c.as_slice.result.now))) (sym c.value-inner.ensures)
    (subst (λ xs. EachStandsAt t (value_place t p) (entries_of xs)) (sym c.as_slice.ensures) (each_stands t any_text p (entries_of es) fits.3))

pub put_keyed-requires-clause-has : goal.put_keyed-requires-clause-has
put_keyed-requires-clause-has c =
    let t = table_data c.args.place.now.table.now in
    let b = bound_of c.args.place.now in
    let p = place_of c.args.at in
    let es = entries_view c.in-Map.entries in
    let seen : val_of c.args.value.now ≡ map_val (entries_of es) = ap val_of c.in-Map.is ∙ map_value c.in-Map.entries in
    let carried = subst (λ v. uncarried_params b (value_place t p) v ≡ []) seen c.requires.carried in
    subst (λ q. keyed_have_texts t q (entries_of (each_entry_view c.as_slice.result.now)) ≡ true) (sym c.value-inner.ensures)
    (subst (λ xs. keyed_have_texts t (value_place t p) (entries_of xs) ≡ true) (sym c.as_slice.ensures)
    (some_params_had b (value_place t p) (entries_of es) carried))
