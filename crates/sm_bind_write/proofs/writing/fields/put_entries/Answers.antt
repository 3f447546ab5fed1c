use Rattle.std.proofs.Common.{◌≡◌, [], true, sym, ap, ◌∙◌, subst}
use Rattle.std.specs.Str.{str_to_ascii_lowercase}
use Rattle.sm_shapes.specs.Fitting.{Fits, any_text}
use Rattle.sm_shapes.specs.Places.{value_place}
use Rattle.sm_shapes.specs.TableView.{table_data}
use Rattle.sm_shapes.specs.Values.{entries_of, map_val}
use Rattle.sm_shapes.specs.ValueView.{each_entry_view, entries_view, val_of}
use Rattle.sm_shapes.proofs.ValueViews.{map_value}
use Rattle.sm_codec.specs.Codec.{InTable}
use Rattle.sm_codec.specs.PlaceView.{place_of}
use Rattle.sm_codec.proofs.PlacesIn.{value_in}
use Rattle.sm_part_texts.specs.CarriedTexts.{fields_have_texts}
use Rattle.sm_bind.specs.BoundView.{bound_of}
use Rattle.sm_bind_write.specs.CarriedParts.{uncarried_prefixed}
use Rattle.sm_bind_write.proofs.PartsHad.{some_prefixed_had}
use Rattle.sm_bind_write.proofs.writing.fields.put_entries.Goals as goal

pub put_prefixed-requires-clause-place : goal.put_prefixed-requires-clause-place
put_prefixed-requires-clause-place c =
    let t = table_data c.args.place.now.table.now in
    let p = place_of c.args.at in
    let es = entries_view c.in-Map.entries in
    let seen : val_of c.args.value.now ≡ map_val (entries_of es) = ap val_of c.in-Map.is ∙ map_value c.in-Map.entries in
    let fits : Fits t any_text p (map_val (entries_of es)) = subst (Fits t any_text p) seen c.requires.fits in
    subst (InTable t) (sym c.value-inner.ensures) (value_in t p c.requires.shaped c.requires.place fits.0)

pub put_prefixed-requires-clause-has : goal.put_prefixed-requires-clause-has
put_prefixed-requires-clause-has c =
    let t = table_data c.args.place.now.table.now in
    let b = bound_of c.args.place.now in
    let p = place_of c.args.at in
    let prefix = str_to_ascii_lowercase c.args.prefix.now in
    let es = entries_view c.in-Map.entries in
    let seen : val_of c.args.value.now ≡ map_val (entries_of es) = ap val_of c.in-Map.is ∙ map_value c.in-Map.entries in
    let carried = subst (λ v. uncarried_prefixed b prefix (value_place t p) v ≡ []) seen c.requires.carried in
    subst (λ q. fields_have_texts t q (entries_of (each_entry_view c.as_slice-rows.result.now)) ≡ true) (sym c.value-inner.ensures)
    (subst (λ xs. fields_have_texts t (value_place t p) (entries_of xs) ≡ true) (sym c.as_slice-rows.ensures)
    (some_prefixed_had b prefix (value_place t p) (entries_of es) carried))
