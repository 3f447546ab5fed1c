use Rattle.sm_shapes.specs.Fitting.{any_text}
use Rattle.sm_shapes.specs.TableView.{table_data}
use Rattle.sm_shapes.specs.ValueView.{val_of}
use Rattle.sm_codec.specs.PlaceView.{place_of}
use Rattle.sm_codec.specs.Written.{uncarried}
use Rattle.sm_codec.proofs.EncodedValues.{none_told}
use Rattle.sm_codec.proofs.PartsFit.{parts_fit}
use Rattle.sm_codec.proofs.carried.all_carried_at.Goals as goal

pub is_carried-requires-clause-parts : goal.is_carried-requires-clause-parts
is_carried-requires-clause-parts g c =
    parts_fit (table_data c.args.table.now) any_text c.requires.shaped (val_of c.args.value.now) (place_of c.args.place) c.requires.place
    c.requires.fits

pub returns : goal.returns
returns g c =
    none_told (uncarried (table_data c.args.table.now) (g.L.Leaves.convention c.args.leaves.now) (place_of c.args.place) (val_of
    c.args.value.now))
    c.is_carried.result c.is_carried.ensures
