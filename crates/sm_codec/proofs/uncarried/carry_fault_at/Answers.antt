use Rattle.sm_shapes.specs.Fitting.{any_text}
use Rattle.sm_shapes.specs.TableView.{table_data}
use Rattle.sm_shapes.specs.ValueView.{val_of}
use Rattle.sm_codec.specs.PlaceView.{place_of}
use Rattle.sm_codec.proofs.PartsFit.{parts_fit}
use Rattle.sm_codec.proofs.uncarried.carry_fault_at.Goals as goal

pub first_at-requires-clause-parts : goal.first_at-requires-clause-parts
first_at-requires-clause-parts g c =
    parts_fit (table_data c.args.table.now) any_text c.requires.shaped (val_of c.args.value.now) (place_of c.args.place) c.requires.place
    c.requires.fits
