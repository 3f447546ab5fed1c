use Rattle.std.proofs.Common.{refl}
use Rattle.sm_shapes.specs.Places.{member_place}
use Rattle.sm_shapes.specs.TableView.{table_data}
use Rattle.sm_shapes.specs.ValueView.{val_of}
use Rattle.sm_part_texts.specs.PlaceTexts.{in_fields}
use Rattle.sm_part_texts.specs.declared.carried.TextTest.TheVariants.{OfEntry, OfField}
use Rattle.sm_part_texts.proofs.TextsHad.{texts_had}
use Rattle.sm_bind_write.proofs.writing.fields.put_header.Goals as goal

pub field_of-requires-clause-has : goal.field_of-requires-clause-has
field_of-requires-clause-has c =
    texts_had OfField OfEntry in_fields (table_data c.args.place.now.table.now) (member_place c.args.member) (val_of c.args.value.now) refl refl
    c.requires.carried
