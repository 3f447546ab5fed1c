use Rattle.std.proofs.Common.{sym}
use Rattle.sm_shapes.specs.TableView.{table_data}
use Rattle.sm_shapes.specs.ValueView.{val_of}
use Rattle.sm_codec.proofs.FieldsRising.{plain_default}
use Rattle.sm_codec.proofs.frames.ending.put_default_of.Goals as goal

pub copy_default-requires : goal.copy_default-requires
copy_default-requires c =
    plain_default (table_data c.args.table.now) c.args.member (val_of c.in-Some.value.now) c.requires.shaped (sym c.in-Some.ensures)
