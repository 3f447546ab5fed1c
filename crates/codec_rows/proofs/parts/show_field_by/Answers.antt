use Rattle.sm_shapes.specs.TableView.{table_data}
use Rattle.codec_rows.proofs.StructureParts.{first_fits}
use Rattle.codec_rows.proofs.parts.show_field_by.Goals as goal

pub show_at-requires-clause-place : goal.show_at-requires-clause-place
show_at-requires-clause-place g c =
    (first_fits (table_data c.args.table.now) c.args.shape c.args.value.now c.in-Structure.fields c.as_slice.result.now c.field-item.result
    c.requires.shaped c.requires.shape c.requires.fits c.in-Structure.is c.as_slice.ensures c.in-len1-up.len_at_least c.field-item.is).0

pub show_at-requires-clause-fits : goal.show_at-requires-clause-fits
show_at-requires-clause-fits g c =
    (first_fits (table_data c.args.table.now) c.args.shape c.args.value.now c.in-Structure.fields c.as_slice.result.now c.field-item.result
    c.requires.shaped c.requires.shape c.requires.fits c.in-Structure.is c.as_slice.ensures c.in-len1-up.len_at_least c.field-item.is).1
