use Rattle.std.proofs.Common.{sym, subst}
use Rattle.sm_shapes.specs.TableData.{members_at}
use Rattle.sm_shapes.specs.TableView.{table_data}
use Rattle.sm_shapes.specs.ValueView.{val_of}
use Rattle.sm_messages.specs.TreeBodies.{fields_in}
use Rattle.sm_bind.specs.BoundView.{bound_of}
use Rattle.sm_bind_write.specs.steps.FieldsMet.{FieldsReady}
use Rattle.sm_bind_write.proofs.ReadyFields.{fields_met, ready, rising}
use Rattle.sm_bind_write.proofs.writing.split.Goals as goal

pub parts_of-requires-clause-ready : goal.parts_of-requires-clause-ready
parts_of-requires-clause-ready c =
    let t = table_data c.args.place.now.table.now in
    let b = bound_of c.args.place.now in
    let s = c.args.place.now.shape in
    let v = val_of c.args.value.now in
    subst (FieldsReady b) (sym c.fields_in.ensures)
    (ready b s (members_at t s) (fields_in v) (c.requires.shaped.members s c.requires.shape)
    (rising (members_at t s) (c.requires.shaped.rises s c.requires.shape)) (fields_met t s v c.requires.fits) c.requires.carried)
