use Rattle.std.proofs.Common.{sym, subst}
use Rattle.sm_shapes.specs.TableData.{members_at}
use Rattle.sm_shapes.specs.TableView.{table_data}
use Rattle.sm_shapes.specs.ValueView.{each_field_view, val_of}
use Rattle.sm_shapes.specs.Values.{fields_of}
use Rattle.sm_bind_write.specs.steps.FieldsMet.{FieldsIn, Rising}
use Rattle.sm_bind_write.proofs.ReadyFields.{fields_met, rising}
use Rattle.sm_bind_write.proofs.carried.is_carried.Goals as goal

pub first_missed-requires-clause-rise : goal.first_missed-requires-clause-rise
first_missed-requires-clause-rise c =
    let t = table_data c.args.place.now.table.now in
    let s = c.args.place.now.shape in
    subst Rising (sym c.members.ensures) (rising (members_at t s) (c.requires.shaped.rises s c.requires.shape))

pub first_missed-requires-clause-fields : goal.first_missed-requires-clause-fields
first_missed-requires-clause-fields c =
    let t = table_data c.args.place.now.table.now in
    let s = c.args.place.now.shape in
    let v = val_of c.args.value.now in
    subst (λ ks. FieldsIn t ks (fields_of (each_field_view c.fields_in-fields.result.now))) (sym c.members.ensures)
    (subst (FieldsIn t (members_at t s)) (sym c.fields_in-fields.ensures) (fields_met t s v c.requires.fits))
