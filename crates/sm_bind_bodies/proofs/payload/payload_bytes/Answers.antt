use Rattle.std.proofs.Common.{◌≡◌, ◌+◌, [], ◌∷◌, drop, sym, ap, ◌∙◌, subst}
use Rattle.std.proofs.lemmas.List.{drop_more}
use Rattle.std.proofs.lemmas.Result.{IfOk-weaker}
use Rattle.sm_shapes.specs.Values.{fields_of}
use Rattle.sm_shapes.specs.ValueView.{each_field_view, val_of}
use Rattle.sm_bind_write.specs.bind.BoundView.{bound_of}
use Rattle.sm_bind_write.specs.CarriedParts.{uncarried_bound}
use Rattle.sm_bind_write.specs.WrittenParts.{payload_among, payload_by}
use Rattle.sm_bind_write.specs.steps.FieldsMet.{FieldsReady}
use Rattle.sm_bind_bodies.specs.WrittenBodies.{content_bytes}
use Rattle.sm_bind_bodies.proofs.PayloadsWritten.{payload_counts, payload_other}
use Rattle.sm_bind_bodies.proofs.payload.payload_bytes.Goals as goal

pub bytes_of-requires-clause-carried : goal.bytes_of-requires-clause-carried
bytes_of-requires-clause-carried c =
    let b = bound_of c.args.place.now in
    let all = c.args.fields.now in
    let i = c.loop-field.field-index in
    let item = c.field-item.result in
    let view : drop i all ≡ item ∷ drop (i + 1) all =
    drop_more all i item c.loop-field-test.true ∙ ap (λ y. y ∷ drop (i + 1) all) (sym c.field-item.is) in
    let ready = subst (λ xs. FieldsReady b (fields_of (each_field_view xs))) view c.loop-field.invariant.ready in
    let counts = payload_counts b item.0 (sym c.is_payload_at.ensures ∙ c.if-is_payload_at.true) in
    subst (λ o. uncarried_bound o b item.0 (val_of item.1) ≡ []) counts ready.2

pub returns-then-is_payload_at : goal.returns-then-is_payload_at
returns-then-is_payload_at c =
    let b = bound_of c.args.place.now in
    let all = c.args.fields.now in
    let i = c.loop-field.field-index in
    let item = c.field-item.result in
    let rest = payload_among b (fields_of (each_field_view (drop (i + 1) all))) in
    let view : drop i all ≡ item ∷ drop (i + 1) all =
    drop_more all i item c.loop-field-test.true ∙ ap (λ y. y ∷ drop (i + 1) all) (sym c.field-item.is) in
    let counts = payload_counts b item.0 (sym c.is_payload_at.ensures ∙ c.if-is_payload_at.true) in
    IfOk-weaker c.bytes_of.result _ _
    (λ bytes h. h ∙ sym (ap (λ o. content_bytes (payload_by o b item.0 (val_of item.1) rest)) counts)
    ∙ ap (λ xs. content_bytes (payload_among b (fields_of (each_field_view xs)))) (sym view) ∙ c.loop-field.invariant.same)
    c.bytes_of.ensures

pub loop-field-preserved : goal.loop-field-preserved
loop-field-preserved c =
    let b = bound_of c.args.place.now in
    let all = c.args.fields.now in
    let i = c.loop-field.field-index in
    let item = c.field-item.result in
    let rest = payload_among b (fields_of (each_field_view (drop (i + 1) all))) in
    let view : drop i all ≡ item ∷ drop (i + 1) all =
    drop_more all i item c.loop-field-test.true ∙ ap (λ y. y ∷ drop (i + 1) all) (sym c.field-item.is) in
    let ready = subst (λ xs. FieldsReady b (fields_of (each_field_view xs))) view c.loop-field.invariant.ready in
    let other = payload_other b item.0 (val_of item.1) rest (sym c.is_payload_at.ensures ∙ c.if-is_payload_at.false) in
    record {
      same = sym (ap content_bytes other) ∙ ap (λ xs. content_bytes (payload_among b (fields_of (each_field_view xs)))) (sym view)
          ∙ c.loop-field.invariant.same;
      ready = ready.3;
    }
