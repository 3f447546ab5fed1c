use Rattle.std.proofs.Common.{◌≡◌, true, false, cond, sym, ap, ◌∙◌, subst}
use Rattle.std.specs.List.{list_any}
use Rattle.std.proofs.lemmas.Result.{IfOk-weaker}
use Rattle.sm_tree.specs.Node.{object}
use Rattle.sm_json.specs.Written as json
use Rattle.sm_shapes.specs.Fitting.{Fits, any_text}
use Rattle.sm_shapes.specs.Places.{root_place}
use Rattle.sm_shapes.specs.TableData.{members_at}
use Rattle.sm_shapes.specs.Values.{structure_val}
use Rattle.sm_shapes.specs.ValueView.{val_of}
use Rattle.sm_bind_write.specs.messages.MessageForm.{a_tree}
use Rattle.sm_bind_write.specs.messages.TreeBodies.{fields_in}
use Rattle.sm_bind_write.specs.bind.BoundView.{bound_of}
use Rattle.sm_bind_write.specs.bind.Roles.{has_document, is_in_document}
use Rattle.sm_bind_write.specs.WrittenParts.{document_pairs, payload_among}
use Rattle.sm_bind_write.specs.steps.FieldsMet.{FieldsIn, FieldsReady}
use Rattle.sm_bind_write.proofs.ReadyFields.{fields_met, ready, rising}
use Rattle.sm_bind_bodies.specs.WrittenBodies.{content_bytes}
use Rattle.sm_bind_bodies.proofs.StructureValues.{fields_fit}
use Rattle.sm_bind_bodies.proofs.written.written_body.Goals as goal

pub document_bytes-requires-clause-fits : goal.document_bytes-requires-clause-fits
document_bytes-requires-clause-fits c =
    let b = bound_of c.args.place.now in
    let s = c.args.place.now.shape in
    let v = val_of c.args.value.now in
    subst (λ fs. Fits b.table any_text (root_place s) (structure_val fs)) (sym c.fields_in-fields.ensures)
    (fields_fit b.table s v c.requires.structure c.requires.fits)

pub document_bytes-requires-clause-met : goal.document_bytes-requires-clause-met
document_bytes-requires-clause-met c =
    let b = bound_of c.args.place.now in
    let s = c.args.place.now.shape in
    let v = val_of c.args.value.now in
    subst (FieldsIn b.table (members_at b.table s)) (sym c.fields_in-fields.ensures) (fields_met b.table s v c.requires.fits)

pub document_bytes-requires-clause-ready : goal.document_bytes-requires-clause-ready
document_bytes-requires-clause-ready c =
    let b = bound_of c.args.place.now in
    let s = c.args.place.now.shape in
    let v = val_of c.args.value.now in
    let ks = members_at b.table s in
    subst (FieldsReady b) (sym c.fields_in-fields.ensures)
    (ready b s ks (fields_in v) (c.requires.shaped.members s c.requires.shape) (rising ks (c.requires.shaped.rises s c.requires.shape))
    (fields_met b.table s v c.requires.fits) c.requires.carried)

pub payload_bytes-requires-clause-ready : goal.payload_bytes-requires-clause-ready
payload_bytes-requires-clause-ready c =
    let b = bound_of c.args.place.now in
    let s = c.args.place.now.shape in
    let v = val_of c.args.value.now in
    let ks = members_at b.table s in
    subst (FieldsReady b) (sym c.fields_in-fields.ensures)
    (ready b s ks (fields_in v) (c.requires.shaped.members s c.requires.shape) (rising ks (c.requires.shaped.rises s c.requires.shape))
    (fields_met b.table s v c.requires.fits) c.requires.carried)

pub returns-then-has_document : goal.returns-then-has_document
returns-then-has_document c =
    let b = bound_of c.args.place.now in
    let fs = fields_in (val_of c.args.value.now) in
    let there : has_document b ≡ true =
    sym (c.has_document.ensures ∙ ap (list_any (is_in_document b)) c.members-members.ensures) ∙ c.if-has_document.true in
    IfOk-weaker c.document_bytes.result _ _
    (λ bytes h. h ∙ ap (λ gs. json.written (object (document_pairs b gs))) c.fields_in-fields.ensures
    ∙ sym (ap (λ t. content_bytes (cond t (a_tree (object (document_pairs b fs))) (payload_among b fs))) there))
    c.document_bytes.ensures

pub returns-else-has_document : goal.returns-else-has_document
returns-else-has_document c =
    let b = bound_of c.args.place.now in
    let fs = fields_in (val_of c.args.value.now) in
    let there : has_document b ≡ false =
    sym (c.has_document.ensures ∙ ap (list_any (is_in_document b)) c.members-members.ensures) ∙ c.if-has_document.false in
    IfOk-weaker c.payload_bytes.result _ _
    (λ bytes h. h ∙ ap (λ gs. content_bytes (payload_among b gs)) c.fields_in-fields.ensures
    ∙ sym (ap (λ t. content_bytes (cond t (a_tree (object (document_pairs b fs))) (payload_among b fs))) there))
    c.payload_bytes.ensures
