use Rattle.std.proofs.Common.{◌≡◌, [], true, sym, ap, ◌∙◌, subst}
use Rattle.std.specs.Prelude.{None, Some}
use Rattle.std.specs.List.{filter}
use Rattle.std.specs.List.Sorted.{IsNonDecreasing}
use Rattle.sm_tree.specs.Json.{IsJson}
use Rattle.sm_tree.specs.Streams.{numbered}
use Rattle.sm_json.specs.Written as json
use Rattle.sm_shapes.specs.Places.{root_place}
use Rattle.sm_shapes.specs.Values.{fields_of}
use Rattle.sm_shapes.specs.ValueView.{each_field_view}
use Rattle.sm_codec.specs.Conventions.{json_convention}
use Rattle.sm_codec.specs.Written.{uncarried_fields}
use Rattle.sm_codec.specs.WrittenObjects.{fields_among, written_object}
use Rattle.sm_bodies.proofs.Handed.{text_taken, text_written}
use Rattle.sm_bind_write.specs.bind.BoundView.{bound_of}
use Rattle.sm_bind_write.specs.bind.Roles.{is_in_document}
use Rattle.sm_bind_bodies.proofs.DocumentsWritten.{document_carried, document_is, document_json, document_rises}
use Rattle.sm_bind_bodies.proofs.document.document_bytes.Goals as goal

pub encode_object_events-requires-clause-rise : goal.encode_object_events-requires-clause-rise
encode_object_events-requires-clause-rise c =
    let b = bound_of c.args.place.now in
    let there = c.as_slice.ensures.value ∙ c.in_ok-members.ensures ∙ ap (filter (is_in_document b)) c.members.ensures in
    subst IsNonDecreasing (sym there) (document_rises b c.requires.shaped c.requires.shape)

pub encode_object_events-requires-clause-carried : goal.encode_object_events-requires-clause-carried
encode_object_events-requires-clause-carried c =
    let b = bound_of c.args.place.now in
    let fs = fields_of (each_field_view c.args.fields.now) in
    let there = c.as_slice.ensures.value ∙ c.in_ok-members.ensures ∙ ap (filter (is_in_document b)) c.members.ensures in
    subst (λ ks. uncarried_fields b.table (json_convention true) (fields_among (Some ks) fs) ≡ []) (sym there)
    (document_carried b fs c.requires.met c.requires.ready)

pub encode_object_events-requires-clause-takes : goal.encode_object_events-requires-clause-takes
encode_object_events-requires-clause-takes c =
    let b = bound_of c.args.place.now in
    let fs = fields_of (each_field_view c.args.fields.now) in
    let there = c.as_slice.ensures.value ∙ c.in_ok-members.ensures ∙ ap (filter (is_in_document b)) c.members.ensures in
    let n = written_object b.table (json_convention true) (root_place b.shape) None (Some c.as_slice.result.now) fs in
    let whole = ap (λ ks. written_object b.table (json_convention true) (root_place b.shape) None (Some ks) fs) there
    ∙ document_is b fs c.requires.met in
    text_taken n (subst IsJson (sym whole) (document_json b fs c.requires.shaped c.requires.ready))

pub returns : goal.returns
returns c =
    let b = bound_of c.args.place.now in
    let fs = fields_of (each_field_view c.args.fields.now) in
    let there = c.as_slice.ensures.value ∙ c.in_ok-members.ensures ∙ ap (filter (is_in_document b)) c.members.ensures in
    let n = written_object b.table (json_convention true) (root_place b.shape) None (Some c.as_slice.result.now) fs in
    let whole = ap (λ ks. written_object b.table (json_convention true) (root_place b.shape) None (Some ks) fs) there
    ∙ document_is b fs c.requires.met in
    c.into_bytes.ensures (numbered n []) c.in_ok-encode_object_events.ensures.stands
    ∙ text_written n (subst IsJson (sym whole) (document_json b fs c.requires.shaped c.requires.ready)) ∙ ap json.written whole
