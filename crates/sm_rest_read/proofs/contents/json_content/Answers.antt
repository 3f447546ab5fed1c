use Rattle.std.proofs.Common.{◌<◌, sym, ◌∙◌, subst}
use Rattle.sm_shapes.specs.InOrder.{AreStored, DefaultsPass, Shaped}
use Rattle.sm_shapes.specs.TableData.{shape_count}
use Rattle.sm_shapes.specs.TableView.{table_data}
use Rattle.sm_rest.specs.bind.BindingsView.{bindings_data, body_at}
use Rattle.sm_rest.specs.bind.BoundView.{bound_of}
use Rattle.sm_rest_read.specs.Begun.{bindings_codec}
use Rattle.sm_rest_read.proofs.BodyShapes.{part_has, shape_needed}
use Rattle.sm_rest_read.proofs.ValuesJoined.{empty_given, number_there, text_content_given}
use Rattle.sm_rest_read.proofs.PlacesJoined.{pass_there, stored_there}
use Rattle.sm_rest_read.proofs.contents.json_content.Goals as goal

pub unreachable-requires : goal.unreachable-requires
unreachable-requires g c =
    let b = bound_of c.args.place.now in
    let d = bindings_data c.args.bindings.now in
    let is = c.requires.place in
    shape_needed b (body_at d b.side b.shape) (part_has b d is.bindings is.shape is.structure) c.requires.json
    (sym c.document.ensures ∙ c.in_default.is)

pub returns-then-is_empty-clause-content : goal.returns-then-is_empty-clause-content
returns-then-is_empty-clause-content g c =
    let b = bound_of c.args.place.now in
    let d = bindings_data c.args.bindings.now in
    empty_given b (bindings_codec d g.P.Patterns.test) (body_at d b.side b.shape) c.in-Some.shape c.args.bytes.now c.requires.json
    (sym c.is_empty.ensures ∙ c.if-is_empty.true) (sym c.document.ensures ∙ c.in-Some.is)

pub returns-clause-content : goal.returns-clause-content
returns-clause-content g c =
    let b = bound_of c.args.place.now in
    let d = bindings_data c.args.bindings.now in
    text_content_given b d g.P.Patterns.test (table_data c.documents-documents.result.now) c.in-Some.shape c.args.bytes.now c.args.document
    c.text_content.result c.documents-documents.ensures c.requires.place (sym c.document.ensures ∙ c.in-Some.is)
    (sym c.is_empty.ensures ∙ c.if-is_empty.false) c.requires.document c.text_content.ensures.content

pub text_content-requires-clause-number : goal.text_content-requires-clause-number
text_content-requires-clause-number g c =
    let b = bound_of c.args.place.now in
    let d = bindings_data c.args.bindings.now in
    subst (λ t. c.in-Some.shape < shape_count t) (sym c.documents-documents.ensures)
    (number_there b d c.in-Some.shape c.requires.place (sym c.document.ensures ∙ c.in-Some.is))

pub text_content-requires-clause-shaped : goal.text_content-requires-clause-shaped
text_content-requires-clause-shaped g c = subst Shaped (sym c.documents-documents.ensures) c.requires.place.bindings.shaped

pub text_content-requires-clause-stored : goal.text_content-requires-clause-stored
text_content-requires-clause-stored g c =
    let b = bound_of c.args.place.now in
    let d = bindings_data c.args.bindings.now in
    let added = g.P.Patterns.added c.args.patterns.now in
    subst (λ t. AreStored t.patterns added) (sym c.documents-documents.ensures)
    (stored_there b.table d added c.requires.place.bindings c.requires.stored)

pub text_content-requires-clause-pass : goal.text_content-requires-clause-pass
text_content-requires-clause-pass g c =
    let b = bound_of c.args.place.now in
    let d = bindings_data c.args.bindings.now in
    subst (λ t. DefaultsPass t g.P.Patterns.test) (sym c.documents-documents.ensures)
    (pass_there b.table d (g.P.Patterns.added c.args.patterns.now) g.P.Patterns.test c.requires.place.bindings c.requires.stored c.requires.pass)
