use Rattle.std.proofs.Common.{◌≡◌, [], sym, subst, ◌∙◌}
use Rattle.std.specs.Prelude.{None, Some}
use Rattle.sm_tree.specs.Streams.{numbered}
use Rattle.sm_shapes.specs.Places.{root_place}
use Rattle.sm_shapes.specs.TableView.{table_data}
use Rattle.sm_shapes.specs.ValueView.{each_field_view}
use Rattle.sm_shapes.specs.Values.{fields_of}
use Rattle.sm_codec.specs.WrittenObjects.{written_object}
use Rattle.sm_bodies.specs.Sides.{WritesForm, side_of}
use Rattle.sm_bodies.proofs.Handed.{item_is, item_taken, text_taken, text_written}
use Rattle.sm_messages.proofs.ObjectBodies.{object_is_cbor, object_is_json}
use Rattle.sm_messages.proofs.objects.named_body.Goals as goal

pub encode_object_events-requires-clause-takes : goal.encode_object_events-requires-clause-takes
encode_object_events-requires-clause-takes g c =
    let t = table_data c.args.table.now in
    let l = g.L.Leaves.convention c.args.leaves.now in
    let fs = fields_of (each_field_view c.args.fields.now) in
    let writes = subst (λ form. WritesForm form l) c.in-Json.is c.requires.writes in
    text_taken (written_object t l (root_place c.args.shape) (Some (c.args.name.now, c.args.text.now)) None fs)
    (object_is_json t l c.args.shape c.args.name.now c.args.text.now fs c.requires.shaped writes c.requires.shape c.requires.name
    c.requires.text c.requires.fits c.requires.carried)

pub returns-in_ok-encode_object_events-in-Json : goal.returns-in_ok-encode_object_events-in-Json
returns-in_ok-encode_object_events-in-Json g c =
    let t = table_data c.args.table.now in
    let l = g.L.Leaves.convention c.args.leaves.now in
    let fs = fields_of (each_field_view c.args.fields.now) in
    let n = written_object t l (root_place c.args.shape) (Some (c.args.name.now, c.args.text.now)) None fs in
    let writes = subst (λ form. WritesForm form l) c.in-Json.is c.requires.writes in
    let is = object_is_json t l c.args.shape c.args.name.now c.args.text.now fs c.requires.shaped writes c.requires.shape c.requires.name
    c.requires.text c.requires.fits c.requires.carried in
    subst (λ form. c.into_bytes.result.items ≡ (side_of form).text n) (sym c.in-Json.is)
    (c.into_bytes.ensures (numbered n []) c.in_ok-encode_object_events-in-Json.ensures.stands ∙ text_written n is)

pub encode_object_events-requires-in-Cbor-clause-takes : goal.encode_object_events-requires-in-Cbor-clause-takes
encode_object_events-requires-in-Cbor-clause-takes g c =
    let t = table_data c.args.table.now in
    let l = g.L.Leaves.convention c.args.leaves.now in
    let fs = fields_of (each_field_view c.args.fields.now) in
    let writes = subst (λ form. WritesForm form l) c.in-Cbor.is c.requires.writes in
    item_taken (written_object t l (root_place c.args.shape) (Some (c.args.name.now, c.args.text.now)) None fs)
    (object_is_cbor t l c.args.shape c.args.name.now c.args.text.now fs c.requires.shaped writes c.requires.shape c.requires.name
    c.requires.text c.requires.fits c.requires.carried)

pub returns-in_ok-encode_object_events-in-Cbor : goal.returns-in_ok-encode_object_events-in-Cbor
returns-in_ok-encode_object_events-in-Cbor g c =
    let t = table_data c.args.table.now in
    let l = g.L.Leaves.convention c.args.leaves.now in
    let fs = fields_of (each_field_view c.args.fields.now) in
    let n = written_object t l (root_place c.args.shape) (Some (c.args.name.now, c.args.text.now)) None fs in
    subst (λ form. c.into_bytes-in-Cbor.result.items ≡ (side_of form).text n) (sym c.in-Cbor.is)
    (c.into_bytes-in-Cbor.ensures (numbered n []) c.in_ok-encode_object_events-in-Cbor.ensures.stands ∙ item_is n)
