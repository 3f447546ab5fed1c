use Rattle.std.proofs.Common.{◌≡◌, [], sym, subst, ◌∙◌}
use Rattle.sm_tree.specs.Streams.{numbered}
use Rattle.sm_shapes.specs.Fitting.{any_text}
use Rattle.sm_shapes.specs.Places.{root_place}
use Rattle.sm_shapes.specs.TableView.{table_data}
use Rattle.sm_shapes.specs.ValueView.{val_of}
use Rattle.sm_codec.specs.Written.{written}
use Rattle.sm_bodies.specs.Sides.{side_of, WritesForm}
use Rattle.sm_bodies.proofs.BodiesWritten.{encodes_json, encodes_cbor}
use Rattle.sm_bodies.proofs.writing.carried_body.Goals as goal

pub encode_events-requires-clause-takes : goal.encode_events-requires-clause-takes
encode_events-requires-clause-takes g c =
    (encodes_json (table_data c.args.table.now) (g.L.Leaves.convention c.args.leaves.now) any_text (root_place c.args.shape)
    (val_of c.args.value.now) c.requires.shaped (subst (λ form. WritesForm form (g.L.Leaves.convention c.args.leaves.now)) c.in-Json.is
    c.requires.writes) c.requires.shape c.requires.fits c.requires.carried).0

pub returns-in_ok-encode_events-in-Json : goal.returns-in_ok-encode_events-in-Json
returns-in_ok-encode_events-in-Json g c =
    let n = written (table_data c.args.table.now) (g.L.Leaves.convention c.args.leaves.now) (root_place c.args.shape)
    (val_of c.args.value.now) in
    let made = encodes_json (table_data c.args.table.now) (g.L.Leaves.convention c.args.leaves.now) any_text (root_place c.args.shape)
    (val_of c.args.value.now) c.requires.shaped (subst (λ form. WritesForm form (g.L.Leaves.convention c.args.leaves.now)) c.in-Json.is
    c.requires.writes) c.requires.shape c.requires.fits c.requires.carried in
    subst (λ form. c.into_bytes.result.items ≡ (side_of form).text n) (sym c.in-Json.is)
    (c.into_bytes.ensures (numbered n []) c.in_ok-encode_events-in-Json.ensures.stands ∙ made.1)

pub encode_events-requires-in-Cbor-clause-takes : goal.encode_events-requires-in-Cbor-clause-takes
encode_events-requires-in-Cbor-clause-takes g c =
    (encodes_cbor (table_data c.args.table.now) (g.L.Leaves.convention c.args.leaves.now) any_text (root_place c.args.shape)
    (val_of c.args.value.now) c.requires.shaped (subst (λ form. WritesForm form (g.L.Leaves.convention c.args.leaves.now)) c.in-Cbor.is
    c.requires.writes) c.requires.shape c.requires.fits c.requires.carried).0

pub returns-in_ok-encode_events-in-Cbor : goal.returns-in_ok-encode_events-in-Cbor
returns-in_ok-encode_events-in-Cbor g c =
    let n = written (table_data c.args.table.now) (g.L.Leaves.convention c.args.leaves.now) (root_place c.args.shape)
    (val_of c.args.value.now) in
    let made = encodes_cbor (table_data c.args.table.now) (g.L.Leaves.convention c.args.leaves.now) any_text (root_place c.args.shape)
    (val_of c.args.value.now) c.requires.shaped (subst (λ form. WritesForm form (g.L.Leaves.convention c.args.leaves.now)) c.in-Cbor.is
    c.requires.writes) c.requires.shape c.requires.fits c.requires.carried in
    subst (λ form. c.into_bytes-in-Cbor.result.items ≡ (side_of form).text n) (sym c.in-Cbor.is)
    (c.into_bytes-in-Cbor.ensures (numbered n []) c.in_ok-encode_events-in-Cbor.ensures.stands ∙ made.1)
