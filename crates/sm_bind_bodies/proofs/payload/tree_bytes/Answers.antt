use Rattle.std.proofs.Common.{[], true, ◌∙◌}
use Rattle.sm_tree.specs.Streams.{numbered}
use Rattle.sm_shapes.specs.Fitting.{any_text}
use Rattle.sm_shapes.specs.Places.{member_place}
use Rattle.sm_shapes.specs.TableView.{table_data}
use Rattle.sm_shapes.specs.ValueView.{val_of}
use Rattle.sm_codec.specs.Conventions.{json_convention}
use Rattle.sm_codec.specs.Written.{written}
use Rattle.sm_codec.proofs.JsonWrites.{json_writes}
use Rattle.sm_bodies.proofs.BodiesWritten.{encodes_json}
use Rattle.sm_bind_bodies.proofs.payload.tree_bytes.Goals as goal

pub encode_events_at-requires-clause-takes : goal.encode_events_at-requires-clause-takes
encode_events_at-requires-clause-takes c =
    (encodes_json (table_data c.args.place.now.table.now) (json_convention true) any_text (member_place c.args.member) (val_of c.args.value.now)
    c.requires.shaped (json_writes true) c.requires.member c.requires.fits c.requires.carried).0

pub returns : goal.returns
returns c =
    let t = table_data c.args.place.now.table.now in
    let n = written t (json_convention true) (member_place c.args.member) (val_of c.args.value.now) in
    let made = encodes_json t (json_convention true) any_text (member_place c.args.member) (val_of c.args.value.now)
    c.requires.shaped (json_writes true) c.requires.member c.requires.fits c.requires.carried in
    c.into_bytes.ensures (numbered n []) c.in_ok-encode_events_at.ensures.stands ∙ made.1
