use Rattle.std.proofs.Common.{false, codes, ap, ◌∙◌}
use Rattle.sm_tree.specs.Node.{Node, Nodes, object, no_nodes, member}
use Rattle.sm_tree.specs.View.{nodes_view, node_of}
use Rattle.sm_shapes.specs.Places.{shape_of, members_of_place}
use Rattle.sm_shapes.specs.TableData.{members_at}
use Rattle.sm_shapes.specs.TableView.{table_data}
use Rattle.sm_codec.specs.PlaceView.{place_of}
use Rattle.sm_schema.specs.Described.{typed, schemas_under, required_names, with_required}
use Rattle.sm_schema.specs.steps.Joined.{entries_joined}
use Rattle.sm_schema.specs.steps.Numbered.{listing_of, places_in}
use Rattle.sm_schema.specs.steps.WithNotes.{notes_seen, schema_with}
use Rattle.sm_schema.proofs.NumberedPlaces.{members_all}
use Rattle.sm_schema.proofs.aggregates.structure_definition.Goals as goal

pub schemas_under-requires-clause-members : goal.schemas_under-requires-clause-members
schemas_under-requires-clause-members c =
    members_all (table_data c.args.table.now) (place_of c.args.place) c.shape.result c.members-members.result.now c.requires.shaped
    c.requires.inside c.shape.ensures c.members-members.ensures

pub required_names-requires : goal.required_names-requires
required_names-requires c = record {
  members = members_all (table_data c.args.table.now) (place_of c.args.place) c.shape.result c.members-members.result.now c.requires.shaped
      c.requires.inside c.shape.ensures c.members-members.ensures;
}

abbrev built : Node → Nodes → Node
built properties names = typed (codes "object") (member (codes "properties") properties (with_required names))

pub returns : goal.returns
returns c =
    let t = table_data c.args.table.now in
    let p = place_of c.args.place in
    let d = listing_of t c.args.json_names c.args.all.now in
    let s = shape_of t p in
    let o = notes_seen c.args.notes in
    let now = c.members-members.ensures ∙ ap (members_at t) c.shape.ensures in
    let names = entries_joined (nodes_view c.in_ok-names.names.entries.items) no_nodes in
    let schemas = c.object_of.ensures ∙ ap object (c.in_ok-schemas.ensures s ∙ ap (schemas_under d s (schema_with o d false)) now) in
    let required = c.in_ok-names.ensures s (places_in c.args.all.now) ∙ ap (required_names d s) now in
    c.object_of-2.ensures
    ∙ ap object (c.in_ok-put_required.ensures ∙ c.in_ok-put.ensures (with_required names))
    ∙ c.in_ok-pairs.ensures (member (codes "properties") (node_of c.object_of.result.tree) (with_required names))
    ∙ ap (λ n. built n names) schemas
    ∙ ap (built (object (schemas_under d s (schema_with o d false) (members_of_place t p)))) required
