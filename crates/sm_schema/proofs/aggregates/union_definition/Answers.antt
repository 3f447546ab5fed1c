use Rattle.std.proofs.Common.{true, codes, ap, ◌∙◌}
use Rattle.sm_tree.specs.Node.{Node, list, object, no_members, member}
use Rattle.sm_tree.specs.View.{node_of}
use Rattle.sm_shapes.specs.Places.{shape_of, members_of_place}
use Rattle.sm_shapes.specs.TableData.{members_at}
use Rattle.sm_shapes.specs.TableView.{table_data}
use Rattle.sm_codec.specs.PlaceView.{place_of}
use Rattle.sm_schema.specs.Described.{typed, schemas_under, choices}
use Rattle.sm_schema.specs.steps.Numbered.{listing_of}
use Rattle.sm_schema.specs.steps.WithNotes.{notes_seen, schema_with}
use Rattle.sm_schema.proofs.NumberedPlaces.{members_all}
use Rattle.sm_schema.proofs.aggregates.union_definition.Goals as goal

pub schemas_under-requires-clause-members : goal.schemas_under-requires-clause-members
schemas_under-requires-clause-members c =
    members_all (table_data c.args.table.now) (place_of c.args.place) c.shape.result c.members-members.result.now c.requires.shaped
    c.requires.inside c.shape.ensures c.members-members.ensures

pub choices-requires-clause-members : goal.choices-requires-clause-members
choices-requires-clause-members c =
    members_all (table_data c.args.table.now) (place_of c.args.place) c.shape.result c.members-members.result.now c.requires.shaped
    c.requires.inside c.shape.ensures c.members-members.ensures

abbrev built : Node → Node → Node
built properties one_of = typed (codes "object") (member (codes "properties") properties (member (codes "oneOf") one_of no_members))

pub returns : goal.returns
returns c =
    let t = table_data c.args.table.now in
    let p = place_of c.args.place in
    let d = listing_of t c.args.json_names c.args.all.now in
    let s = shape_of t p in
    let o = notes_seen c.args.notes in
    let now = c.members-members.ensures ∙ ap (members_at t) c.shape.ensures in
    let schemas = c.object_of.ensures ∙ ap object (c.in_ok-schemas.ensures s ∙ ap (schemas_under d s (schema_with o d true)) now) in
    let one_of = c.list_of.ensures ∙ ap list (c.in_ok-one_of.ensures s ∙ ap (choices d s) now) in
    c.object_of-2.ensures
    ∙ ap object (c.in_ok-put-2.ensures no_members ∙ c.in_ok-put.ensures (member (codes "oneOf") (node_of c.list_of.result.tree) no_members))
    ∙ c.in_ok-pairs.ensures (member (codes "properties") (node_of c.object_of.result.tree)
    (member (codes "oneOf") (node_of c.list_of.result.tree) no_members))
    ∙ ap (λ n. built n (node_of c.list_of.result.tree)) schemas
    ∙ ap (built (object (schemas_under d s (schema_with o d true) (members_of_place t p)))) one_of
