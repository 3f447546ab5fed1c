use Rattle.std.proofs.Common.{ℤ, Option, codes, ap, ◌∙◌}
use Rattle.sm_tree.specs.Node.{Node, object, no_members, member}
use Rattle.sm_tree.specs.View.{node_of}
use Rattle.sm_shapes.specs.Places.{key_place, value_place, sparse_of}
use Rattle.sm_shapes.specs.TableView.{table_data}
use Rattle.sm_codec.specs.PlaceView.{place_of}
use Rattle.sm_schema.specs.Definitions.{reference}
use Rattle.sm_schema.specs.Described.{typed, with_bound, nullable_if}
use Rattle.sm_schema.specs.steps.Numbered.{listing_of}
use Rattle.sm_schema.proofs.aggregates.map_definition.Goals as goal

abbrev built : Node → Node → Option ℤ → Option ℤ → Node
built names values min max =
    typed (codes "object") (member (codes "propertyNames") names (member (codes "additionalProperties") values
    (with_bound (codes "minProperties") min (with_bound (codes "maxProperties") max no_members))))

pub returns : goal.returns
returns c json_names =
    let t = table_data c.args.table.now in
    let p = place_of c.args.place in
    let d = listing_of t json_names c.args.all.now in
    let held = c.constraints-held.result.now in
    let names = c.in_ok-key.ensures json_names ∙ ap (reference d) c.entry.ensures in
    let values = c.in_ok-values.ensures
    ∙ ap (nullable_if c.is_sparse.result) (c.in_ok-value.ensures json_names ∙ ap (reference d) c.value.ensures)
    ∙ ap (λ b. nullable_if b (reference d (value_place t p))) c.is_sparse.ensures in
    c.object_of.ensures
    ∙ ap object (c.in_ok-put_bound-2.ensures no_members
    ∙ c.in_ok-put_bound.ensures (with_bound (codes "maxProperties") held.max no_members)
    ∙ c.in_ok-put-2.ensures (with_bound (codes "minProperties") held.min (with_bound (codes "maxProperties") held.max no_members))
    ∙ c.in_ok-put.ensures (member (codes "additionalProperties") (node_of c.in_ok-values.values.tree)
    (with_bound (codes "minProperties") held.min (with_bound (codes "maxProperties") held.max no_members))))
    ∙ c.in_ok-pairs.ensures (member (codes "propertyNames") (node_of c.in_ok-key.key.tree)
    (member (codes "additionalProperties") (node_of c.in_ok-values.values.tree)
    (with_bound (codes "minProperties") held.min (with_bound (codes "maxProperties") held.max no_members))))
    ∙ ap (λ n. built n (node_of c.in_ok-values.values.tree) held.min held.max) names
    ∙ ap (λ n. built (reference d (key_place t p)) n held.min held.max) values
    ∙ ap (λ k. built (reference d (key_place t p)) (nullable_if (sparse_of t p) (reference d (value_place t p))) k.min k.max)
    c.constraints-held.ensures
