use Rattle.std.proofs.Common.{ℤ, Bool, Option, codes, ap, ◌∙◌}
use Rattle.sm_tree.specs.Node.{Node, object, member}
use Rattle.sm_tree.specs.View.{node_of}
use Rattle.sm_shapes.specs.Places.{constraints_of, entry_place, sparse_of}
use Rattle.sm_shapes.specs.TableView.{table_data}
use Rattle.sm_codec.specs.PlaceView.{place_of}
use Rattle.sm_schema.specs.Definitions.{reference}
use Rattle.sm_schema.specs.Described.{typed, with_bound, with_unique, nullable_if}
use Rattle.sm_schema.specs.steps.Numbered.{listing_of}
use Rattle.sm_schema.proofs.aggregates.list_definition.Goals as goal

abbrev built : Node → Option ℤ → Option ℤ → Bool → Node
built items min max unique =
    typed (codes "array") (member (codes "items") items (with_bound (codes "minItems") min (with_bound (codes "maxItems") max (with_unique unique))))

pub returns : goal.returns
returns c json_names =
    let t = table_data c.args.table.now in
    let p = place_of c.args.place in
    let d = listing_of t json_names c.args.all.now in
    let held = c.constraints-held.result.now in
    let items = c.in_ok-items.ensures
    ∙ ap (nullable_if c.is_sparse.result) (c.in_ok-entry.ensures json_names ∙ ap (reference d) c.entry.ensures)
    ∙ ap (λ b. nullable_if b (reference d (entry_place t p))) c.is_sparse.ensures in
    c.object_of.ensures
    ∙ ap object (c.in_ok-put_unique.ensures ∙ c.in_ok-put_bound-2.ensures (with_unique c.is_unique.result)
    ∙ c.in_ok-put_bound.ensures (with_bound (codes "maxItems") held.max (with_unique c.is_unique.result))
    ∙ c.in_ok-put.ensures (with_bound (codes "minItems") held.min (with_bound (codes "maxItems") held.max (with_unique c.is_unique.result))))
    ∙ c.in_ok-pairs.ensures (member (codes "items") (node_of c.in_ok-items.items.tree)
    (with_bound (codes "minItems") held.min (with_bound (codes "maxItems") held.max (with_unique c.is_unique.result))))
    ∙ ap (λ n. built n held.min held.max c.is_unique.result) items
    ∙ ap (λ k. built (nullable_if (sparse_of t p) (reference d (entry_place t p))) k.min k.max c.is_unique.result) c.constraints-held.ensures
    ∙ ap (λ b. built (nullable_if (sparse_of t p) (reference d (entry_place t p))) (constraints_of t p).min (constraints_of t p).max b)
    c.is_unique.ensures
