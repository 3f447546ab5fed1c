use Rattle.std.proofs.Common.{codes, ap, ◌∙◌}
use Rattle.sm_tree.specs.Node.{text, list, object, no_nodes, node, no_members, member}
use Rattle.sm_tree.specs.View.{node_of}
use Rattle.sm_shapes.specs.Places.{member_place}
use Rattle.sm_shapes.specs.TableView.{table_data}
use Rattle.sm_codec.specs.Conventions.{json_name}
use Rattle.sm_schema.specs.Definitions.{reference}
use Rattle.sm_schema.specs.steps.Joined.{joined, entries_joined}
use Rattle.sm_schema.specs.steps.Numbered.{listing_of}
use Rattle.sm_schema.proofs.aggregates.choice.Goals as goal

pub returns : goal.returns
returns c s =
    let t = table_data c.args.table.now in
    let d = listing_of t c.args.json_names c.args.all.now in
    let name = c.wire_name-name.ensures s in
    let words = c.in_ok-words.ensures ∙ ap text name in
    let properties = c.in_ok-properties.ensures
    ∙ ap (λ k. object (member k (node_of c.in_ok-tree.tree.tree) no_members)) name
    ∙ ap (λ n. object (member (json_name c.args.json_names t s c.args.member) n no_members)) (c.in_ok-tree.ensures c.args.json_names) in
    let names = c.list_of.ensures ∙ ap list (c.in_ok-put_entry.ensures no_nodes
    ∙ ap (λ ts. entries_joined ts (node (node_of c.in_ok-words.words.tree) no_nodes)) c.no_entries-names.ensures)
    ∙ ap (λ n. list (node n no_nodes)) words in
    c.object_of.ensures ∙ ap object (c.in_ok-put-2.ensures no_members
    ∙ c.in_ok-put.ensures (member (codes "required") (node_of c.list_of.result.tree) no_members)
    ∙ ap (λ ps. joined ps (member (codes "properties") (node_of c.in_ok-properties.properties.tree)
    (member (codes "required") (node_of c.list_of.result.tree) no_members))) c.no_pairs-pairs.ensures)
    ∙ ap (λ n. object (member (codes "properties") n (member (codes "required") (node_of c.list_of.result.tree) no_members))) properties
    ∙ ap (λ n. object (member (codes "properties")
    (object (member (json_name c.args.json_names t s c.args.member) (reference d (member_place c.args.member)) no_members))
    (member (codes "required") n no_members))) names
