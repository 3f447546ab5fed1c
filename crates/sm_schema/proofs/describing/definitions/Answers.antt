use Rattle.std.proofs.Common.{◌≡◌, ◌+◌, ◌<◌, length, arith, rules}
use Rattle.sm_tree.specs.View.{members_view, node_of}
use Rattle.sm_shapes.specs.TableView.{table_data}
use Rattle.sm_schema.specs.Definitions.{definition_name}
use Rattle.sm_schema.specs.steps.Numbered.{listing_of, places_in}
use Rattle.sm_schema.specs.steps.WithNotes.{definitions_for, notes_seen}
use Rattle.sm_schema.proofs.DefinitionsPut.{definition_put}
use Rattle.sm_schema.proofs.NumberedPlaces.{got_inside}
use Rattle.sm_schema.proofs.describing.definitions.Goals as goal

pub definition-requires-clause-inside : goal.definition-requires-clause-inside
definition-requires-clause-inside c =
    got_inside (table_data c.args.table.now) c.args.all.now.places.items c.loop-number.number-counter c.index.result.now
    c.requires.numbered.inside (omega (arith, c.args.all.now.places.ok.0, c.len-number-end.ensures, c.loop-number-test.true)) c.index.ensures

pub loop-number-preserved : goal.loop-number-preserved
loop-number-preserved c =
    let d = listing_of (table_data c.args.table.now) c.args.json_names c.args.all.now in
    let n = c.loop-number.number-counter in
    let lt : n < length c.args.all.now.places.items =
    omega (arith, c.args.all.now.places.ok.0, c.len-number-end.ensures, c.loop-number-test.true) in
    let named : c.as_str.result.now ≡ definition_name n = search rules in
    definition_put (notes_seen c.args.notes) d c.args.all.now.places.items n (n + 1) c.index.result.now (members_view c.loop-number.pairs.pairs.items)
    (members_view c.put.new.pairs.pairs.items) c.as_str.result.now (node_of c.in_ok-tree.tree.tree) (definitions_for (notes_seen c.args.notes) d 0 (places_in c.args.all.now)) lt
    c.index.ensures (omega arith) c.in_ok-put.ensures named c.in_ok-tree.ensures c.loop-number.invariant
