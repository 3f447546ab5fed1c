use Rattle.std.proofs.Common.{ap, arith}
use Rattle.std.proofs.lemmas.List.{drop_all}
use Rattle.sm_shapes.specs.Values.{vals_nodes, entries_nodes, fields_nodes, vals_of, entries_of, fields_of}
use Rattle.sm_shapes.specs.ValueView.{vals_view, each_entry_view, each_field_view}
use Rattle.sm_codec.proofs.counting.+nodes.Goals as goal

pub items_nodes-returns : goal.items_nodes-returns
items_nodes-returns t c =
    let done = ap (λ xs. vals_nodes (vals_of (vals_view xs))) (drop_all c.loop-item.item-index c.args.items.now c.loop-item-test.false) in
    omega (arith, done, c.loop-item.invariant.count, c.loop-item.invariant.fits)

pub entries_nodes-returns : goal.entries_nodes-returns
entries_nodes-returns t c =
    let done = ap (λ xs. entries_nodes (entries_of (each_entry_view xs)))
    (drop_all c.loop-pair.pair-index c.args.entries.now c.loop-pair-test.false) in
    omega (arith, done, c.loop-pair.invariant.count, c.loop-pair.invariant.fits)

pub fields_nodes-returns : goal.fields_nodes-returns
fields_nodes-returns t c =
    let done = ap (λ xs. fields_nodes (fields_of (each_field_view xs)))
    (drop_all c.loop-part.part-index c.args.fields.now c.loop-part-test.false) in
    omega (arith, done, c.loop-part.invariant.count, c.loop-part.invariant.fits)
