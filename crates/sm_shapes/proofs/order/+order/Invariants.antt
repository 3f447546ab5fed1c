use Rattle.std.proofs.Common.{◌≡◌, ◌+◌, ◌*◌, ◌≤◌, drop}
use Rattle.std.specs.Slice.Iter.{iter_rest}
use Rattle.sm_shapes.specs.Values.{val_nodes, vals_nodes, entries_nodes, fields_nodes, vals_of, entries_of, fields_of}
use Rattle.sm_shapes.specs.ValueView.{val_of, vals_view, each_entry_view, each_field_view}
use Rattle.sm_shapes.specs.ValueOrder.{vals_cmp, entries_cmp, fields_cmp}
use Rattle.sm_shapes.proofs.order.+order.Given as goal

abbrev pub decreases-order_of : goal.decreases-order_of
decreases-order_of l = 3 * val_nodes (val_of l.a.now)

abbrev pub decreases-order_of_items : goal.decreases-order_of_items
decreases-order_of_items l = 3 * vals_nodes (vals_of (vals_view l.a.now)) + 2

abbrev pub decreases-order_of_entries : goal.decreases-order_of_entries
decreases-order_of_entries l = 3 * entries_nodes (entries_of (each_entry_view l.a.now)) + 2

abbrev pub decreases-order_of_fields : goal.decreases-order_of_fields
decreases-order_of_fields l = 3 * fields_nodes (fields_of (each_field_view l.a.now)) + 2

abbrev pub decreases-order_of_entry : goal.decreases-order_of_entry
decreases-order_of_entry l = 3 * val_nodes (val_of l.a.now.1) + 1

abbrev pub decreases-order_of_field : goal.decreases-order_of_field
decreases-order_of_field l = 3 * val_nodes (val_of l.a.now.1) + 1

abbrev pub invariant-order_of_items-loop-item : goal.invariant-order_of_items-loop-item
invariant-order_of_items-loop-item l = record {
  order : vals_cmp (vals_of (vals_view (drop l.item-index l.a))) (vals_of (vals_view (iter_rest l.others)))
      ≡ vals_cmp (vals_of (vals_view l.a)) (vals_of (vals_view l.b));
  weight : vals_nodes (vals_of (vals_view (drop l.item-index l.a))) ≤ vals_nodes (vals_of (vals_view l.a));
}

abbrev pub invariant-order_of_entries-loop-entry : goal.invariant-order_of_entries-loop-entry
invariant-order_of_entries-loop-entry l = record {
  order : entries_cmp (entries_of (each_entry_view (drop l.entry-index l.a))) (entries_of (each_entry_view (iter_rest l.others)))
      ≡ entries_cmp (entries_of (each_entry_view l.a)) (entries_of (each_entry_view l.b));
  weight : entries_nodes (entries_of (each_entry_view (drop l.entry-index l.a))) ≤ entries_nodes (entries_of (each_entry_view l.a));
}

abbrev pub invariant-order_of_fields-loop-field : goal.invariant-order_of_fields-loop-field
invariant-order_of_fields-loop-field l = record {
  order : fields_cmp (fields_of (each_field_view (drop l.field-index l.a))) (fields_of (each_field_view (iter_rest l.others)))
      ≡ fields_cmp (fields_of (each_field_view l.a)) (fields_of (each_field_view l.b));
  weight : fields_nodes (fields_of (each_field_view (drop l.field-index l.a))) ≤ fields_nodes (fields_of (each_field_view l.a));
}
