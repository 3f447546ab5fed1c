use Rattle.std.proofs.Common.{◌≡◌, ◌≤◌, ◌+◌, ◌*◌, ◌++◌, drop}
use Rattle.sm_shapes.specs.Values.{val_nodes, vals_nodes, entries_nodes, fields_nodes, vals_of, entries_of, fields_of}
use Rattle.sm_shapes.specs.ValueView.{val_of, vals_view, each_entry_view, each_field_view}
use Rattle.sm_shapes.proofs.copies.+copy.Given as goal

abbrev pub decreases-copy_value : goal.decreases-copy_value
decreases-copy_value l = 2 * val_nodes (val_of l.value.now)

abbrev pub decreases-copy_items : goal.decreases-copy_items
decreases-copy_items l = 2 * vals_nodes (vals_of (vals_view l.items.now)) + 1

abbrev pub decreases-copy_entries : goal.decreases-copy_entries
decreases-copy_entries l = 2 * entries_nodes (entries_of (each_entry_view l.entries.now)) + 1

abbrev pub decreases-copy_fields : goal.decreases-copy_fields
decreases-copy_fields l = 2 * fields_nodes (fields_of (each_field_view l.fields.now)) + 1

abbrev pub invariant-copy_items-loop-item : goal.invariant-copy_items-loop-item
invariant-copy_items-loop-item l = record {
  copied : vals_view l.copies.items ++ vals_view (drop l.item-index l.items) ≡ vals_view l.items;
  weight : vals_nodes (vals_of (vals_view (drop l.item-index l.items))) ≤ vals_nodes (vals_of (vals_view l.items));
}

abbrev pub invariant-copy_entries-loop-entry : goal.invariant-copy_entries-loop-entry
invariant-copy_entries-loop-entry l = record {
  copied : each_entry_view l.copies.items ++ each_entry_view (drop l.entry-index l.entries) ≡ each_entry_view l.entries;
  weight : entries_nodes (entries_of (each_entry_view (drop l.entry-index l.entries)))
      ≤ entries_nodes (entries_of (each_entry_view l.entries));
}

abbrev pub invariant-copy_fields-loop-field : goal.invariant-copy_fields-loop-field
invariant-copy_fields-loop-field l = record {
  copied : each_field_view l.copies.items ++ each_field_view (drop l.field-index l.fields) ≡ each_field_view l.fields;
  weight : fields_nodes (fields_of (each_field_view (drop l.field-index l.fields))) ≤ fields_nodes (fields_of (each_field_view l.fields));
}
