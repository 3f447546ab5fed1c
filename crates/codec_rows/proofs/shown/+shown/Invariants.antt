use Rattle.std.proofs.Common.{◌+◌, ◌*◌, ◌≤◌, drop}
use Rattle.sm_shapes.specs.Values.{val_nodes, vals_nodes, entries_nodes, fields_nodes, vals_of, entries_of, fields_of}
use Rattle.sm_shapes.specs.ValueView.{val_of, vals_view, each_entry_view, each_field_view}
use Rattle.codec_rows.proofs.shown.+shown.Given as goal

abbrev pub decreases-show_value : goal.decreases-show_value
decreases-show_value l = 2 * val_nodes (val_of l.value.now)

abbrev pub decreases-show_items : goal.decreases-show_items
decreases-show_items l = 2 * vals_nodes (vals_of (vals_view l.items.now)) + 1

abbrev pub decreases-show_entries : goal.decreases-show_entries
decreases-show_entries l = 2 * entries_nodes (entries_of (each_entry_view l.entries.now)) + 1

abbrev pub decreases-show_fields : goal.decreases-show_fields
decreases-show_fields l = 2 * fields_nodes (fields_of (each_field_view l.fields.now)) + 1

abbrev pub invariant-show_items-loop-item : goal.invariant-show_items-loop-item
invariant-show_items-loop-item l = vals_nodes (vals_of (vals_view (drop l.item-index l.items))) ≤ vals_nodes (vals_of (vals_view l.items))

abbrev pub invariant-show_entries-loop-entry : goal.invariant-show_entries-loop-entry
invariant-show_entries-loop-entry l =
    entries_nodes (entries_of (each_entry_view (drop l.entry-index l.entries))) ≤ entries_nodes (entries_of (each_entry_view l.entries))

abbrev pub invariant-show_fields-loop-field : goal.invariant-show_fields-loop-field
invariant-show_fields-loop-field l =
    fields_nodes (fields_of (each_field_view (drop l.field-index l.fields))) ≤ fields_nodes (fields_of (each_field_view l.fields))
