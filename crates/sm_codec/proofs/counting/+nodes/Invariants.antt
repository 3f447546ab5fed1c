use Rattle.std.proofs.Common.{◌≡◌, ◌+◌, ◌-◌, ◌*◌, ◌^◌, ◌≤◌, drop}
use Rattle.sm_bytes.specs.Lengths.{length_word}
use Rattle.sm_shapes.specs.Values.{val_nodes, vals_nodes, entries_nodes, fields_nodes, vals_of, entries_of, fields_of}
use Rattle.sm_shapes.specs.ValueView.{val_of, vals_view, each_entry_view, each_field_view}
use Rattle.sm_codec.proofs.counting.+nodes.Given as goal

abbrev pub decreases-value_nodes : goal.decreases-value_nodes
decreases-value_nodes l = 2 * val_nodes (val_of l.value.now)

abbrev pub decreases-items_nodes : goal.decreases-items_nodes
decreases-items_nodes l = 2 * vals_nodes (vals_of (vals_view l.items.now)) + 1

abbrev pub decreases-entries_nodes : goal.decreases-entries_nodes
decreases-entries_nodes l = 2 * entries_nodes (entries_of (each_entry_view l.entries.now)) + 1

abbrev pub decreases-fields_nodes : goal.decreases-fields_nodes
decreases-fields_nodes l = 2 * fields_nodes (fields_of (each_field_view l.fields.now)) + 1

abbrev pub invariant-items_nodes-loop-item : goal.invariant-items_nodes-loop-item
invariant-items_nodes-loop-item l = record {
  count : length_word (l.count + vals_nodes (vals_of (vals_view (drop l.item-index l.items)))) ≡ length_word (vals_nodes (vals_of (vals_view
      l.items)));
  fits : l.count ≤ 2 ^ 64 - 1;
  weight : vals_nodes (vals_of (vals_view (drop l.item-index l.items))) ≤ vals_nodes (vals_of (vals_view l.items));
}

abbrev pub invariant-entries_nodes-loop-pair : goal.invariant-entries_nodes-loop-pair
invariant-entries_nodes-loop-pair l = record {
  count : length_word (l.count + entries_nodes (entries_of (each_entry_view (drop l.pair-index l.entries))))
      ≡ length_word (entries_nodes (entries_of (each_entry_view l.entries)));
  fits : l.count ≤ 2 ^ 64 - 1;
  weight : entries_nodes (entries_of (each_entry_view (drop l.pair-index l.entries))) ≤ entries_nodes (entries_of (each_entry_view
      l.entries));
}

abbrev pub invariant-fields_nodes-loop-part : goal.invariant-fields_nodes-loop-part
invariant-fields_nodes-loop-part l = record {
  count : length_word (l.count + fields_nodes (fields_of (each_field_view (drop l.part-index l.fields))))
      ≡ length_word (fields_nodes (fields_of (each_field_view l.fields)));
  fits : l.count ≤ 2 ^ 64 - 1;
  weight : fields_nodes (fields_of (each_field_view (drop l.part-index l.fields))) ≤ fields_nodes (fields_of (each_field_view l.fields));
}
