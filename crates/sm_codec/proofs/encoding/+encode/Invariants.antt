use Rattle.std.proofs.Common.{◌≡◌, ◌+◌, ◌*◌, ◌≤◌, ◌++◌, drop}
use Rattle.sm_tree.specs.View.{nodes_view, members_view}
use Rattle.sm_shapes.specs.TableView.{table_data}
use Rattle.sm_shapes.specs.Values.{val_nodes, vals_nodes, entries_nodes, fields_nodes, vals_of, entries_of, fields_of}
use Rattle.sm_shapes.specs.ValueView.{val_of, vals_view, each_entry_view, each_field_view}
use Rattle.sm_codec.specs.PlaceView.{place_of}
use Rattle.sm_codec.specs.Written.{written_entries, written_pairs, written_fields}
use Rattle.sm_codec.specs.steps.ValueParts.{EntriesHold, PairsHold, FieldsHold, carried_leaf}
use Rattle.sm_codec.proofs.ChildLists.{each_node, each_pair}
use Rattle.sm_codec.proofs.encoding.+encode.Given as goal

abbrev pub decreases-tree_at : goal.decreases-tree_at
decreases-tree_at g l = 3 * val_nodes (val_of l.value.now)

abbrev pub decreases-encode_member : goal.decreases-encode_member
decreases-encode_member g l = 3 * val_nodes (val_of l.value.now) + 1

abbrev pub decreases-encode_items : goal.decreases-encode_items
decreases-encode_items g l = 3 * vals_nodes (vals_of (vals_view l.items.now)) + 2

abbrev pub decreases-encode_entries : goal.decreases-encode_entries
decreases-encode_entries g l = 3 * entries_nodes (entries_of (each_entry_view l.entries.now)) + 2

abbrev pub decreases-encode_fields : goal.decreases-encode_fields
decreases-encode_fields g l = 3 * fields_nodes (fields_of (each_field_view l.fields.now)) + 2

abbrev pub invariant-encode_items-loop-item : goal.invariant-encode_items-loop-item
invariant-encode_items-loop-item g l = record {
  entries : nodes_view l.entries.items
      ++ each_node (written_entries (table_data l.table) (g.L.Leaves.convention l.leaves) (place_of l.fn.place) (vals_of (vals_view (drop
      l.item-index l.items))))
      ≡ each_node (written_entries (table_data l.table) (g.L.Leaves.convention l.leaves) (place_of l.fn.place) (vals_of (vals_view
      l.items)));
  parts : EntriesHold (table_data l.table) (carried_leaf (table_data l.table) (g.L.Leaves.convention l.leaves))
      (place_of l.entry) (vals_of (vals_view (drop l.item-index l.items)));
  weight : vals_nodes (vals_of (vals_view (drop l.item-index l.items))) ≤ vals_nodes (vals_of (vals_view l.items));
}

abbrev pub invariant-encode_entries-loop-entry : goal.invariant-encode_entries-loop-entry
invariant-encode_entries-loop-entry g l = record {
  pairs : members_view l.pairs.items
      ++ each_pair (written_pairs (table_data l.table) (g.L.Leaves.convention l.leaves) (place_of l.fn.place) (entries_of
      (each_entry_view (drop l.entry-index l.entries))))
      ≡ each_pair (written_pairs (table_data l.table) (g.L.Leaves.convention l.leaves) (place_of l.fn.place) (entries_of (each_entry_view
      l.entries)));
  parts : PairsHold (table_data l.table) (carried_leaf (table_data l.table) (g.L.Leaves.convention l.leaves))
      (place_of l.inner) (entries_of (each_entry_view (drop l.entry-index l.entries)));
  weight : entries_nodes (entries_of (each_entry_view (drop l.entry-index l.entries))) ≤ entries_nodes (entries_of (each_entry_view
      l.entries));
}

abbrev pub invariant-encode_fields-loop-part : goal.invariant-encode_fields-loop-part
invariant-encode_fields-loop-part g l = record {
  pairs : members_view l.pairs.items
      ++ each_pair (written_fields (table_data l.table) (g.L.Leaves.convention l.leaves) (place_of l.fn.place) (fields_of
      (each_field_view (drop l.part-index l.fields))))
      ≡ each_pair (written_fields (table_data l.table) (g.L.Leaves.convention l.leaves) (place_of l.fn.place) (fields_of (each_field_view
      l.fields)));
  parts : FieldsHold (table_data l.table) (carried_leaf (table_data l.table) (g.L.Leaves.convention l.leaves))
      (fields_of (each_field_view (drop l.part-index l.fields)));
  weight : fields_nodes (fields_of (each_field_view (drop l.part-index l.fields))) ≤ fields_nodes (fields_of (each_field_view l.fields));
}
