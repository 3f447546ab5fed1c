use Rattle.std.proofs.Common.{◌≡◌, ◌+◌, ◌*◌, ◌≤◌, drop}
use Rattle.sm_shapes.specs.TableView.{table_data}
use Rattle.sm_shapes.specs.Values.{val_nodes, vals_nodes, entries_nodes, fields_nodes, vals_of, entries_of, fields_of}
use Rattle.sm_shapes.specs.ValueView.{val_of, vals_view, each_entry_view, each_field_view}
use Rattle.sm_codec.specs.PlaceView.{place_of}
use Rattle.sm_codec.specs.Written.{uncarried_entries, uncarried_pairs, uncarried_fields}
use Rattle.sm_codec.specs.steps.ValueParts.{EntriesHold, PairsHold, FieldsHold, any_leaf}
use Rattle.sm_codec.proofs.uncarried.+first.Given as goal

abbrev pub decreases-first_at : goal.decreases-first_at
decreases-first_at g l = 3 * val_nodes (val_of l.value.now)

abbrev pub decreases-first_in_member : goal.decreases-first_in_member
decreases-first_in_member g l = 3 * val_nodes (val_of l.value.now) + 1

abbrev pub decreases-first_in_items : goal.decreases-first_in_items
decreases-first_in_items g l = 3 * vals_nodes (vals_of (vals_view l.items.now)) + 2

abbrev pub decreases-first_in_entries : goal.decreases-first_in_entries
decreases-first_in_entries g l = 3 * entries_nodes (entries_of (each_entry_view l.entries.now)) + 2

abbrev pub decreases-first_in_fields : goal.decreases-first_in_fields
decreases-first_in_fields g l = 3 * fields_nodes (fields_of (each_field_view l.fields.now)) + 2

abbrev pub invariant-first_in_items-loop-item : goal.invariant-first_in_items-loop-item
invariant-first_in_items-loop-item g l = record {
  at : l.at ≡ l.item-index;
  rest : uncarried_entries (table_data l.table) (g.L.Leaves.convention l.leaves) (place_of l.fn.place) l.item-index (vals_of (vals_view
      (drop l.item-index l.items)))
      ≡ uncarried_entries (table_data l.table) (g.L.Leaves.convention l.leaves) (place_of l.fn.place) 0 (vals_of (vals_view l.items));
  parts : EntriesHold (table_data l.table) any_leaf (place_of l.entry) (vals_of (vals_view (drop l.item-index l.items)));
  weight : vals_nodes (vals_of (vals_view (drop l.item-index l.items))) ≤ vals_nodes (vals_of (vals_view l.items));
}

abbrev pub invariant-first_in_entries-loop-pair : goal.invariant-first_in_entries-loop-pair
invariant-first_in_entries-loop-pair g l = record {
  rest : uncarried_pairs (table_data l.table) (g.L.Leaves.convention l.leaves) (place_of l.fn.place) (entries_of (each_entry_view (drop
      l.pair-index l.entries)))
      ≡ uncarried_pairs (table_data l.table) (g.L.Leaves.convention l.leaves) (place_of l.fn.place) (entries_of (each_entry_view
      l.entries));
  parts : PairsHold (table_data l.table) any_leaf (place_of l.inner) (entries_of (each_entry_view (drop l.pair-index l.entries)));
  weight : entries_nodes (entries_of (each_entry_view (drop l.pair-index l.entries))) ≤ entries_nodes (entries_of (each_entry_view
      l.entries));
}

abbrev pub invariant-first_in_fields-loop-part : goal.invariant-first_in_fields-loop-part
invariant-first_in_fields-loop-part g l = record {
  rest : uncarried_fields (table_data l.table) (g.L.Leaves.convention l.leaves) (fields_of (each_field_view (drop l.part-index l.fields)))
      ≡ uncarried_fields (table_data l.table) (g.L.Leaves.convention l.leaves) (fields_of (each_field_view l.fields));
  parts : FieldsHold (table_data l.table) any_leaf (fields_of (each_field_view (drop l.part-index l.fields)));
  weight : fields_nodes (fields_of (each_field_view (drop l.part-index l.fields))) ≤ fields_nodes (fields_of (each_field_view l.fields));
}
