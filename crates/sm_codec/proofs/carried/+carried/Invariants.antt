use Rattle.std.proofs.Common.{◌≡◌, ◌+◌, ◌*◌, ◌≤◌, drop}
use Rattle.sm_shapes.specs.TableView.{table_data}
use Rattle.sm_shapes.specs.Values.{val_nodes, vals_nodes, entries_nodes, fields_nodes, vals_of, entries_of, fields_of}
use Rattle.sm_shapes.specs.ValueView.{val_of, vals_view, each_entry_view, each_field_view}
use Rattle.sm_codec.specs.PlaceView.{place_of}
use Rattle.sm_codec.specs.Written.{uncarried_entries, uncarried_pairs, uncarried_fields}
use Rattle.sm_codec.specs.steps.ValueParts.{EntriesHold, PairsHold, FieldsHold, any_leaf}
use Rattle.sm_codec.proofs.carried.+carried.Given as goal

abbrev pub decreases-is_carried : goal.decreases-is_carried
decreases-is_carried g l = 2 * val_nodes (val_of l.value.now)

abbrev pub decreases-are_items_carried : goal.decreases-are_items_carried
decreases-are_items_carried g l = 2 * vals_nodes (vals_of (vals_view l.items.now)) + 1

abbrev pub decreases-are_entries_carried : goal.decreases-are_entries_carried
decreases-are_entries_carried g l = 2 * entries_nodes (entries_of (each_entry_view l.entries.now)) + 1

abbrev pub decreases-are_fields_carried : goal.decreases-are_fields_carried
decreases-are_fields_carried g l = 2 * fields_nodes (fields_of (each_field_view l.fields.now)) + 1

abbrev pub invariant-are_items_carried-loop-item : goal.invariant-are_items_carried-loop-item
invariant-are_items_carried-loop-item g l = record {
  rest : uncarried_entries (table_data l.table) (g.L.Leaves.convention l.leaves) (place_of l.fn.place) l.item-index (vals_of (vals_view
      (drop l.item-index l.items)))
      ≡ uncarried_entries (table_data l.table) (g.L.Leaves.convention l.leaves) (place_of l.fn.place) 0 (vals_of (vals_view l.items));
  parts : EntriesHold (table_data l.table) any_leaf (place_of l.entry) (vals_of (vals_view (drop l.item-index l.items)));
  weight : vals_nodes (vals_of (vals_view (drop l.item-index l.items))) ≤ vals_nodes (vals_of (vals_view l.items));
}

abbrev pub invariant-are_entries_carried-loop-pair : goal.invariant-are_entries_carried-loop-pair
invariant-are_entries_carried-loop-pair g l = record {
  rest : uncarried_pairs (table_data l.table) (g.L.Leaves.convention l.leaves) (place_of l.fn.place) (entries_of (each_entry_view (drop
      l.pair-index l.entries)))
      ≡ uncarried_pairs (table_data l.table) (g.L.Leaves.convention l.leaves) (place_of l.fn.place) (entries_of (each_entry_view
      l.entries));
  parts : PairsHold (table_data l.table) any_leaf (place_of l.inner) (entries_of (each_entry_view (drop l.pair-index l.entries)));
  weight : entries_nodes (entries_of (each_entry_view (drop l.pair-index l.entries))) ≤ entries_nodes (entries_of (each_entry_view
      l.entries));
}

abbrev pub invariant-are_fields_carried-loop-part : goal.invariant-are_fields_carried-loop-part
invariant-are_fields_carried-loop-part g l = record {
  rest : uncarried_fields (table_data l.table) (g.L.Leaves.convention l.leaves) (fields_of (each_field_view (drop l.part-index l.fields)))
      ≡ uncarried_fields (table_data l.table) (g.L.Leaves.convention l.leaves) (fields_of (each_field_view l.fields));
  parts : FieldsHold (table_data l.table) any_leaf (fields_of (each_field_view (drop l.part-index l.fields)));
  weight : fields_nodes (fields_of (each_field_view (drop l.part-index l.fields))) ≤ fields_nodes (fields_of (each_field_view l.fields));
}
