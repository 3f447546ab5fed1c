use Rattle.std.proofs.Common.{◌+◌, ◌*◌, ◌≤◌, drop}
use Rattle.std.specs.Prelude.{option_copied}
use Rattle.sm_shapes.specs.TableView.{table_data}
use Rattle.sm_shapes.specs.Values.{val_nodes, vals_nodes, entries_nodes, fields_nodes, vals_of, entries_of, fields_of}
use Rattle.sm_shapes.specs.ValueView.{val_of, vals_view, each_entry_view, each_field_view}
use Rattle.sm_codec.specs.PlaceView.{place_of}
use Rattle.sm_codec.specs.WrittenObjects.{fields_among}
use Rattle.sm_codec.specs.steps.EventsHanded.{CameUpTo, entries_left, entries_stream, fields_left, items_left, items_stream}
use Rattle.sm_codec.specs.steps.ValueParts.{EntriesCarried, PairsCarried, FieldsCarried}
use Rattle.sm_codec.proofs.events.+hand.Given as goal

abbrev pub decreases-hand_value : goal.decreases-hand_value
decreases-hand_value g l = 5 * val_nodes (val_of l.value.now)

abbrev pub decreases-hand_pair : goal.decreases-hand_pair
decreases-hand_pair g l = 5 * val_nodes (val_of l.value.now) + 1

abbrev pub decreases-hand_one : goal.decreases-hand_one
decreases-hand_one g l = 5 * val_nodes (val_of l.value.now) + 2

abbrev pub decreases-hand_field : goal.decreases-hand_field
decreases-hand_field g l = 5 * val_nodes (val_of l.part.now.1) + 2

abbrev pub decreases-hand_items : goal.decreases-hand_items
decreases-hand_items g l = 5 * vals_nodes (vals_of (vals_view l.items.now)) + 3

abbrev pub decreases-hand_entries : goal.decreases-hand_entries
decreases-hand_entries g l = 5 * entries_nodes (entries_of (each_entry_view l.entries.now)) + 3

abbrev pub decreases-hand_fields : goal.decreases-hand_fields
decreases-hand_fields g l = 5 * fields_nodes (fields_of (each_field_view l.fields.now)) + 3

abbrev pub decreases-hand_structure : goal.decreases-hand_structure
decreases-hand_structure g l = 5 * fields_nodes (fields_of (each_field_view l.fields.now)) + 4

abbrev pub invariant-hand_items-loop-item : goal.invariant-hand_items-loop-item
invariant-hand_items-loop-item g l = record {
  came : CameUpTo (g.E.EventSink.stands_for l.fn.to) (g.E.EventSink.takes l.fn.to)
      (items_stream (table_data l.by.table.now) (g.L.Leaves.convention l.by.leaves.now) (place_of l.fn.place) l.items)
      (g.E.EventSink.stands_for l.to) (g.E.EventSink.takes l.to)
      (items_left (table_data l.by.table.now) (g.L.Leaves.convention l.by.leaves.now) (place_of l.fn.place) (drop l.item-index l.items));
  alike : g.E.EventSink.alike l.fn.to l.to;
  parts : EntriesCarried (table_data l.by.table.now) (g.L.Leaves.convention l.by.leaves.now)
      (place_of l.entry) (vals_of (vals_view (drop l.item-index l.items)));
  weight : vals_nodes (vals_of (vals_view (drop l.item-index l.items))) ≤ vals_nodes (vals_of (vals_view l.items));
}

abbrev pub invariant-hand_entries-loop-pair : goal.invariant-hand_entries-loop-pair
invariant-hand_entries-loop-pair g l = record {
  came : CameUpTo (g.E.EventSink.stands_for l.fn.to) (g.E.EventSink.takes l.fn.to)
      (entries_stream (table_data l.by.table.now) (g.L.Leaves.convention l.by.leaves.now) (place_of l.fn.place) l.entries)
      (g.E.EventSink.stands_for l.to) (g.E.EventSink.takes l.to)
      (entries_left (table_data l.by.table.now) (g.L.Leaves.convention l.by.leaves.now) (place_of l.fn.place) (drop l.pair-index l.entries));
  alike : g.E.EventSink.alike l.fn.to l.to;
  parts : PairsCarried (table_data l.by.table.now) (g.L.Leaves.convention l.by.leaves.now)
      (place_of l.inner) (entries_of (each_entry_view (drop l.pair-index l.entries)));
  weight : entries_nodes (entries_of (each_entry_view (drop l.pair-index l.entries))) ≤ entries_nodes (entries_of (each_entry_view
      l.entries));
}

abbrev pub invariant-hand_fields-loop-part : goal.invariant-hand_fields-loop-part
invariant-hand_fields-loop-part g l = record {
  came : CameUpTo (g.E.EventSink.stands_for l.fn.to) (g.E.EventSink.takes l.fn.to)
      (fields_left (table_data l.by.table.now) (g.L.Leaves.convention l.by.leaves.now) (place_of l.place) (option_copied l.members) l.fields)
      (g.E.EventSink.stands_for l.to) (g.E.EventSink.takes l.to)
      (fields_left (table_data l.by.table.now) (g.L.Leaves.convention l.by.leaves.now) (place_of l.place) (option_copied l.members)
      (drop l.part-index l.fields));
  alike : g.E.EventSink.alike l.fn.to l.to;
  parts : FieldsCarried (table_data l.by.table.now) (g.L.Leaves.convention l.by.leaves.now)
      (fields_among (option_copied l.members) (fields_of (each_field_view (drop l.part-index l.fields))));
  weight : fields_nodes (fields_of (each_field_view (drop l.part-index l.fields))) ≤ fields_nodes (fields_of (each_field_view l.fields));
}
