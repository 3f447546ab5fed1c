use Rattle.std.proofs.Common.{◌≡◌, ◌++◌, drop, true}
use Rattle.sm_shapes.specs.TableView.{table_data}
use Rattle.sm_shapes.specs.Values.{entries_of}
use Rattle.sm_shapes.specs.ValueView.{each_entry_view}
use Rattle.sm_codec.specs.PlaceView.{place_of}
use Rattle.sm_part_texts.specs.CarriedTexts.{fields_have_texts}
use Rattle.sm_part_texts.specs.PlaceTexts.{prefixed_fields}
use Rattle.sm_part_texts.proofs.fields.put_prefixed.Given as goal

abbrev pub invariant-loop-entry : goal.invariant-loop-entry
invariant-loop-entry l = record {
  put : l.fields.items
      ++ prefixed_fields (table_data l.table) (place_of l.place) l.prefix (entries_of (each_entry_view (drop l.entry-index l.entries)))
      ≡ l.fn.fields.items ++ prefixed_fields (table_data l.table) (place_of l.place) l.prefix (entries_of (each_entry_view l.entries));
  has : fields_have_texts (table_data l.table) (place_of l.place) (entries_of (each_entry_view (drop l.entry-index l.entries))) ≡ true;
}
