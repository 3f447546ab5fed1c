use Rattle.std.proofs.Common.{◌≡◌, ◌++◌, drop, true}
use Rattle.sm_shapes.specs.TableView.{table_data}
use Rattle.sm_shapes.specs.Values.{entries_of}
use Rattle.sm_shapes.specs.ValueView.{each_entry_view}
use Rattle.sm_codec.specs.PlaceView.{place_of}
use Rattle.sm_part_texts.specs.CarriedTexts.{keyed_have_texts}
use Rattle.sm_part_texts.specs.PlaceTexts.{EachStandsAt, keyed_texts}
use Rattle.sm_part_texts.proofs.pairs.put_keyed.Given as goal

abbrev pub invariant-loop-entry : goal.invariant-loop-entry
invariant-loop-entry l = record {
  put : l.pairs.items ++ keyed_texts (table_data l.table) (place_of l.place) (entries_of (each_entry_view (drop l.entry-index l.entries)))
      ≡ l.fn.pairs.items ++ keyed_texts (table_data l.table) (place_of l.place) (entries_of (each_entry_view l.entries));
  stand : EachStandsAt (table_data l.table) (place_of l.place) (entries_of (each_entry_view (drop l.entry-index l.entries)));
  has : keyed_have_texts (table_data l.table) (place_of l.place) (entries_of (each_entry_view (drop l.entry-index l.entries))) ≡ true;
}
