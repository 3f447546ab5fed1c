use Rattle.std.proofs.Common.{◌≡◌, drop}
use Rattle.sm_shapes.specs.TableView.{table_data}
use Rattle.sm_shapes.specs.ValueView.{vals_view}
use Rattle.sm_codec.specs.Encoded.{first_path}
use Rattle.sm_codec.specs.PlaceView.{place_of}
use Rattle.sm_part_texts.specs.CarriedTexts.{entries_failing, is_carried}
use Rattle.sm_part_texts.proofs.carried.first_entry.Given as goal

abbrev pub invariant-loop-item : goal.invariant-loop-item
invariant-loop-item l = record {
  at : l.at ≡ l.item-index;
  rest : first_path (entries_failing (is_carried l.test (table_data l.table) (place_of l.place)) l.item-index
      (vals_view (drop l.item-index l.items)))
      ≡ first_path (entries_failing (is_carried l.test (table_data l.table) (place_of l.place)) 0 (vals_view l.items));
}
