use Rattle.std.proofs.Common.{◌≡◌, ◌++◌, drop, map, true}
use Rattle.std.specs.List.{list_all}
use Rattle.sm_shapes.specs.TableView.{table_data}
use Rattle.sm_shapes.specs.ValueView.{vals_view}
use Rattle.sm_codec.specs.PlaceView.{place_of}
use Rattle.sm_part_texts.specs.CarriedTexts.{has_text_at}
use Rattle.sm_part_texts.specs.PlaceTexts.{in_fields, text_at}
use Rattle.sm_part_texts.specs.steps.Joining.{entries_joined}
use Rattle.sm_part_texts.proofs.fields.list_value.Given as goal

abbrev pub invariant-loop-item : goal.invariant-loop-item
invariant-loop-item l = record {
  put : l.out.items
      ++ entries_joined l.cut l.is_first (map (text_at in_fields (table_data l.table) (place_of l.entry)) (vals_view (drop l.item-index l.items)))
      ≡ entries_joined l.cut true (map (text_at in_fields (table_data l.table) (place_of l.entry)) (vals_view l.items));
  has : list_all (has_text_at in_fields (table_data l.table) (place_of l.entry)) (vals_view (drop l.item-index l.items)) ≡ true;
}
