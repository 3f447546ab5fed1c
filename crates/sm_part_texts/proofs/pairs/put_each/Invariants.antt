use Rattle.std.proofs.Common.{◌≡◌, ◌++◌, drop, map, true}
use Rattle.std.specs.List.{list_all}
use Rattle.sm_shapes.specs.TableView.{table_data}
use Rattle.sm_shapes.specs.ValueView.{vals_view}
use Rattle.sm_codec.specs.PlaceView.{place_of}
use Rattle.sm_part_texts.specs.CarriedTexts.{has_text_at}
use Rattle.sm_part_texts.specs.PlaceTexts.{in_targets, pairs_under, text_at}
use Rattle.sm_part_texts.proofs.pairs.put_each.Given as goal

abbrev pub invariant-loop-item : goal.invariant-loop-item
invariant-loop-item l = record {
  put : l.pairs.items ++ pairs_under l.key (map (text_at in_targets (table_data l.table) (place_of l.place)) (vals_view (drop l.item-index l.items)))
      ≡ l.fn.pairs.items ++ pairs_under l.key (map (text_at in_targets (table_data l.table) (place_of l.place)) (vals_view l.items));
  has : list_all (has_text_at in_targets (table_data l.table) (place_of l.place)) (vals_view (drop l.item-index l.items)) ≡ true;
}
