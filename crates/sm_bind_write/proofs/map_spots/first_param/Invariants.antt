use Rattle.std.proofs.Common.{◌≡◌, drop}
use Rattle.sm_shapes.specs.TableView.{table_data}
use Rattle.sm_shapes.specs.Values.{entries_of}
use Rattle.sm_shapes.specs.ValueView.{each_entry_view}
use Rattle.sm_codec.specs.Encoded.{first_path}
use Rattle.sm_codec.specs.PlaceView.{place_of}
use Rattle.sm_part_texts.specs.PlaceTexts.{EachStandsAt}
use Rattle.sm_bind_write.specs.steps.FreeKeys.{free_failing}
use Rattle.sm_bind_write.proofs.map_spots.first_param.Given as goal

abbrev pub invariant-loop-entry : goal.invariant-loop-entry
invariant-loop-entry l = record {
  rest : first_path (free_failing (table_data l.table) (place_of l.at) (entries_of (each_entry_view (drop l.entry-index l.entries))))
      ≡ first_path (free_failing (table_data l.table) (place_of l.at) (entries_of (each_entry_view l.entries)));
  stand : EachStandsAt (table_data l.table) (place_of l.at) (entries_of (each_entry_view (drop l.entry-index l.entries)));
}
