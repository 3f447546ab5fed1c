use Rattle.std.proofs.Common.{◌≡◌, ◌++◌}
use Rattle.sm_shapes.specs.ValueView.{each_entry_view}
use Rattle.sm_codec.specs.MapView.{held_entries}
use Rattle.sm_codec.proofs.frames.maps.in_order.Given as goal

abbrev pub invariant-loop-key : goal.invariant-loop-key
invariant-loop-key l = each_entry_view l.entries.items ++ held_entries l.key-iterator ≡ held_entries l.fn.keys.entries
