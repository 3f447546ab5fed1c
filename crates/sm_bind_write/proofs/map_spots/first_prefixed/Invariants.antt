use Rattle.std.proofs.Common.{◌≡◌, drop}
use Rattle.std.specs.Str.{str_to_ascii_lowercase}
use Rattle.sm_shapes.specs.Values.{entries_of}
use Rattle.sm_shapes.specs.ValueView.{each_entry_view}
use Rattle.sm_codec.specs.Encoded.{first_path}
use Rattle.sm_codec.specs.PlaceView.{place_of}
use Rattle.sm_bind.specs.BoundView.{bound_of}
use Rattle.sm_bind_write.specs.CarriedParts.{prefixed_failing}
use Rattle.sm_bind_write.proofs.map_spots.first_prefixed.Given as goal

abbrev pub invariant-loop-entry : goal.invariant-loop-entry
invariant-loop-entry l =
    first_path (prefixed_failing (bound_of l.place) (str_to_ascii_lowercase l.prefix) (place_of l.at)
    (entries_of (each_entry_view (drop l.entry-index l.entries))))
    ≡ first_path (prefixed_failing (bound_of l.place) (str_to_ascii_lowercase l.prefix) (place_of l.at)
    (entries_of (each_entry_view l.entries)))
