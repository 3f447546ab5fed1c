use Rattle.std.proofs.Common.{◌≡◌, ◌++◌, map, drop, string_bytes}
use Rattle.std.specs.List.{flat_map}
use Rattle.sm_uri.specs.UriPattern.{segment_text}
use Rattle.sm_uri.specs.UriRoutes.{one_named}
use Rattle.sm_uri.proofs.route.put_segments.Given as goal

abbrev pub invariant-loop-segment : goal.invariant-loop-segment
invariant-loop-segment l =
    string_bytes l.out ++ flat_map segment_text (map one_named (drop l.segment-index l.segments))
    ≡ string_bytes l.fn.out ++ flat_map segment_text (map one_named l.segments)
