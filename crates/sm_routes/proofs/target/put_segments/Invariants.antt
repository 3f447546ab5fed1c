use Rattle.std.proofs.Common.{◌≡◌, ◌++◌, drop}
use Rattle.std.specs.List.{flat_map}
use Rattle.std.specs.Prelude.{string_bytes}
use Rattle.sm_routes.specs.WrittenTargets.{written_segment}
use Rattle.sm_routes.proofs.target.put_segments.Given as goal

abbrev pub invariant-loop-segment : goal.invariant-loop-segment
invariant-loop-segment l =
    string_bytes l.out ++ flat_map (written_segment l.labels) (drop l.segment-index l.segments)
    ≡ string_bytes l.fn.out ++ flat_map (written_segment l.labels) l.segments
