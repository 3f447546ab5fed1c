use Rattle.std.proofs.Common.{◌≡◌, ◌-◌, length, List, ℕ, None}
use Rattle.sm_tree.specs.Building.{so_far}
use Rattle.sm_tree.specs.BuilderView.{building_of}
use Rattle.sm_tree.specs.Streams.{unnumbered}
use Rattle.sm_tree.specs.Timing.{Follows}
use Rattle.sm_json.specs.Timing.{json_timing}
use Rattle.sm_json.specs.Stands.{refusal_of, JsonStands}
use Rattle.format_rows.proofs.json_events.read_in_pieces.Given as goal

abbrev pub invariant-loop-at : goal.invariant-loop-at
invariant-loop-at l = record {
  fresh : refusal_of l.reader ≡ None;
  stands : (bytes : List ℕ) × JsonStands l.reader bytes × Follows json_timing (λ es. unnumbered es ≡ so_far (building_of l.builder)) bytes;
}

abbrev pub decreases-loop-at : goal.decreases-loop-at
decreases-loop-at l = length l.bytes - l.at
