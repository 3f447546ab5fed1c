use Rattle.std.proofs.Common.{◌≡◌, ◌-◌, ◌≤◌, length, take, None}
use Rattle.sm_tree.specs.Timing.{Follows}
use Rattle.sm_json.specs.Timing.{json_timing}
use Rattle.sm_json.specs.Stands.{refusal_of, JsonStands}
use Rattle.speeds.proofs.formats.events.count_once.Given as goal

abbrev pub invariant-loop-at : goal.invariant-loop-at
invariant-loop-at l = record {
  inside : l.at ≤ length l.bytes;
  fresh : refusal_of l.reader ≡ None;
  stands : JsonStands l.reader (take l.at l.bytes);
  follows : Follows json_timing (λ es. length es ≡ l.count.taken) (take l.at l.bytes);
}

abbrev pub decreases-loop-at : goal.decreases-loop-at
decreases-loop-at l = length l.bytes - l.at
