use Rattle.std.proofs.Common.{ℕ, ◌-◌, ◌≤◌, List, length, drop}
use Rattle.sm_lex.specs.Space.{SkipsSpace}
use Rattle.sm_lex.proofs.space.space_len.Given as goal

abbrev pub decreases-loop-part : goal.decreases-loop-part
decreases-loop-part l = length l.bytes - l.at

abbrev pub invariant-loop-part : goal.invariant-loop-part
invariant-loop-part l = record {
  within : l.at ≤ length l.bytes;
  skips : (r : List ℕ) → SkipsSpace (drop l.at l.bytes) r → SkipsSpace l.bytes r;
}
