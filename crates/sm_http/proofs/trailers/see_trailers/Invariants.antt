-- What stands from here on is what all trailers come to.
use Rattle.std.proofs.Common.{◌≤◌, ◌-◌, length}
use Rattle.sm_http.specs.Limits.{trailer_limit}
use Rattle.sm_http.specs.steps.Trailers.{SameTrailers}
use Rattle.sm_http.proofs.trailers.see_trailers.Given as goal

abbrev pub invariant-loop-len : goal.invariant-loop-len
invariant-loop-len l = record {
  inside : l.at ≤ length l.bytes;
  within : l.at ≤ trailer_limit;
  same : SameTrailers l.at l.bytes;
}

abbrev pub decreases-loop-len : goal.decreases-loop-len
decreases-loop-len l = length l.bytes - l.at
