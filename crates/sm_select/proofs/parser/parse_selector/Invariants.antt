use Rattle.std.proofs.Common.{◌≡◌, [], length}
use Rattle.sm_select.specs.steps.Places.{stepping}
use Rattle.sm_select.specs.steps.Stack.{place_of}
use Rattle.sm_select.specs.steps.Standing.{Passes}
use Rattle.sm_select.proofs.parser.parse_selector.Given as goal

abbrev pub invariant-loop-stack : goal.invariant-loop-stack
invariant-loop-stack l = record {
  read : Passes (stepping [] []) l.text (place_of l.stack) l.reading.rest.now;
  len : l.reading.len ≡ length l.text;
}

abbrev pub decreases-loop-stack : goal.decreases-loop-stack
decreases-loop-stack l = length l.reading.rest.now
