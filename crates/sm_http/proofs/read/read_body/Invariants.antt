-- What came so far is a step from where the body begun, so the body goes on from here.
use Rattle.std.proofs.Common.{◌≤◌}
use Rattle.std.specs.Io.KnownBytes.{prepend_known}
use Rattle.sm_io.specs.Reading.{LosesPrefix}
use Rattle.sm_http.specs.Calls.{data_room}
use Rattle.sm_http.specs.steps.Passing.{GoesTo}
use Rattle.sm_http.proofs.read.read_body.Given as goal

abbrev pub invariant-loop-count : goal.invariant-loop-count
invariant-loop-count g l = record {
  goes : GoesTo l.fn.begun l.left (prepend_known l.fn.held (g.S.Source.left l.fn.source))
      (prepend_known l.held (g.S.Source.left l.source)) l.body.items;
  taken : LosesPrefix (g.S.Source.left l.fn.source) (g.S.Source.left l.source);
  faults : g.S.Source.faults l.fn.source ≤ g.S.Source.faults l.source;
}

abbrev pub decreases-loop-count : goal.decreases-loop-count
decreases-loop-count g l = data_room l.left
