use Rattle.std.proofs.Common.{◌≤◌, ◌<◌}
use Rattle.sm_model.specs.GraphView.{maps_of}
use Rattle.sm_model.specs.Reaching.{id_of_number}
use Rattle.sm_compile.specs.Served.{IsStep, WayStep}
use Rattle.sm_compile.specs.steps.Walking.{IsPassed}
use Rattle.sm_compile.proofs.way.next_step.Given as goal

abbrev pub invariant-loop-at : goal.invariant-loop-at
invariant-loop-at l =
    (step : WayStep) → IsStep (maps_of l.graph) (id_of_number l.graph l.shape) step → l.start ≤ step.at → step.at < l.at
    → IsPassed l.graph l.known l.marks step.to
