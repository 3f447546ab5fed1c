use Rattle.std.proofs.Common.{◌≡◌, ◌++◌, drop}
use Rattle.sm_asked.specs.Lines.{event_lines}
use Rattle.sm_asked.proofs.lines.event_lines.Given as goal

abbrev pub invariant-loop-event : goal.invariant-loop-event
invariant-loop-event l = record {
  lines : l.lines.items ++ event_lines l.shown (drop l.event-index l.events) ≡ event_lines l.shown l.events;
}
