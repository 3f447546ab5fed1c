-- The bytes ahead are the same, held or left; and nothing was asked of the source where those held at first decide.
use Rattle.std.proofs.Common.{◌≡◌, ◌≤◌, ◌-◌, length}
use Rattle.std.specs.Io.KnownBytes.{prepend_known, Keeps}
use Rattle.sm_io.specs.Reading.{LosesPrefix}
use Rattle.sm_http.specs.Limits.{head_limit}
use Rattle.sm_http.specs.Calls.{DecidesHead}
use Rattle.sm_http.proofs.read.read_head.Given as goal

abbrev pub invariant-loop-found : goal.invariant-loop-found
invariant-loop-found g l = record {
  kept : Keeps (prepend_known l.fn.held (g.S.Source.left l.fn.source)) (prepend_known l.held (g.S.Source.left l.source));
  taken : LosesPrefix (g.S.Source.left l.fn.source) (g.S.Source.left l.source);
  alone : DecidesHead l.side l.fn.held → (l.source ≡ l.fn.source) × (l.held ≡ l.fn.held);
  faults : g.S.Source.faults l.fn.source ≤ g.S.Source.faults l.source;
}

abbrev pub decreases-loop-found : goal.decreases-loop-found
decreases-loop-found g l = head_limit - length l.held
