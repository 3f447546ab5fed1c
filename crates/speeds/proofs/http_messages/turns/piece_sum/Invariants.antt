use Rattle.sm_http.specs.Calls.{IsWithinLimit, data_room}
use Rattle.speeds.proofs.http_messages.turns.piece_sum.Given as goal

abbrev pub invariant-loop-count : goal.invariant-loop-count
invariant-loop-count g l = IsWithinLimit l.left

abbrev pub decreases-loop-count : goal.decreases-loop-count
decreases-loop-count g l = data_room l.left
