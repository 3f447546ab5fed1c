use Rattle.sm_http.specs.Calls.{IsWithinLimit, data_room}
use Rattle.message_rows.proofs.pieces.read_pieces.Given as goal

abbrev pub invariant-loop-body : goal.invariant-loop-body
invariant-loop-body g l = IsWithinLimit l.left

abbrev pub decreases-loop-body : goal.decreases-loop-body
decreases-loop-body g l = data_room l.left
