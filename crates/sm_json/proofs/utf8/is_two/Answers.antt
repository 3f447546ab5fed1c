-- A tail behind the first byte makes a character.
use Rattle.std.proofs.Common.{arith}
use Rattle.sm_json.proofs.Runs.{run_two}
use Rattle.sm_json.proofs.Utf8Tests.{tail_said}
use Rattle.sm_json.proofs.utf8.is_two.Goals as goal

pub returns-then-x-lt224 : goal.returns-then-x-lt224
returns-then-x-lt224 c =
    λ t. run_two c.args.x c.args.y (omega arith) (omega arith) (tail_said c.args.y c.is_tail.result c.is_tail.ensures t)
