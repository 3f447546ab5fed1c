-- A second and a third byte behind the first make a character.
use Rattle.std.proofs.Common.{arith}
use Rattle.sm_json.proofs.Runs.{run_three}
use Rattle.sm_json.proofs.Utf8Tests.{tail_said, second_said}
use Rattle.sm_json.proofs.utf8.is_three.Goals as goal

pub returns-then-is_second : goal.returns-then-is_second
returns-then-is_second c = λ t. run_three c.args.x c.args.y c.args.z (omega arith) (omega arith)
    (second_said c.args.x c.args.y c.is_second.result c.is_second.ensures c.if-is_second.true)
    (tail_said c.args.z c.is_tail.result c.is_tail.ensures t)
