-- Three bytes behind the first make a character.
use Rattle.std.proofs.Common.{arith}
use Rattle.sm_json.proofs.Runs.{run_four}
use Rattle.sm_json.proofs.Utf8Tests.{second_said}
use Rattle.sm_json.proofs.utf8.is_four.Goals as goal

pub returns-then-is_second : goal.returns-then-is_second
returns-then-is_second c = λ t. run_four c.args.x c.args.y c.args.z c.args.w (omega arith) (omega arith)
    (second_said c.args.x c.args.y c.is_second.result c.is_second.ensures c.if-is_second.true) (c.are_tails.ensures.0 t).0
    (c.are_tails.ensures.0 t).1
