use Rattle.std.proofs.Common.{true, false}
use Rattle.sm_shapes.proofs.FirstBroken.{enum_first}
use Rattle.sm_shapes.proofs.constraints.Constraints.judge_enum.Goals as goal

pub returns-then-has : goal.returns-then-has
returns-then-has c = enum_first c.args.kind c.args.self.now.texts c.args.text.now true c.in-Enum.is c.if-has.ensures

pub returns-else-has : goal.returns-else-has
returns-else-has c = enum_first c.args.kind c.args.self.now.texts c.args.text.now false c.in-Enum.is c.if-has.ensures
