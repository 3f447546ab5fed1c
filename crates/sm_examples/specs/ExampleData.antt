-- Examples of operations as data, without memory. Contracts compare examples by these words.
use Rattle.std.specs.Prelude.{ℕ}
use Rattle.sm_shapes.specs.Values.{Val}
use Rattle.sm_messages.specs.Goals.{Goal, Role, goal_of}

-- what an operation answers: its output, or one of its errors, with its value
pub record ReplyData : Type 0 where
  pub role : Role
  pub value : Val

-- an input of an operation, and the reply to it. The operation is told by its place in the service
pub record ExampleData : Type 0 where
  pub operation : ℕ
  pub input : Val
  pub reply : ReplyData

-- where the reply goes
abbrev pub reply_goal : ExampleData → Goal
reply_goal e = goal_of e.operation e.reply.role
