-- What is to hold of examples that entries say: their values are values of the operation's structures.
use Rattle.std.specs.Prelude.{◌≡◌, ◌<◌, ℕ, Some, length}
use Rattle.sm_tree.specs.Node.{Node}
use Rattle.sm_shapes.specs.Fitting.{Fits, Test, any_text}
use Rattle.sm_shapes.specs.InOrder.{DefaultsPass}
use Rattle.sm_messages.specs.service.Servable.{Servable}
use Rattle.sm_messages.specs.service.ServiceData.{ServiceData}
use Rattle.sm_messages.specs.Goals.{HasGoal, goal_of, the_input}
use Rattle.sm_messages.specs.TreeBodies.{goal_place}
use Rattle.sm_examples.specs.Entries.{example_said}
use Rattle.sm_examples.specs.ExampleData.{ExampleData, reply_goal}

-- the example is one of an operation of the service: the input is a value of its input, and the reply one of its output or of its error
pub record IsExampleOf (s : ServiceData) (test : Test) (e : ExampleData) : Type 0 where
  pub goal : HasGoal s (reply_goal e)
  pub input : Fits s.table test (goal_place s (goal_of e.operation the_input)) e.input
  pub reply : Fits s.table test (goal_place s (reply_goal e)) e.reply.value
  -- also by the test that every text passes
  pub reply_any : Fits s.table any_text (goal_place s (reply_goal e)) e.reply.value

-- what an entry says is one
abbrev pub EntriesFit : Type 0
EntriesFit =
    (s : ServiceData) (test : Test) (o : ℕ) (entry : Node) (e : ExampleData) → Servable s → DefaultsPass s.table test
    → o < length s.operations → example_said s test o entry ≡ Some e → IsExampleOf s test e
