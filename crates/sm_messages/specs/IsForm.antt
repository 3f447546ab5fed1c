-- What a protocol owes, so that what holds of messages holds of its messages. All of it is said of services that can be served, and of
-- operations that are.
use Rattle.std.specs.Prelude.{◌≡◌, ◌↔◌, ℕ, ◌<◌, ◌^◌, List, [], None, length}
use Rattle.sm_tree.specs.Node.{object, no_members}
use Rattle.sm_tree.specs.SyntaxLaws.{HasOneAnswer, HasOneReading, HasSomeAnswer}
use Rattle.sm_shapes.specs.Fitting.{Fits, Test}
use Rattle.sm_shapes.specs.InOrder.{DefaultsPass}
use Rattle.sm_shapes.specs.Places.{root_place}
use Rattle.sm_shapes.specs.Values.{Val}
use Rattle.sm_http.specs.declared.message.Head.{Head}
use Rattle.sm_service.specs.Servable.{Servable}
use Rattle.sm_service.specs.ServiceData.{ServiceData}
use Rattle.sm_messages.specs.Goals.{Goal, HasGoal, goal_shape}
use Rattle.sm_messages.specs.HeadAnswers.{unserved}
use Rattle.sm_messages.specs.MessageForm.{Content, MessageForm}
use Rattle.sm_messages.specs.Messages.{Msg}

-- the service is one that the protocol serves, and its defaults pass their patterns
pub record Serves (f : MessageForm) (s : ServiceData) (test : Test) : Type 0 where
  pub servable : Servable s
  pub asks : f.serves s
  pub defaults : DefaultsPass s.table test

-- the operation is one of the service, and the protocol serves it
pub record ServesOperation (f : MessageForm) (s : ServiceData) (o : ℕ) : Type 0 where
  pub within : o < length s.operations
  pub served : unserved f s o ≡ None

-- and the goal is one of such an operation
pub record ServesGoal (f : MessageForm) (s : ServiceData) (g : Goal) : Type 0 where
  pub operation : ServesOperation f s g.operation
  pub goal : HasGoal s g

-- how messages of the protocol are read
pub record ReadsMessages (f : MessageForm) : Type 0 where
  -- a request goes to one operation at most, and to one for which it may be
  pub one_operation : (s : ServiceData) (test : Test) (head : Head) (o p : ℕ) → Serves f s test → f.goes_to s head o → f.goes_to s head p
      → o ≡ p
  pub asked_for : (s : ServiceData) (head : Head) (o : ℕ) → f.goes_to s head o → f.asks_for s o head
  pub within : (s : ServiceData) (head : Head) (o : ℕ) → f.asks_for s o head → o < length s.operations
  -- bytes come to one answer, and are a text of one tree
  pub one_reading : HasOneReading f.syntax
  pub one_answer : HasOneAnswer f.syntax
  pub some_answer : HasSomeAnswer f.syntax
  -- the empty object tells no error
  pub empty_tells_none : f.body_error (object no_members) ≡ None
  -- what goes to a goal has no fault exactly where it spells a value, and then it spells one
  pub no_fault : (s : ServiceData) (test : Test) (g : Goal) (head : Head) (c : Content) → Serves f s test → ServesGoal f s g
      → (f.faults s test g head c ≡ []) ↔ ((v : Val) × f.spells s test g head c v)
  pub one_value : (s : ServiceData) (test : Test) (g : Goal) (head : Head) (c : Content) (v w : Val) → Serves f s test → ServesGoal f s g
      → f.spells s test g head c v → f.spells s test g head c w → v ≡ w
  -- and a value that is spelled is one of the goal
  pub spelled_fits : (s : ServiceData) (test : Test) (g : Goal) (head : Head) (c : Content) (v : Val) → Serves f s test → ServesGoal f s g
      → f.spells s test g head c v → Fits s.table test (root_place (goal_shape s g)) v

pub record IsForm (f : MessageForm) : Type 0 where
  pub reads : ReadsMessages f
  -- what is written for a value that is carried is a message that spells it, where the length of its body fits 64 bits
  pub written_is : (s : ServiceData) (test : Test) (g : Goal) (host : List ℕ) (v : Val) → Serves f s test → ServesGoal f s g
      → Fits s.table test (root_place (goal_shape s g)) v → f.uncarried s g v ≡ [] → length (f.written s g host v).body < 2 ^ 64
      → Msg f s test g v (f.written s g host v)
