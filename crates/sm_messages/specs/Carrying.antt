-- Whether a protocol carries a value, told without its goal: by the side of the message alone. A value of an operation's input goes into a
-- request, one of its output or of one of its errors into the response.
use Rattle.std.specs.Prelude.{◌≡◌, ◌↔◌, ℕ, Bool, true, false, IsTrue, List, [], Option, Some, None}
use Rattle.sm_tree.specs.declared.path.Step.{Step}
use Rattle.sm_shapes.specs.Fitting.{Fits, any_text}
use Rattle.sm_shapes.specs.Values.{FieldVals, Val, field, no_fields}
use Rattle.sm_codec.specs.Encoded.{first_path}
use Rattle.sm_http.specs.declared.message.MessageSide.{MessageSide}
use Rattle.sm_http.specs.declared.message.MessageSide.TheVariants.{Request, Response}
use Rattle.sm_service.specs.ServiceData.{ServiceData}
use Rattle.sm_messages.specs.Goals.{Goal, HasGoal, Role, goal_of, is_input}
use Rattle.sm_messages.specs.TreeBodies.{goal_place}

abbrev pub is_request_side : MessageSide → Bool
is_request_side Request = true
is_request_side Response = false

-- the goal of this role is one of the operation, its messages are on this side, and the value is one of it
pub record IsValueOf (s : ServiceData) (o : ℕ) (side : MessageSide) (v : Val) (role : Role) : Type 0 where
  pub on_side : is_input role ≡ is_request_side side
  pub goal : HasGoal s (goal_of o role)
  pub fits : Fits s.table any_text (goal_place s (goal_of o role)) v

-- it is one of some goal on this side
abbrev pub FitsOn : ServiceData → ℕ → MessageSide → Val → Type 0
FitsOn s o side v = (role : Role) × IsValueOf s o side v role

-- whether it is carried, by what isn't carried of values of goals; whichever of its goals is meant
abbrev pub TellsCarried : (Goal → Val → List (List Step)) → ServiceData → ℕ → MessageSide → Val → Bool → Type 0
TellsCarried uncarried s o side v answer =
    (role : Role) → IsValueOf s o side v role → IsTrue answer ↔ (uncarried (goal_of o role) v ≡ [])

-- the first path that isn't carried, if there is one
abbrev pub TellsFirst : (Goal → Val → List (List Step)) → ServiceData → ℕ → MessageSide → Val → Option (List Step) → Type 0
TellsFirst uncarried s o side v answer =
    (role : Role) → IsValueOf s o side v role → answer ≡ first_path (uncarried (goal_of o role) v)

-- the number of the first field's member
abbrev pub first_member : FieldVals → Option ℕ
first_member no_fields = None
first_member (field k v fs) = Some k
