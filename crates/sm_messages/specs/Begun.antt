-- What a body by pieces was begun for, and what stands of it: nothing, as memory ran out; the message, whole, with what its answer still looks
-- at of its head; or a reader to which its bytes were fed, and a decoder beside it. Bodies that are one tree of the whole value.
use Rattle.std.specs.Prelude.{◌≡◌, ◌<◌, ℕ, ◌||◌, Bool, true, false, List, Some, length}
use Rattle.sm_tree.specs.Sources.{SourceOf}
use Rattle.sm_tree.specs.declared.refusal.SyntaxRefusal.TheVariants.{NoMemory}
use Rattle.sm_shapes.specs.Fitting.{Test}
use Rattle.sm_codec.specs.Convention.{Convention}
use Rattle.sm_codec.specs.declared.decoder.Decoder.{Decoder}
use Rattle.sm_bodies.specs.Fed.{BodyFed}
use Rattle.sm_http.specs.declared.message.Head.{Head}
use Rattle.sm_http.specs.declared.message.Message.{Message}
use Rattle.sm_service.specs.ServiceData.{ServiceData}
use Rattle.sm_messages.specs.Goals.{Asked, Goal, Role, a_request, a_response, goal_of, goal_shape, the_error, the_input, the_output}
use Rattle.sm_messages.specs.HeadAnswers.{Address, IsJudged, addressed, response_answer, to_goal, to_named_error}
use Rattle.sm_messages.specs.MessageForm.{MessageForm}
use Rattle.sm_messages.specs.TreeBodies.{tree_codec}

-- a body type of a protocol, by the type of its reader; the number is that of the operation
pub data BodyState (R : Type 0) : Type 0 where
  failed : BodyState R
  held : ℕ → Message → BodyState R
  fed : ℕ → R → Decoder → BodyState R

-- an error's body and an empty one are held, each other one is fed
abbrev pub is_error : Role → Bool
is_error the_input = false
is_error the_output = false
is_error (the_error e) = true

abbrev pub is_held : Address → Bool → Bool
is_held (to_goal g) empty = is_error g.role || empty
is_held (to_named_error o) empty = true

abbrev pub operation_of : Address → ℕ
operation_of (to_goal g) = g.operation
operation_of (to_named_error o) = o

-- a head by which a response still has its address
abbrev pub KeepsAddress : MessageForm → ServiceData → Asked → Address → Head → Type 0
KeepsAddress f s a_request there head = Unit {0}
KeepsAddress f s (a_response o) there head = response_answer f s head o ≡ addressed there

-- a message is held whole to which these bytes have come
pub record HeldFor (f : MessageForm) (s : ServiceData) (asked : Asked) (head : Head) (empty : Bool) (bytes : List ℕ) (o : ℕ) (m : Message)
    : Type 0 where
  pub there : Address
  pub judged : IsJudged f s asked head empty (addressed there)
  pub operation : operation_of there ≡ o
  pub within : o < length s.operations
  pub is : is_held there empty ≡ true
  pub keeps : KeepsAddress f s asked there m.head
  pub body : m.body ≡ bytes

-- a reader and a decoder were fed these bytes for the goal of the head, and found memory
pub record FedFor (R : Type 0) (S : SourceOf R) (l : Convention) (f : MessageForm) (s : ServiceData) (test : Test) (asked : Asked) (head : Head)
    (empty : Bool) (bytes : List ℕ) (o : ℕ) (r : R) (d : Decoder) : Type 0 where
  pub role : Role
  pub judged : IsJudged f s asked head empty (addressed (to_goal (goal_of o role)))
  pub within : o < length s.operations
  pub is : is_held (to_goal (goal_of o role)) empty ≡ false
  pub memory : S.refusal r ≡ Some NoMemory → ⊥
  pub come : BodyFed S (tree_codec l s test) (goal_shape s (goal_of o role)) r d bytes

-- a body was begun for a message of this head, whose body is empty or not, and these bytes have come to it. One that is out of memory stands
-- for each
abbrev pub BegunFor : {R : Type 0} → SourceOf R → Convention → MessageForm → ServiceData → Test → Asked → Head → Bool → List ℕ
    → BodyState R → Type 0
BegunFor S l f s test asked head empty bytes failed = Unit {0}
BegunFor S l f s test asked head empty bytes (held o m) = HeldFor f s asked head empty bytes o m
BegunFor S l f s test asked head empty bytes (fed o r d) = FedFor _ S l f s test asked head empty bytes o r d
