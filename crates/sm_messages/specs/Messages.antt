-- Which messages spell a value: the head is one of those that go to the goal, and the body spells the value. Nothing is asked of other
-- operations to which the head may go, or of what is served.
use Rattle.std.specs.Prelude.{◌≡◌, ℕ, Bool, true, List, Option, Some, None}
use Rattle.sm_tree.specs.Node.{Node}
use Rattle.sm_tree.specs.Syntax.{IsRead, TreeFormat}
use Rattle.sm_shapes.specs.Fitting.{Test}
use Rattle.sm_shapes.specs.Values.{Val}
use Rattle.sm_http.specs.declared.message.Head.{Head}
use Rattle.sm_http.specs.declared.message.Message.{Message}
use Rattle.sm_service.specs.ServiceData.{ServiceData}
use Rattle.sm_messages.specs.Goals.{Goal, goal_of, the_error, the_input}
use Rattle.sm_messages.specs.HeadAnswers.{Address, addressed, is_request_type, response_answer, to_goal, to_named_error}
use Rattle.sm_messages.specs.Heads.{is_empty}
use Rattle.sm_messages.specs.MessageForm.{Content, HasContent, MessageForm, a_tree, naming}
use Rattle.sm_messages.specs.Names.{error_told}

-- the head is one of a message with this address, whose body is empty or not
pub data IsHeadOf (f : MessageForm) (s : ServiceData) (head : Head) (empty : Bool) (there : Address) : Type 0 where
  request_head : (o : ℕ) → f.is_marked head ≡ true → f.asks_for s o head → is_request_type f s o head empty ≡ true
      → there ≡ to_goal (goal_of o the_input) → IsHeadOf f s head empty there
  response_head : (o : ℕ) → f.is_marked head ≡ true → response_answer f s head o ≡ addressed there → IsHeadOf f s head empty there

-- the error that a tree tells by its name
abbrev pub place_told : ServiceData → ℕ → Option (List ℕ) → Option ℕ
place_told s o None = None
place_told s o (Some told) = error_told s o told

abbrev pub error_of_tree : MessageForm → ServiceData → ℕ → Node → Option ℕ
error_of_tree f s o n = place_told s o (f.body_error n)

-- the body is the text of a tree that tells the error at this place
pub record NamesError (F : TreeFormat) (f : MessageForm) (s : ServiceData) (body : List ℕ) (o e : ℕ) : Type 0 where
  pub tree : Node
  pub has : HasContent F (naming f (is_empty body)) body (a_tree tree)
  pub names : error_of_tree f s o tree ≡ Some e

-- a message with this address and this body goes to the goal, by a format of trees
abbrev pub LeadsTo : TreeFormat → MessageForm → ServiceData → List ℕ → Address → Goal → Type 0
LeadsTo F f s body (to_goal g) h = g ≡ h
LeadsTo F f s body (to_named_error o) h = (e : ℕ) × NamesError F f s body o e × (h ≡ goal_of o (the_error e))

-- the message spells the value, by a format of trees
pub record SpellsBy (F : TreeFormat) (f : MessageForm) (s : ServiceData) (test : Test) (g : Goal) (v : Val) (m : Message) : Type 0 where
  pub there : Address
  pub head : IsHeadOf f s m.head (is_empty m.body) there
  pub goal : LeadsTo F f s m.body there g
  pub content : Content
  pub has : HasContent F (f.body_use s g (is_empty m.body)) m.body content
  pub spells : f.spells s test g m.head content v

-- a message of the goal that spells the value
abbrev pub Msg : MessageForm → ServiceData → Test → Goal → Val → Message → Type 0
Msg f s test g v m = SpellsBy f.syntax.text f s test g v m

-- and where its body is read as the text of a tree, that nests at most 100 levels
abbrev pub ShortMsg : MessageForm → ServiceData → Test → Goal → Val → Message → Type 0
ShortMsg f s test g v m = SpellsBy (IsRead f.syntax.text) f s test g v m
