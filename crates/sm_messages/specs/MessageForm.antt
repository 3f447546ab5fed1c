-- A protocol as data: how heads say what they ask for, how bodies are read, which values they spell, and the message that is written for a
-- value. All else is the same for every protocol, and is defined over any form.
use Rattle.std.specs.Prelude.{ℕ, ◌&&◌, Bool, cond, List, Option}
use Rattle.sm_tree.specs.Node.{Node, object, no_members}
use Rattle.sm_tree.specs.Syntax.{Syntax, TreeFormat}
use Rattle.sm_tree.specs.declared.path.Step.{Step}
use Rattle.sm_shapes.specs.Fitting.{Test}
use Rattle.sm_shapes.specs.Values.{Val}
use Rattle.sm_codec.specs.FaultLists.{FaultAt}
use Rattle.sm_http.specs.declared.message.Head.{Head}
use Rattle.sm_http.specs.declared.message.Message.{Message}
use Rattle.sm_service.specs.ServiceData.{ServiceData}
use Rattle.sm_messages.specs.Goals.{Goal}

-- how the bytes of a body are used
pub data BodyUse : Type 0 where
  -- they are a text of a tree
  as_text : BodyUse
  -- they are none, and stand for the empty object
  as_empty_object : BodyUse
  -- they are the value of a payload
  as_bytes : BodyUse
  -- they aren't looked at
  unread : BodyUse

-- what of a body counts
pub data Content : Type 0 where
  a_tree : Node → Content
  raw_bytes : List ℕ → Content
  nothing : Content

-- the bytes, used so, have this content, by a format of trees
abbrev pub HasContent : TreeFormat → BodyUse → List ℕ → Content → Type 0
HasContent F as_text bytes (a_tree n) = F n bytes
HasContent F as_text bytes c = ⊥
HasContent F as_empty_object bytes c = Path Content c (a_tree (object no_members))
HasContent F as_bytes bytes c = Path Content c (raw_bytes bytes)
HasContent F unread bytes c = Path Content c nothing

pub record MessageForm : Type 1 where
  -- what it asks of a service besides `Servable`
  pub serves : ServiceData → Type 0
  -- the fields say that the message is one of this protocol
  pub is_marked : Head → Bool
  -- the head is one of a request for the operation at this place
  pub asks_for : ServiceData → ℕ → Head → Type 0
  -- and of those for which it may be one, this is the operation to which it goes
  pub goes_to : ServiceData → Head → ℕ → Type 0
  -- the path of the member by which the protocol doesn't serve an operation, or another word for why
  pub restriction : ServiceData → ℕ → Option (List ℕ)
  -- the content type that a request for an operation has where its body isn't empty, if that is looked at
  pub content_type : ServiceData → ℕ → Option (List ℕ)
  -- the text that tells an error: in the head of a response, and in the tree of its body
  pub head_error : Head → Option (List ℕ)
  pub body_error : Node → Option (List ℕ)
  -- the texts of trees
  pub syntax : Syntax
  -- how a body is used that goes to a goal, and may be empty
  pub body_use : ServiceData → Goal → Bool → BodyUse
  -- no bytes are the empty object where a body is to tell an error; other bodies are then read as text
  pub empty_is_object : Bool
  -- which value of a goal a head and a content spell, by a test of patterns; or their faults, in order
  pub spells : ServiceData → Test → Goal → Head → Content → Val → Type 0
  pub faults : ServiceData → Test → Goal → Head → Content → List FaultAt
  -- the paths in a value that the protocol can't carry, in model order
  pub uncarried : ServiceData → Goal → Val → List (List Step)
  -- the one message that is written for a value: a request names this host
  pub written : ServiceData → Goal → List ℕ → Val → Message

-- how a body is used that is to tell an error
abbrev pub naming : MessageForm → Bool → BodyUse
naming f empty = cond (f.empty_is_object && empty) as_empty_object as_text
