-- What a message comes to: the value of a goal, or why it is refused. The decisions stand in their order: the head, the syntax of a body that
-- is read as text, the error that a body names, the first fault.
use Rattle.std.specs.Prelude.{◌≡◌, ℕ, List, ◌∷◌, None}
use Rattle.sm_tree.specs.Node.{Node}
use Rattle.sm_tree.specs.Syntax.{IsRead, IsRefused}
use Rattle.sm_tree.specs.declared.path.Step.{Step}
use Rattle.sm_tree.specs.declared.refusal.SyntaxRefusal.{SyntaxRefusal}
use Rattle.sm_shapes.specs.Fitting.{Test}
use Rattle.sm_shapes.specs.Values.{Val}
use Rattle.sm_shapes.specs.declared.fault.FaultKind.{FaultKind}
use Rattle.sm_codec.specs.FaultLists.{FaultAt}
use Rattle.sm_http.specs.declared.message.Head.{Head}
use Rattle.sm_service.specs.ServiceData.{ServiceData}
use Rattle.sm_messages.specs.Goals.{Asked, Goal}
use Rattle.sm_messages.specs.HeadAnswers.{Address, HeadRefusal, IsJudged, addressed, refused_at_head, to_goal, to_named_error, unknown_error}
use Rattle.sm_messages.specs.Heads.{is_empty}
use Rattle.sm_messages.specs.MessageForm.{BodyUse, Content, HasContent, MessageForm, a_tree, as_text, naming}
use Rattle.sm_messages.specs.Messages.{LeadsTo, error_of_tree}

-- why a message is refused
pub data Refusal : Type 0 where
  by_head : HeadRefusal → Refusal
  by_syntax : SyntaxRefusal → Refusal
  by_fault : List Step → FaultKind → Refusal

pub data MessageAnswer : Type 0 where
  the_value : Goal → Val → MessageAnswer
  the_refusal : Refusal → MessageAnswer

-- how a body is used that has this address
abbrev pub use_of : MessageForm → ServiceData → List ℕ → Address → BodyUse
use_of f s body (to_goal g) = f.body_use s g (is_empty body)
use_of f s body (to_named_error o) = naming f (is_empty body)

-- a message goes to a goal, and its body has this content there; trees nest at most 100 levels
pub record Reaches (f : MessageForm) (s : ServiceData) (asked : Asked) (head : Head) (body : List ℕ) (g : Goal) : Type 0 where
  pub there : Address
  pub judged : IsJudged f s asked head (is_empty body) (addressed there)
  pub goal : LeadsTo (IsRead f.syntax.text) f s body there g
  pub content : Content
  pub has : HasContent (IsRead f.syntax.text) (f.body_use s g (is_empty body)) body content

pub data MessageAnswers (f : MessageForm) (s : ServiceData) (test : Test) (asked : Asked) (head : Head) (body : List ℕ) (a : MessageAnswer)
    : Type 0 where
  at_head : (r : HeadRefusal) → IsJudged f s asked head (is_empty body) (refused_at_head r) → a ≡ the_refusal (by_head r)
      → MessageAnswers f s test asked head body a
  no_text : (there : Address) → (r : SyntaxRefusal) → IsJudged f s asked head (is_empty body) (addressed there)
      → use_of f s body there ≡ as_text → IsRefused f.syntax body r → a ≡ the_refusal (by_syntax r)
      → MessageAnswers f s test asked head body a
  no_name : (o : ℕ) → (n : Node) → IsJudged f s asked head (is_empty body) (addressed (to_named_error o))
      → HasContent (IsRead f.syntax.text) (naming f (is_empty body)) body (a_tree n) → error_of_tree f s o n ≡ None
      → a ≡ the_refusal (by_head unknown_error) → MessageAnswers f s test asked head body a
  fault : (g : Goal) → (path : List Step) → (kind : FaultKind) → (later : List FaultAt) → (there : Reaches f s asked head body g)
      → f.faults s test g head there.content ≡ (path, kind) ∷ later → a ≡ the_refusal (by_fault path kind)
      → MessageAnswers f s test asked head body a
  value : (g : Goal) → (v : Val) → (there : Reaches f s asked head body g) → f.spells s test g head there.content v
      → a ≡ the_value g v → MessageAnswers f s test asked head body a
