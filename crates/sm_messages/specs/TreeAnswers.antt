-- What the body of a message comes to whose head has an address, where it is one tree of the whole value: by a syntax, a codec over the table
-- of the service, and how a tree tells an error. The decisions stand in their order.
use Rattle.std.specs.Prelude.{◌≡◌, ℕ, Bool, true, false, List, ◌∷◌, Option, None, Some, Result, Ok, Err}
use Rattle.sm_tree.specs.Node.{Node}
use Rattle.sm_tree.specs.Syntax.{IsRead, IsRefused, Syntax}
use Rattle.sm_tree.specs.declared.path.Step.{Step}
use Rattle.sm_tree.specs.declared.refusal.SyntaxRefusal.{SyntaxRefusal}
use Rattle.sm_tree.specs.declared.refusal.SyntaxRefusal.TheVariants as syntax
use Rattle.sm_shapes.specs.Places.{root_place}
use Rattle.sm_shapes.specs.Values.{Val}
use Rattle.sm_shapes.specs.ValueView.{val_of}
use Rattle.sm_shapes.specs.declared.fault.FaultKind.{FaultKind}
use Rattle.sm_shapes.specs.declared.values.Value.{Value}
use Rattle.sm_codec.specs.Answers.{Decodes}
use Rattle.sm_codec.specs.Codec.{Codec}
use Rattle.sm_codec.specs.FaultLists.{FaultAt}
use Rattle.sm_codec.specs.FrameView.{fault_at}
use Rattle.sm_codec.specs.Readings.{faults}
use Rattle.sm_codec.specs.Spelling.{Spells}
use Rattle.sm_bodies.specs.declared.reading.BodyRefusal.{BodyRefusal}
use Rattle.sm_bodies.specs.declared.reading.BodyRefusal.TheVariants as body
use Rattle.sm_compile.specs.Served.{type_name}
use Rattle.sm_service.specs.ServiceData.{ServiceData}
use Rattle.sm_messages.specs.Answers.{RefusedAs}
use Rattle.sm_messages.specs.Goals.{Goal, HasRole, goal_of, goal_shape, operation_at, the_error, the_output}
use Rattle.sm_messages.specs.HeadAnswers.{Address, to_goal, to_named_error, unknown_error}
use Rattle.sm_messages.specs.Heads.{is_empty}
use Rattle.sm_messages.specs.MessageAnswers.{MessageAnswer, by_fault, by_head, by_syntax, the_refusal, the_value}
use Rattle.sm_messages.specs.MessageForm.{BodyUse, HasContent, a_tree, as_text}
use Rattle.sm_messages.specs.Messages.{place_told}
use Rattle.sm_messages.specs.Names.{told_by_body, text_under}
use Rattle.sm_messages.specs.TreeBodies.{goal_place, tree_use}
use Rattle.sm_messages.specs.declared.judging.ResponseAddress.{ResponseAddress}
use Rattle.sm_messages.specs.declared.judging.ResponseAddress.TheVariants as response
use Rattle.sm_messages.specs.declared.refusal.MessageRefusal.{MessageRefusal}
use Rattle.sm_messages.specs.declared.refusal.MessageRefusal.TheVariants as refused
use Rattle.sm_messages.specs.declared.reply.Reply.{Reply}
use Rattle.sm_messages.specs.declared.reply.Reply.TheVariants as reply

-- how the bytes are used
abbrev pub address_use : ServiceData → List ℕ → Address → BodyUse
address_use s bytes (to_goal g) = tree_use s g (is_empty bytes)
address_use s bytes (to_named_error o) = as_text

-- the address, with a tree, leads to a goal
abbrev pub TreeLeads : Syntax → ServiceData → (Node → Option (List ℕ)) → List ℕ → Address → Node → Goal → Type 0
TreeLeads S s told bytes (to_goal h) n g = h ≡ g
TreeLeads S s told bytes (to_named_error o) n g =
    (e : ℕ) × IsRead S.text n bytes × (place_told s o (told n) ≡ Some e) × (g ≡ goal_of o (the_error e))

pub data TreeAnswers (S : Syntax) (c : Codec) (s : ServiceData) (told : Node → Option (List ℕ)) (there : Address) (bytes : List ℕ)
    (a : MessageAnswer) : Type 0 where
  not_read : (r : SyntaxRefusal) → address_use s bytes there ≡ as_text → IsRefused S bytes r → a ≡ the_refusal (by_syntax r)
      → TreeAnswers S c s told there bytes a
  none_named : (o : ℕ) → (n : Node) → there ≡ to_named_error o → IsRead S.text n bytes → place_told s o (told n) ≡ None
      → a ≡ the_refusal (by_head unknown_error) → TreeAnswers S c s told there bytes a
  first_fault : (g : Goal) → (n : Node) → (path : List Step) → (kind : FaultKind) → (later : List FaultAt)
      → TreeLeads S s told bytes there n g → HasContent (IsRead S.text) (tree_use s g (is_empty bytes)) bytes (a_tree n)
      → faults c n (goal_place s g) ≡ (path, kind) ∷ later → a ≡ the_refusal (by_fault path kind) → TreeAnswers S c s told there bytes a
  spelled : (g : Goal) → (n : Node) → (v : Val) → TreeLeads S s told bytes there n g
      → HasContent (IsRead S.text) (tree_use s g (is_empty bytes)) bytes (a_tree n) → Spells c (goal_place s g) v n → a ≡ the_value g v
      → TreeAnswers S c s told there bytes a

-- what a call answers for a goal
abbrev pub AnswersGoal : (MessageAnswer → Type 0) → Goal → Result Value MessageRefusal → Type 0
AnswersGoal is g (Ok v) = is (the_value g (val_of v))
AnswersGoal is g (Err refusal) = RefusedAs (λ r. is (the_refusal r)) refusal

-- the text that tells an error: under `__type`, or else under `code` where that is looked at
abbrev pub told_under : Bool → Node → Option (List ℕ)
told_under true n = told_by_body n
told_under false n = text_under type_name n

-- a refusal of bytes as one of a message
abbrev pub syntax_refusal : SyntaxRefusal → MessageRefusal
syntax_refusal (syntax.Bad at) = refused.Syntax (syntax.Bad at)
syntax_refusal syntax.Ended = refused.Syntax syntax.Ended
syntax_refusal (syntax.TooDeep at) = refused.Syntax (syntax.TooDeep at)
syntax_refusal (syntax.KeyKind at) = refused.Syntax (syntax.KeyKind at)
syntax_refusal syntax.NoMemory = refused.NoMemory

-- where a response goes
abbrev pub address_of : ℕ → ResponseAddress → Address
address_of o response.Output = to_goal (goal_of o the_output)
address_of o (response.Error e) = to_goal (goal_of o (the_error e))
address_of o response.Named = to_named_error o

-- an error is one of the operation's
abbrev pub HasAddress : ServiceData → ℕ → ResponseAddress → Type 0
HasAddress s o response.Output = Unit {0}
HasAddress s o (response.Error e) = HasRole (operation_at s o) (the_error e)
HasAddress s o response.Named = Unit {0}

-- a refusal of a body as one of its message
abbrev pub body_refusal : BodyRefusal → MessageRefusal
body_refusal (body.Syntax r) = refused.Syntax r
body_refusal (body.Fault f) = refused.Fault f
body_refusal body.NoMemory = refused.NoMemory

-- what a tree comes to for a shape: the value that it spells, or its first fault
abbrev pub TreeComesTo : Codec → ℕ → Node → Result Value MessageRefusal → Type 0
TreeComesTo c shape n (Ok v) = Decodes c (root_place shape) n (Ok (val_of v))
TreeComesTo c shape n (Err (refused.Fault f)) = Decodes c (root_place shape) n (Err (fault_at f))
TreeComesTo c shape n (Err refused.NoMemory) = Unit {0}
TreeComesTo c shape n (Err refused.Protocol) = ⊥
TreeComesTo c shape n (Err refused.UnknownOperation) = ⊥
TreeComesTo c shape n (Err (refused.Unserved path)) = ⊥
TreeComesTo c shape n (Err refused.MediaType) = ⊥
TreeComesTo c shape n (Err refused.UnknownError) = ⊥
TreeComesTo c shape n (Err (refused.Syntax r)) = ⊥

-- what a tree comes to as the body of a response that is to name an error of an operation
abbrev pub NamesReply : Codec → ServiceData → (Node → Option (List ℕ)) → ℕ → Node → Result Reply MessageRefusal → Type 0
NamesReply c s told o n (Ok (reply.Error e v)) =
    (place_told s o (told n) ≡ Some e) × TreeComesTo c (goal_shape s (goal_of o (the_error e))) n (Ok v)
NamesReply c s told o n (Ok (reply.Output v)) = ⊥
NamesReply c s told o n (Err refused.UnknownError) = place_told s o (told n) ≡ None
NamesReply c s told o n (Err (refused.Fault f)) =
    (e : ℕ) × (place_told s o (told n) ≡ Some e) × TreeComesTo c (goal_shape s (goal_of o (the_error e))) n (Err (refused.Fault f))
NamesReply c s told o n (Err refused.NoMemory) = Unit {0}
NamesReply c s told o n (Err refused.Protocol) = ⊥
NamesReply c s told o n (Err refused.UnknownOperation) = ⊥
NamesReply c s told o n (Err (refused.Unserved path)) = ⊥
NamesReply c s told o n (Err refused.MediaType) = ⊥
NamesReply c s told o n (Err (refused.Syntax r)) = ⊥
