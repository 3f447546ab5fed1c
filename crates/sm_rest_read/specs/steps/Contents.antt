-- What of the bytes of a body counts where parts are joined, and what is answered of it.
use Rattle.std.specs.Prelude.{◌≡◌, ℕ, Bool, true, false, List, Option, None, Some, Result, Ok, Err}
use Rattle.sm_tree.specs.Node.{Node}
use Rattle.sm_tree.specs.Syntax.{IsRead, IsRefused}
use Rattle.sm_tree.specs.declared.refusal.SyntaxRefusal.{SyntaxRefusal}
use Rattle.sm_json.specs.JsonText.{JsonText, json_syntax}
use Rattle.sm_shapes.specs.Fitting.{Test}
use Rattle.sm_shapes.specs.ValueView.{val_of}
use Rattle.sm_shapes.specs.declared.values.Value.{Value}
use Rattle.sm_codec.specs.Codec.{Codec}
use Rattle.sm_codec.specs.FrameView.{fault_at}
use Rattle.sm_http.specs.declared.message.Head.{Head}
use Rattle.sm_rest.specs.service.ServiceData.{ServiceData}
use Rattle.sm_rest.specs.messages.Answers.{reply_role}
use Rattle.sm_rest.specs.messages.Goals.{Goal}
use Rattle.sm_rest.specs.messages.Heads.{is_empty}
use Rattle.sm_rest.specs.messages.MessageForm.{BodyUse, Content, HasContent, a_tree, as_text, naming}
use Rattle.sm_rest.specs.messages.Messages.{NamesError, error_of_tree}
use Rattle.sm_rest.specs.messages.declared.refusal.MessageRefusal.{MessageRefusal}
use Rattle.sm_rest.specs.messages.declared.refusal.MessageRefusal.TheVariants as refused
use Rattle.sm_rest.specs.messages.declared.reply.Reply.{Reply}
use Rattle.sm_rest.specs.messages.declared.reply.Reply.TheVariants as reply
use Rattle.sm_part_values.specs.Joins.{ErrsWith}
use Rattle.sm_rest.specs.bind.PartsData.{PartsData}
use Rattle.sm_rest.specs.bind.Roles.{Bound}
use Rattle.sm_rest.specs.bind_read.BoundGoals.{bound_at}
use Rattle.sm_rest.specs.bind_read.Outcomes.{IsTreeOf, StandsForContent}
use Rattle.sm_rest.specs.bind_read.PartFaults.{parts_reading}
use Rattle.sm_rest.specs.bind_read.declared.body.PartBody.{PartBody}
use Rattle.sm_rest.specs.rest_heads.BodyParts.{rest_use}
use Rattle.sm_rest.specs.rest_heads.RestParts.{head_parts}
use Rattle.sm_rest.specs.rest_heads.declared.bodies.BodyPart.{BodyPart}
use Rattle.sm_rest.specs.rest_heads.declared.bodies.BodyPart.TheVariants.{Document, Nothing, Raw, Tree}
use Rattle.sm_rest.specs.RestForm.{rest_form}

-- a call is refused so for the syntax of its bytes, or for want of memory
abbrev pub ErrsAtSyntax : (SyntaxRefusal → Type 0) → MessageRefusal → Type 0
ErrsAtSyntax is (refused.Syntax r) = is r
ErrsAtSyntax is refused.NoMemory = Unit {0}
ErrsAtSyntax is refused.Protocol = ⊥
ErrsAtSyntax is refused.UnknownOperation = ⊥
ErrsAtSyntax is (refused.Unserved path) = ⊥
ErrsAtSyntax is refused.MediaType = ⊥
ErrsAtSyntax is refused.UnknownError = ⊥
ErrsAtSyntax is (refused.Fault f) = ⊥

-- the bytes of a document, or else of a payload, are those of a tree of which this is the body, by the shape with this number
abbrev pub GivesTree : Bool → Codec → ℕ → List ℕ → Result PartBody MessageRefusal → Type 0
GivesTree document c shape bytes (Ok body) = (n : Node) × IsRead JsonText n bytes × IsTreeOf document c (Some shape) n body
GivesTree document c shape bytes (Err e) = ErrsAtSyntax (IsRefused json_syntax bytes) e

-- the bytes, used so, have a content of which this is the body; or they are to be a text, and are refused so
abbrev pub GivesContent : Bound → BodyUse → Codec → Option ℕ → List ℕ → Result PartBody MessageRefusal → Type 0
GivesContent b used c shape bytes (Ok body) =
    (content : Content) × HasContent (IsRead JsonText) used bytes content × StandsForContent b c shape content body
GivesContent b used c shape bytes (Err e) = ErrsAtSyntax (λ r. (used ≡ as_text) × IsRefused json_syntax bytes r) e

-- what parts come to with such bytes
abbrev pub BodyJoins : Bound → Test → PartsData → BodyUse → List ℕ → Result Value MessageRefusal → Type 0
BodyJoins b test parts used bytes (Ok v) =
    (content : Content) × HasContent (IsRead JsonText) used bytes content × (parts_reading b test parts content ≡ Ok (val_of v))
BodyJoins b test parts used bytes (Err (refused.Fault f)) =
    (content : Content) × HasContent (IsRead JsonText) used bytes content × ErrsWith (parts_reading b test parts content) (fault_at f)
BodyJoins b test parts used bytes (Err (refused.Syntax r)) = (used ≡ as_text) × IsRefused json_syntax bytes r
BodyJoins b test parts used bytes (Err refused.NoMemory) = Unit {0}
BodyJoins b test parts used bytes (Err refused.Protocol) = ⊥
BodyJoins b test parts used bytes (Err refused.UnknownOperation) = ⊥
BodyJoins b test parts used bytes (Err (refused.Unserved path)) = ⊥
BodyJoins b test parts used bytes (Err refused.MediaType) = ⊥
BodyJoins b test parts used bytes (Err refused.UnknownError) = ⊥

-- what stands in a body is a document
abbrev pub is_document : BodyPart → Bool
is_document Document = true
is_document Tree = false
is_document (Raw k) = false
is_document Nothing = false

-- the value of a reply
abbrev pub value_in : Reply → Value
value_in (reply.Output v) = v
value_in (reply.Error e v) = v

-- with a body of these bytes
abbrev pub JoinsAt : Bound → Test → PartsData → List ℕ → Result Value MessageRefusal → Type 0
JoinsAt b test parts bytes r = BodyJoins b test parts (rest_use b (is_empty bytes)) bytes r

-- what a response to a goal comes to with this head and these bytes
abbrev pub ReplyJoins : ServiceData → Test → Goal → Head → List ℕ → Result Reply MessageRefusal → Type 0
ReplyJoins s test g head bytes (Ok told) =
    (reply_role told ≡ g.role) × JoinsAt (bound_at s g) test (head_parts s g head) bytes (Ok (value_in told))
ReplyJoins s test g head bytes (Err e) = JoinsAt (bound_at s g) test (head_parts s g head) bytes (Err e)

-- the bytes tell the error at this place, or none
abbrev pub TellsNone : ServiceData → ℕ → List ℕ → Type 0
TellsNone s o bytes =
    (n : Node) × HasContent (IsRead JsonText) (naming rest_form (is_empty bytes)) bytes (a_tree n) × (error_of_tree rest_form s o n ≡ None)

abbrev pub NamesPlace : ServiceData → ℕ → List ℕ → Result ℕ MessageRefusal → Type 0
NamesPlace s o bytes (Ok e) = NamesError (IsRead JsonText) rest_form s bytes o e
NamesPlace s o bytes (Err refused.UnknownError) = TellsNone s o bytes
NamesPlace s o bytes (Err (refused.Syntax r)) = (naming rest_form (is_empty bytes) ≡ as_text) × IsRefused json_syntax bytes r
NamesPlace s o bytes (Err refused.NoMemory) = Unit {0}
NamesPlace s o bytes (Err refused.Protocol) = ⊥
NamesPlace s o bytes (Err refused.UnknownOperation) = ⊥
NamesPlace s o bytes (Err (refused.Unserved path)) = ⊥
NamesPlace s o bytes (Err refused.MediaType) = ⊥
NamesPlace s o bytes (Err (refused.Fault f)) = ⊥
