-- What a body of restJson1 stands for that comes in pieces: nothing, as memory ran out; the message, whole, with all of its head, but without
-- the bytes of a body that isn't read; or the parts of its head, a reader to which its bytes were fed, and a decoder beside it.
use Rattle.std.specs.Prelude.{◌≡◌, ◌++◌, ℕ, Bool, true, false, List, [], Some}
use Rattle.sm_tree.specs.declared.refusal.SyntaxRefusal.TheVariants.{NoMemory}
use Rattle.sm_json.specs.Stands.{json_source}
use Rattle.sm_json.specs.declared.pieces.JsonReader.{JsonReader}
use Rattle.sm_shapes.specs.Fitting.{Test}
use Rattle.sm_codec.specs.Codec.{Codec, codec_of}
use Rattle.sm_codec.specs.Conventions.{json_convention}
use Rattle.sm_codec.specs.declared.decoder.Decoder.{Decoder}
use Rattle.sm_bodies.specs.Fed.{BodyFed}
use Rattle.sm_http.specs.declared.message.Head.{Head}
use Rattle.sm_http.specs.declared.message.Message.{Message}
use Rattle.sm_rest.specs.service.ServiceData.{ServiceData}
use Rattle.sm_rest.specs.messages.Begun.{BodyState, failed, fed, held, operation_of}
use Rattle.sm_rest.specs.messages.Goals.{Asked, Role, a_request, a_response, goal_of, the_input, the_output}
use Rattle.sm_rest.specs.messages.HeadAnswers.{Address, IsJudged, addressed, to_goal, to_named_error}
use Rattle.sm_rest.specs.messages.Laws.{MayAsk}
use Rattle.sm_rest.specs.messages.Pieces.{FeedsOn}
use Rattle.sm_rest.specs.bind.BindingsView.{BindingsData, bindings_data, parts_data}
use Rattle.sm_rest.specs.bind.declared.parts.Parts.{Parts}
use Rattle.sm_rest.specs.bind_read.BoundGoals.{bound_at, goal_body}
use Rattle.sm_rest.specs.rest_heads.BodyParts.{part_of}
use Rattle.sm_rest.specs.rest_heads.RestParts.{head_parts, kept_head}
use Rattle.sm_rest.specs.rest_heads.declared.bodies.BodyPart.TheVariants.{Nothing}
use Rattle.sm_rest.specs.RestForm.{rest_form}
use Rattle.sm_rest.specs.declared.context.Rest.{Rest}
use Rattle.sm_rest_read.specs.declared.body.RestBody.{RestBody}
use Rattle.sm_rest_read.specs.declared.body.RestBody.TheVariants.{Failed, Fed, Held}

-- documents and payloads are read by the table of documents, under the JSON names of members
abbrev pub bindings_codec : BindingsData → Test → Codec
bindings_codec b test = codec_of b.documents (json_convention true) test

abbrev pub rest_codec : Rest → Test → Codec
rest_codec rest test = bindings_codec (bindings_data rest.bindings) test

-- without the parts of the head
abbrev pub rest_state : RestBody → BodyState JsonReader
rest_state Failed = failed
rest_state (Held o m dropped) = held o m
rest_state (Fed o p r d) = fed o r d

-- no member of the goal stands in the body
abbrev pub IsUnread : ServiceData → Address → Type 0
IsUnread s (to_goal g) = part_of (bound_at s g) ≡ Nothing
IsUnread s (to_named_error o) = ⊥

-- all bytes that have come are kept, or dropped, as the body isn't read
abbrev pub KeepsBytes : ServiceData → Address → Bool → List ℕ → List ℕ → Type 0
KeepsBytes s there true kept bytes = IsUnread s there × (kept ≡ [])
KeepsBytes s there false kept bytes = kept ≡ bytes

-- a message is held with all of its head, to which these bytes have come
pub record RestHeld (s : ServiceData) (asked : Asked) (head : Head) (empty : Bool) (bytes : List ℕ) (o : ℕ) (m : Message) (dropped : Bool)
    : Type 0 where
  pub there : Address
  pub judged : IsJudged rest_form s asked head empty (addressed there)
  pub asks : MayAsk rest_form s asked
  pub operation : operation_of there ≡ o
  pub keeps : m.head ≡ kept_head asked head
  pub body : KeepsBytes s there dropped m.body bytes

-- a reader found memory
abbrev pub FoundMemory : JsonReader → Type 0
FoundMemory r = json_source.refusal r ≡ Some NoMemory → ⊥

-- what is fed goes to the input, or to the output
abbrev pub fed_role : Asked → Role
fed_role a_request = the_input
fed_role (a_response o) = the_output

-- a reader and a decoder were fed these bytes for the goal of the head, by the shape of its body in the table of documents, and found memory
pub record RestFed (rest : Rest) (s : ServiceData) (test : Test) (asked : Asked) (head : Head) (empty : Bool) (bytes : List ℕ) (o : ℕ)
    (p : Parts) (r : JsonReader) (d : Decoder) : Type 0 where
  pub judged : IsJudged rest_form s asked head empty (addressed (to_goal (goal_of o (fed_role asked))))
  pub asks : MayAsk rest_form s asked
  pub full : empty ≡ false
  pub parts : parts_data p ≡ head_parts s (goal_of o (fed_role asked)) head
  pub memory : FoundMemory r
  pub shape : ℕ
  pub body : goal_body s (bindings_data rest.bindings) (goal_of o (fed_role asked)) ≡ Some shape
  pub come : BodyFed json_source (rest_codec rest test) shape r d bytes

-- a body was begun by what is kept of the service, for a message of this head, whose body is empty or not, and these bytes have come to it.
-- One that is out of memory stands for each
abbrev pub RestBegun : Rest → ServiceData → Test → Asked → RestBody → Head → Bool → List ℕ → Type 0
RestBegun rest s test asked Failed head empty bytes = Unit {0}
RestBegun rest s test asked (Held o m dropped) head empty bytes = RestHeld s asked head empty bytes o m dropped
RestBegun rest s test asked (Fed o p r d) head empty bytes = RestFed rest s test asked head empty bytes o p r d

-- what a body takes of a piece: the message that is held has it behind its bytes, or is as before where they are dropped; or the reader was
-- fed it, and the decoder has what it completes
abbrev pub held_with : Bool → Message → List ℕ → Message
held_with true m piece = m
held_with false m piece = record { head = m.head; body = m.body ++ piece }

abbrev pub TakesRest : Codec → RestBody → List ℕ → RestBody → Type 0
TakesRest c Failed piece now = ⊥
TakesRest c (Held o m dropped) piece now = now ≡ Held o (held_with dropped m piece) dropped
TakesRest c (Fed o p r d) piece now =
    (q : JsonReader) × (e : Decoder) × (now ≡ Fed o p q e) × FeedsOn json_source c r d piece q e
