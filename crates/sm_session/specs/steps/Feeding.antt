-- A body that is read by pieces and handed to a responder.
use Rattle.std.specs.Prelude.{◌≡◌, ℕ, List, ◌++◌, Option, Some, None, Result, Ok, Err}
use Rattle.std.specs.Io.KnownBytes.{Consumes}
use Rattle.sm_http.specs.declared.message.Head.{Head}
use Rattle.sm_http.specs.declared.message.Message.{Message}
use Rattle.sm_http.specs.declared.message.BodyLeft.{BodyLeft}
use Rattle.sm_http.specs.declared.refusal.HttpRefusal.{HttpRefusal}
use Rattle.sm_http.specs.Bodies.{BodyFraming, BodyFramed, body, behind_data}
use Rattle.sm_http.specs.Calls.{Uses}
use Rattle.sm_http.specs.steps.Passing.{RefusesBody}
use Rattle.sm_session.specs.Responding.{Reads, ReadsOn, begun_for}

abbrev pub message_of : Head → List ℕ → Message
message_of head content = record { head = head; body = content }

-- the rest of a body was read behind a piece, and handed on with it
abbrev pub FeedsRest : {B : Type 0} → Reads → (B → Reads) → BodyLeft → Option (List ℕ) → Option (List ℕ) → Option (List ℕ) → List ℕ
    → Result B HttpRefusal → Type 0
FeedsRest before reads begun ahead now left first (Ok taken) =
    (content : List ℕ) × Uses ahead now (λ used more. BodyFramed begun (used ++ more) (body content more))
    × ReadsOn before (reads taken) (first ++ content)
FeedsRest before reads begun ahead now left first (Err why) = RefusesBody begun ahead left why

-- what was read so far: `got` of the body behind the first piece, of which all but the last piece was handed on
pub record Feeding (before reads : Reads) (begun place : BodyLeft) (ahead now : Option (List ℕ)) (first piece : List ℕ) : Type 0 where
  pub used : List ℕ
  pub consumes : Consumes ahead now used
  pub got : List ℕ
  pub on : (more : List ℕ) (framing : BodyFraming) → BodyFramed place more framing
      → BodyFramed begun (used ++ more) (behind_data got framing)
  pub given : List ℕ
  pub handed : ReadsOn before reads given
  pub same : first ++ got ≡ given ++ piece

-- a whole body was read and handed on, so that this holds of it
abbrev pub ReadsBody : {B : Type 0} → (B → List ℕ → Type 0) → BodyLeft → Option (List ℕ) → Option (List ℕ) → Option (List ℕ)
    → Result B HttpRefusal → Type 0
ReadsBody Is begun ahead now left (Ok taken) =
    (content : List ℕ) × Uses ahead now (λ used more. BodyFramed begun (used ++ more) (body content more)) × Is taken content
ReadsBody Is begun ahead now left (Err why) = RefusesBody begun ahead left why

-- it is that of a request
abbrev pub OfRequest : {B : Type 0} → (B → Reads) → Head → B → List ℕ → Type 0
OfRequest reads head taken content = reads taken (begun_for None (message_of head content)) content

-- or of the back's answer to a request
abbrev pub OfReply : {B : Type 0} → (B → Reads) → (Message → Type 0) → Head → B → List ℕ → Type 0
OfReply reads called head taken content = (m : Message) → called m → reads taken (begun_for (Some m) (message_of head content)) content
