-- How a gateway reads a message: what stands of it, and what it is made of once all its bytes have come.
use Rattle.std.specs.Prelude.{◌≡◌, ◌⊎◌, ℕ, Bool, true, false, List, [], ◌∷◌, ◌++◌, Option, None, Some, Result, Ok, Err}
use Rattle.sm_bytes.specs.declared.no_memory.NoMemory.{NoMemory}
use Rattle.sm_tree.specs.declared.path.Step.{Step}
use Rattle.sm_shapes.specs.Fitting.{Test}
use Rattle.sm_shapes.specs.Values.{Val}
use Rattle.sm_shapes.specs.declared.values.Value.{Value}
use Rattle.sm_shapes.specs.declared.fault.FaultKind.TheVariants.{NotCarried}
use Rattle.sm_http.specs.declared.message.Head.{Head}
use Rattle.sm_http.specs.declared.message.Message.{Message}
use Rattle.sm_http.specs.Written.{written}
use Rattle.sm_protocols.specs.service.ServiceData.{ServiceData}
use Rattle.sm_session.specs.Responding.{Begun}
use Rattle.sm_session.specs.Turns.{Asked as SessionAsked}
use Rattle.sm_session.specs.declared.responder.Turn.{Turn}
use Rattle.sm_session.specs.declared.responder.Turn.TheVariants.{Answered, Asking}
use Rattle.sm_protocols.specs.messages.Answers.{AnswersRequest, AnswersResponse, RefusedAs, reply_role, reply_val}
use Rattle.sm_protocols.specs.messages.Crossings.{crosses, towards}
use Rattle.sm_protocols.specs.messages.Goals.{Asked, Goal, a_request, a_response, goal_of}
use Rattle.sm_protocols.specs.messages.HeadAnswers.{unserved}
use Rattle.sm_protocols.specs.messages.Heads.{is_empty}
use Rattle.sm_protocols.specs.messages.IsForm.{ReadsMessages}
use Rattle.sm_protocols.specs.messages.MessageAnswers.{MessageAnswer, MessageAnswers, Refusal, by_fault, the_refusal, the_value}
use Rattle.sm_protocols.specs.messages.MessageForm.{MessageForm}
use Rattle.sm_protocols.specs.messages.declared.refusal.MessageRefusal.{MessageRefusal}
use Rattle.sm_protocols.specs.messages.declared.refusal.MessageRefusal.TheVariants.{Fault, MediaType, Protocol, Syntax, UnknownError}
use Rattle.sm_protocols.specs.messages.declared.refusal.MessageRefusal.TheVariants.{UnknownOperation, Unserved}
use Rattle.sm_protocols.specs.messages.declared.refusal.MessageRefusal.TheVariants.{NoMemory as OutOfMemory}
use Rattle.sm_protocols.specs.messages.declared.reply.Reply.{Reply as MessageReply}
use Rattle.sm_protocols.specs.ProtocolBodies.{BodyHoldsFew, ProtocolBegun, body_table}
use Rattle.sm_protocols.specs.declared.spoken.Spoken.{Spoken}
use Rattle.sm_gateway.specs.Answers.{IsSaid}
use Rattle.sm_gateway.specs.GatewayData.{GatewayData, ServesBoth, back_form, front_form}
use Rattle.sm_gateway.specs.GatewayTurns.{GatewayAsks, GatewayReplies, RequestCrosses}
use Rattle.sm_gateway.specs.RefusalAnswers.{back_refusal_answer, refusal_answer}
use Rattle.sm_gateway.specs.declared.body.GatewayBody.{GatewayBody}
use Rattle.sm_gateway.specs.declared.body.GatewayBody.TheVariants.{Refused, Reply, Request}
use Rattle.sm_gateway.specs.declared.body.GatewayCall.{GatewayCall}
use Rattle.sm_gateway.specs.declared.gateway.Gateway.{Gateway}

-- both forms read messages
pub record ReadsBoth (g : GatewayData) : Type 0 where
  pub front : ReadsMessages (front_form g)
  pub back : ReadsMessages (back_form g)

-- all that the calls of a gateway stand on
abbrev pub Stands : GatewayData → Test → Type 0
Stands g test = ServesBoth g test × ReadsBoth g

-- what a request comes to, and nothing else, and so the back's answer to one
abbrev pub AsksSo : GatewayData → Test → Message → SessionAsked → Type 0
AsksSo g test m a = GatewayAsks g test m a × ((b : SessionAsked) → GatewayAsks g test m b → a ≡ b)

abbrev pub RepliesSo : GatewayData → Test → Message → Message → Message → Type 0
RepliesSo g test m said a = GatewayReplies g test m said a × ((b : Message) → GatewayReplies g test m said b → a ≡ b)

-- where a request goes, the far end has no part in what is served
abbrev pub IsAdmitted : MessageForm → MessageForm → ServiceData → Asked → Head → Type 0
IsAdmitted near far s asked head =
    (o : ℕ) → asked ≡ a_request → near.goes_to s head o → unserved (towards near far) s o ≡ unserved near s o

-- the back was asked this request, which is for the operation with this number
abbrev pub WasAsked : GatewayData → Test → ℕ → Message → Type 0
WasAsked g test o m = (goal : Goal) × (far : Message) × RequestCrosses g test m (crosses goal far) × (goal.operation ≡ o)

-- the answer of a message: of a request on its way to the back, or of the back's answer to one on its way to the front
abbrev pub AnsweredAs : GatewayData → Test → Option Message → Head → List ℕ → MessageAnswer → Type 0
AnsweredAs g test None head body a = MessageAnswers (towards (front_form g) (back_form g)) g.service test a_request head body a
AnsweredAs g test (Some request) head body a =
    (o : ℕ) → WasAsked g test o request
    → MessageAnswers (towards (back_form g) (front_form g)) g.service test (a_response o) head body a

-- a message that was begun so is refused, whatever its body
abbrev pub StaysAtHead : GatewayData → Test → Begun → Refusal → Type 0
StaysAtHead g test begun r =
    (body : List ℕ) → is_empty body ≡ begun.empty → AnsweredAs g test begun.request begun.head body (the_refusal r)

-- and so was what this call stands for
abbrev pub CallsSo : GatewayData → Test → GatewayCall → Message → Type 0
CallsSo g test call m = WasAsked g test call.operation m

-- the back was asked what its answer answers
abbrev pub AnswersAsked : GatewayData → Test → Option Message → Type 0
AnswersAsked g test None = Unit {0}
AnswersAsked g test (Some m) = (o : ℕ) × WasAsked g test o m

-- what is kept of the service for the protocols of both sides
pub record BothSpoken : Type 0 where
  pub front : Spoken
  pub back : Spoken

abbrev pub both_spoken : Gateway → BothSpoken
both_spoken g = record { front = g.front; back = g.back }

-- what was read of a message
abbrev pub GatewayReads : BothSpoken → GatewayData → Test → GatewayBody → Begun → List ℕ → Type 0
GatewayReads both g test (Refused refusal) begun bytes =
    AnswersAsked g test begun.request × (r : Refusal) × IsSaid refusal r × StaysAtHead g test begun r
GatewayReads both g test (Request body) begun bytes =
    (begun.request ≡ None) × IsAdmitted (front_form g) (back_form g) g.service a_request begun.head
    × ProtocolBegun both.front g.service test a_request body begun.head begun.empty bytes
GatewayReads both g test (Reply o body) begun bytes =
    (m : Message) × (begun.request ≡ Some m) × WasAsked g test o m
    × ProtocolBegun both.back g.service test (a_response o) body begun.head begun.empty bytes

-- and what is held of it: nothing where it is refused, and else few, by the bytes that have come
abbrev pub GatewayHolds : BothSpoken → GatewayData → GatewayBody → List ℕ → Type 0
GatewayHolds both g (Refused refusal) bytes = Unit {0}
GatewayHolds both g (Request body) bytes = BodyHoldsFew (body_table both.front g.service) bytes body
GatewayHolds both g (Reply o body) bytes = BodyHoldsFew (body_table both.back g.service) bytes body

-- a value of a goal is put to a far end, or isn't carried there, and that is answered
abbrev pub AsksFor : MessageForm → ServiceData → List ℕ → Goal → Val → List ℕ → List ℕ → Result (Turn GatewayCall) NoMemory → Type 0
AsksFor far s host goal v before now (Ok (Asking call)) =
    (far.uncarried s goal v ≡ []) × (now ≡ before ++ written (far.written s goal host v)) × (call.operation ≡ goal.operation)
AsksFor far s host goal v before now (Ok (Answered a)) =
    (path : List Step) × (more : List (List Step)) × (far.uncarried s goal v ≡ path ∷ more)
    × (a ≡ refusal_answer (by_fault path NotCarried))
AsksFor far s host goal v before now (Err refusal) = Unit {0}

-- so is a value of the back's answer told to the front
abbrev pub TellsFor : MessageForm → ServiceData → List ℕ → Goal → Val → Result Message NoMemory → Type 0
TellsFor far s host goal v (Ok a) =
    ((far.uncarried s goal v ≡ []) × (a ≡ far.written s goal host v))
    ⊎ ((path : List Step) × (more : List (List Step)) × (far.uncarried s goal v ≡ path ∷ more)
    × (a ≡ back_refusal_answer (by_fault path NotCarried)))
TellsFor far s host goal v (Err refusal) = Unit {0}

-- a value isn't carried, and that is the refusal
abbrev pub NotCarriedAs : MessageForm → ServiceData → Goal → Val → Refusal → Type 0
NotCarriedAs far s goal v r =
    (path : List Step) × (more : List (List Step)) × (far.uncarried s goal v ≡ path ∷ more) × (r ≡ by_fault path NotCarried)

-- the message that is written for a value of a goal; or it isn't carried
abbrev pub WritesFor : MessageForm → ServiceData → List ℕ → Goal → Val → Result Message MessageRefusal → Type 0
WritesFor far s host goal v (Ok m) = (far.uncarried s goal v ≡ []) × (m ≡ far.written s goal host v)
WritesFor far s host goal v (Err refusal) = RefusedAs (NotCarriedAs far s goal v) refusal

-- a message is refused at its head, and read no more
abbrev pub RefusesBody : MessageRefusal → Result GatewayBody NoMemory → Type 0
RefusesBody refusal (Ok body) = (r : Refusal) × IsSaid refusal r × (body ≡ Refused refusal)
RefusesBody refusal (Err out_of_memory) = Unit {0}

-- a request for an operation, unless it isn't served by this path
abbrev pub AdmitsBody : Option (List ℕ) → GatewayBody → Result GatewayBody NoMemory → Type 0
AdmitsBody restriction body (Ok now) =
    ((restriction ≡ None) × (now ≡ body)) ⊎ ((path : List ℕ) × (restriction ≡ Some path) × (now ≡ Refused (Unserved path)))
AdmitsBody restriction body (Err out_of_memory) = Unit {0}

abbrev pub IsMediaType : MessageRefusal → Bool → Type 0
IsMediaType MediaType b = b ≡ true
IsMediaType Protocol b = b ≡ false
IsMediaType UnknownOperation b = b ≡ false
IsMediaType (Unserved path) b = b ≡ false
IsMediaType UnknownError b = b ≡ false
IsMediaType (Syntax why) b = b ≡ false
IsMediaType (Fault f) b = b ≡ false
IsMediaType OutOfMemory b = b ≡ false

abbrev pub with_number : ℕ → Result MessageReply MessageRefusal → Result (ℕ × MessageReply) MessageRefusal
with_number o (Ok reply) = Ok (o, reply)
with_number o (Err refusal) = Err refusal

-- the back's answer to a request has this answer: the number of the operation that was asked, and a reply of it
abbrev pub AnswersReply : GatewayData → Test → Message → Message → Result (ℕ × MessageReply) MessageRefusal → Type 0
AnswersReply g test m said (Ok told) =
    WasAsked g test told.0 m
    × MessageAnswers (towards (back_form g) (front_form g)) g.service test (a_response told.0) said.head said.body
    (the_value (goal_of told.0 (reply_role told.1)) (reply_val told.1))
AnswersReply g test m said (Err refusal) =
    AnswersAsked g test (Some m) × RefusedAs (λ r. AnsweredAs g test (Some m) said.head said.body (the_refusal r)) refusal

-- what a request has for an answer, and what the response to an operation has, on their ways
abbrev pub ReadsRequest : GatewayData → Test → Message → Result (ℕ × Value) MessageRefusal → Type 0
ReadsRequest g test m result = AnswersRequest (AnsweredAs g test None m.head m.body) result

abbrev pub ReadsResponse : GatewayData → Test → ℕ → Message → Result MessageReply MessageRefusal → Type 0
ReadsResponse g test o m result =
    AnswersResponse o (MessageAnswers (towards (back_form g) (front_form g)) g.service test (a_response o) m.head m.body) result
