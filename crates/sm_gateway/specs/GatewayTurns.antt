-- What a gateway makes of a request and of the back's answer to it. A message crosses from the form of one side to that of the other, or
-- it is refused, and that is answered. All else of a session (which bytes are a message, its end, `connection: close`, the answer to
-- `HEAD`) is that of every session: `TurnsFrom` of sm_session.
use Rattle.std.specs.Prelude.{◌≡◌, ℕ, List}
use Rattle.sm_shapes.specs.Fitting.{Test}
use Rattle.sm_http.specs.declared.message.Message.{Message}
use Rattle.sm_http.specs.Written.{written}
use Rattle.sm_session.specs.Turns.{Asked, TurnBy, Turning, answered, asks}
use Rattle.sm_session.specs.Sessions.{SessionSaid, TurnsFrom, turn_limit}
use Rattle.sm_protocols.specs.messages.Crossings.{Crossing, CrossesAs, crosses, stays}
use Rattle.sm_protocols.specs.messages.Goals.{Goal, a_request, a_response}
use Rattle.sm_gateway.specs.GatewayData.{GatewayData, back_form, front_form}
use Rattle.sm_gateway.specs.RefusalAnswers.{back_refusal_answer, refusal_answer}

-- what a request of the front comes to on the side of the back
abbrev pub RequestCrosses : GatewayData → Test → Message → Crossing → Type 0
RequestCrosses g test m c = CrossesAs (front_form g) (back_form g) g.service test a_request g.host m.head m.body c

-- what the back's answer to a request for the operation at this place comes to on the side of the front
abbrev pub ResponseCrosses : GatewayData → Test → ℕ → Message → Crossing → Type 0
ResponseCrosses g test o m c = CrossesAs (back_form g) (front_form g) g.service test (a_response o) g.host m.head m.body c

-- a request that crosses is put to the back; one that is refused is answered
abbrev pub asked_of : Crossing → Asked
asked_of (crosses goal far) = asks (written far)
asked_of (stays r) = answered (refusal_answer r)

-- an answer of the back that crosses is that to the front; for one that is refused there is another
abbrev pub replied_of : Crossing → Message
replied_of (crosses goal far) = far
replied_of (stays r) = back_refusal_answer r

-- what a request comes to before anything is asked of the back
pub record GatewayAsks (g : GatewayData) (test : Test) (m : Message) (a : Asked) : Type 0 where
  pub crossing : Crossing
  pub crossed : RequestCrosses g test m crossing
  pub same : a ≡ asked_of crossing

-- what a request that the back was asked, and the back's answer `said` to it, come to. It is read as a response to the operation to which
-- the request went
pub record GatewayReplies (g : GatewayData) (test : Test) (m said a : Message) : Type 0 where
  pub goal : Goal
  pub far : Message
  pub request : RequestCrosses g test m (crosses goal far)
  pub crossing : Crossing
  pub crossed : ResponseCrosses g test goal.operation said crossing
  pub same : a ≡ replied_of crossing

abbrev pub gateway_turn : GatewayData → Test → Turning
gateway_turn g test = TurnBy (GatewayAsks g test) (GatewayReplies g test)

-- the session of the bytes of the front and of the back: what is put to each, and why it ends
abbrev pub Session : GatewayData → Test → List ℕ → List ℕ → SessionSaid → Type 0
Session g test front back said = TurnsFrom (gateway_turn g test) turn_limit front back said
