-- That what a gateway writes is read again as itself by whoever reads HTTP/1.1 on the other end of the connection, whatever follows it
-- (RFC 9112, sections 2 and 6): no value, name or line in it ends the message early, adds a field, or says another thing of its body.
use Rattle.std.specs.Prelude.{◌≤◌, ℕ, Bool, true, false, List, ◌++◌, length}
use Rattle.std.specs.Prelude.{◌≡◌, []}
use Rattle.sm_http.specs.declared.message.Message.{Message}
use Rattle.sm_http.specs.declared.message.MessageSide.{MessageSide}
use Rattle.sm_http.specs.declared.message.MessageSide.TheVariants.{Request as of_requests, Response as of_responses}
use Rattle.sm_http.specs.declared.refusal.HttpRefusal.{HttpRefusal}
use Rattle.sm_http.specs.Framed.{Framed, message}
use Rattle.sm_http.specs.Limits.{head_limit, message_body_limit, most_fields}
use Rattle.sm_http.specs.Written.{written, written_head}
use Rattle.sm_shapes.specs.Fitting.{Fits, Test}
use Rattle.sm_shapes.specs.Places.{root_place}
use Rattle.sm_shapes.specs.Values.{Val}
use Rattle.sm_session.specs.OwnAnswers.{back_answer, framing_answer}
use Rattle.sm_bind_laws.specs.service.ServiceData.{ServiceData}
use Rattle.sm_bind_laws.specs.messages.Crossings.{CrossesAs, crosses, towards}
use Rattle.sm_bind_laws.specs.messages.Goals.{Asked, Goal, goal_shape, is_input}
use Rattle.sm_bind_laws.specs.messages.IsForm.{Serves, ServesGoal}
use Rattle.sm_bind_laws.specs.messages.Laws.{MayAsk}
use Rattle.sm_bind_laws.specs.messages.MessageAnswers.{Refusal}
use Rattle.sm_bind_laws.specs.messages.MessageForm.{MessageForm}
use Rattle.sm_gateway.specs.GatewayData.{IsHost}
use Rattle.sm_gateway.specs.RefusalAnswers.{back_refusal_answer, closing, refusal_answer}

-- a message within the limits of what is read: the bytes of its head, its fields, and the bytes of its body
pub record IsWithinLimits (m : Message) : Type 0 where
  pub head : length (written_head m.head) ≤ head_limit
  pub fields : length m.head.fields ≤ most_fields
  pub body : length m.body ≤ message_body_limit

-- its text is read as it, whatever stands behind
abbrev pub IsFramed : MessageSide → Message → Type 0
IsFramed side m = (rest : List ℕ) → Framed side (written m ++ rest) (message m rest)

abbrev pub side_by : Bool → MessageSide
side_by true = of_requests
side_by false = of_responses

-- requests go to inputs
abbrev pub side_of : Goal → MessageSide
side_of g = side_by (is_input g.role)

-- what a protocol writes for a value that it carries, to such a host
abbrev pub WrittenIsFramed : MessageForm → Type 0
WrittenIsFramed f =
    (s : ServiceData) (test : Test) (g : Goal) (host : List ℕ) (v : Val) → Serves f s test → ServesGoal f s g
    → Fits s.table test (root_place (goal_shape s g)) v → f.uncarried s g v ≡ [] → IsHost host → IsWithinLimits (f.written s g host v)
    → IsFramed (side_of g) (f.written s g host v)

-- a message that crosses
abbrev pub CrossedIsFramed : MessageForm → MessageForm → Type 0
CrossedIsFramed near far =
    (s : ServiceData) (test : Test) (asked : Asked) (host : List ℕ) (m n : Message) (g : Goal) → Serves (towards near far) s test
    → MayAsk (towards near far) s asked → CrossesAs near far s test asked host m.head m.body (crosses g n) → IsHost host → IsWithinLimits n
    → IsFramed (side_of g) n

-- the answers to what is refused, of the front and of the back; the session may end behind them
abbrev pub AnswerIsFramed : Message → Type 0
AnswerIsFramed m = (close : Bool) → IsWithinLimits (closing close m) → IsFramed of_responses (closing close m)

pub record AnswersAreFramed : Type 0 where
  pub refused : (r : Refusal) → AnswerIsFramed (refusal_answer r)
  pub back_refused : (r : Refusal) → AnswerIsFramed (back_refusal_answer r)
  pub unframed : (why : HttpRefusal) → AnswerIsFramed (framing_answer why)
  pub back_unframed : (why : HttpRefusal) → AnswerIsFramed (back_answer why)
