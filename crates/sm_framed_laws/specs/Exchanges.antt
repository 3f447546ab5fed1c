-- Values that both sides of a gateway carry cross it together: where a front sends the requests that its protocol writes for inputs, and a
-- back the replies that its protocol writes for outputs and errors, the session is closed, each request was put to the back as the back's
-- protocol writes its value, and each was answered as the front's protocol writes the reply's.
use Rattle.std.specs.Prelude.{◌≡◌, ◌<◌, ◌≤◌, ℕ, false, List, [], All, flat_map, length, map}
use Rattle.sm_tree.specs.Levels.{levels}
use Rattle.sm_tree.specs.Limits.{most_levels}
use Rattle.sm_tree.specs.Node.{Node}
use Rattle.sm_tree.specs.Syntax.{TreeFormat}
use Rattle.sm_shapes.specs.Fitting.{Fits, Test}
use Rattle.sm_shapes.specs.Places.{root_place}
use Rattle.sm_shapes.specs.Values.{Val}
use Rattle.sm_http.specs.declared.message.Message.{Message}
use Rattle.sm_http.specs.Written.{written}
use Rattle.sm_session.specs.declared.session_end.SessionEnd.TheVariants.{Closed}
use Rattle.sm_session.specs.Sessions.{SessionSaid, answer_text, turn_limit}
use Rattle.sm_bind_laws.specs.service.ServiceData.{ServiceData}
use Rattle.sm_bind_laws.specs.messages.Goals.{Goal, HasRole, Role, goal_of, goal_shape, is_input, operation_at, the_input}
use Rattle.sm_bind_laws.specs.messages.MessageForm.{MessageForm}
use Rattle.sm_gateway.specs.GatewayData.{GatewayData, IsHost, ServesAtBoth, ServesBoth, back_form, front_form}
use Rattle.sm_gateway.specs.GatewayTurns.{Session}
use Rattle.sm_framed_laws.specs.Framing.{IsWithinLimits}

-- an input of an operation, and what is replied to it: an output, or one of the operation's errors
pub record Exchange : Type 0 where
  pub operation : ℕ
  pub input : Val
  pub role : Role
  pub reply : Val

abbrev pub input_of : Exchange → Goal
input_of e = goal_of e.operation the_input

abbrev pub reply_of : Exchange → Goal
reply_of e = goal_of e.operation e.role

-- the messages that a protocol writes for it, where requests name this host
abbrev pub request_by : MessageForm → ServiceData → List ℕ → Exchange → Message
request_by f s host e = f.written s (input_of e) host e.input

abbrev pub reply_by : MessageForm → ServiceData → List ℕ → Exchange → Message
reply_by f s host e = f.written s (reply_of e) host e.reply

-- whichever tree the bytes are a text of, it nests at most 100 levels
abbrev pub NestFew : TreeFormat → List ℕ → Type 0
NestFew F bytes = (n : Node) → F n bytes → levels n ≤ most_levels

-- both ends carry the value, and the near end writes it within the limits of what is read
pub record IsCarriedByBoth (near far : MessageForm) (s : ServiceData) (test : Test) (host : List ℕ) (g : Goal) (v : Val) : Type 0 where
  pub fits : Fits s.table test (root_place (goal_shape s g)) v
  pub near_carries : near.uncarried s g v ≡ []
  pub far_carries : far.uncarried s g v ≡ []
  pub within : IsWithinLimits (near.written s g host v)
  pub few : NestFew near.syntax.text (near.written s g host v).body

-- the exchange can be made across a gateway by a front that names this host
pub record MayBeExchanged (g : GatewayData) (test : Test) (host : List ℕ) (e : Exchange) : Type 0 where
  pub served : ServesAtBoth g e.operation
  pub role : HasRole (operation_at g.service e.operation) e.role
  pub replies : is_input e.role ≡ false
  -- the request goes to its operation: by its values a target may be one of another operation that goes before
  pub goes : (front_form g).goes_to g.service (request_by (front_form g) g.service host e).head e.operation
  pub input : IsCarriedByBoth (front_form g) (back_form g) g.service test host (input_of e) e.input
  pub reply : IsCarriedByBoth (back_form g) (front_form g) g.service test host (reply_of e) e.reply

-- what the front and the back send
abbrev pub front_sends : GatewayData → List ℕ → List Exchange → List ℕ
front_sends g host es = flat_map (λ e. written (request_by (front_form g) g.service host e)) es

abbrev pub back_sends : GatewayData → List ℕ → List Exchange → List ℕ
back_sends g host es = flat_map (λ e. written (reply_by (back_form g) g.service host e)) es

-- what the front and the back get: an answer as it is sent to the request
abbrev pub answer_in : GatewayData → List ℕ → Exchange → List ℕ
answer_in g host e = answer_text (request_by (front_form g) g.service host e).head false (reply_by (front_form g) g.service g.host e)

abbrev pub exchanged : GatewayData → List ℕ → List Exchange → SessionSaid
exchanged g host es = record {
  answers = map (answer_in g host) es;
  requests = map (λ e. written (request_by (back_form g) g.service g.host e)) es;
  ending = Closed;
}

abbrev pub WrittenMessagesCross : GatewayData → Type 0
WrittenMessagesCross g =
    (test : Test) (host : List ℕ) (es : List Exchange) → ServesBoth g test → IsHost host → length es < turn_limit
    → All (MayBeExchanged g test host) es → Session g test (front_sends g host es) (back_sends g host es) (exchanged g host es)
