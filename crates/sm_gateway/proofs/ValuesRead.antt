-- A value that a message spells on its way to the other end is one of a goal that both ends serve.
use Rattle.std.proofs.Common.{refl}
use Rattle.sm_tree.specs.Syntax.{IsRead}
use Rattle.sm_shapes.specs.Fitting.{Fits, Test, any_text}
use Rattle.sm_shapes.specs.Places.{root_place}
use Rattle.sm_shapes.specs.Values.{Val}
use Rattle.sm_bodies.proofs.FitsAny.{fits_any}
use Rattle.sm_http.specs.declared.message.Message.{Message}
use Rattle.sm_protocols.specs.service.ServiceData.{ServiceData}
use Rattle.sm_protocols.specs.messages.Crossings.{IsAsked, towards}
use Rattle.sm_protocols.specs.messages.Goals.{Asked, Goal, goal_shape}
use Rattle.sm_protocols.specs.messages.IsForm.{ReadsMessages, Serves, ServesGoal, ServesOperation}
use Rattle.sm_protocols.specs.messages.Laws.{MayAsk}
use Rattle.sm_protocols.specs.messages.MessageAnswers.{MessageAnswers, the_value}
use Rattle.sm_protocols.specs.messages.MessageForm.{MessageForm}
use Rattle.sm_protocols.specs.messages.Messages.{ShortMsg}
use Rattle.sm_protocols.proofs.messages.CrossedMessages.{found, near_serves}
use Rattle.sm_protocols.proofs.messages.OneReplies.{goal_of_head}

pub near_of : (near far : MessageForm) (s : ServiceData) (test : Test) → Serves (towards near far) s test → Serves near s test
near_of near far s test serves = record { servable = serves.servable; asks = serves.asks.0; defaults = serves.defaults }

pub record ReadValue (near far : MessageForm) (s : ServiceData) (test : Test) (asked : Asked) (m : Message) (g : Goal) (v : Val)
    : Type 0 where
  pub served : ServesOperation (towards near far) s g.operation
  pub asked_for : IsAsked near s asked m.head g
  pub short : ShortMsg near s test g v m
  pub near_goal : ServesGoal near s g
  pub fits : Fits s.table test (root_place (goal_shape s g)) v
  pub fits_any : Fits s.table any_text (root_place (goal_shape s g)) v

pub value_read : (near far : MessageForm) → ReadsMessages near → (s : ServiceData) (test : Test) (asked : Asked) (m : Message) (g : Goal)
    (v : Val) → Serves (towards near far) s test → MayAsk (towards near far) s asked
    → MessageAnswers (towards near far) s test asked m.head m.body (the_value g v) → ReadValue near far s test asked m g v
value_read near far is s test asked m g v serves may answers =
    let (served, at, short) = found near far is s test asked m g v (the_value g v) may answers refl in
    let near_served = near_serves near far s g.operation served in
    let goal : ServesGoal near s g = record {
      operation = near_served;
      goal = goal_of_head (IsRead near.syntax.text) near is s m.head m.body short.there g near_served short.head short.goal;
    } in
    let fits = is.spelled_fits s test g m.head short.content v (near_of near far s test serves) goal short.spells in
    record {
      served = served;
      asked_for = at;
      short = short;
      near_goal = goal;
      fits = fits;
      fits_any = fits_any s.table test (root_place (goal_shape s g)) v fits;
    }
