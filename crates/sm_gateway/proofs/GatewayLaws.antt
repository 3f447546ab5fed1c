-- What a request comes to, and what the back's answer to it comes to, is one thing, and there is some.
use Rattle.std.proofs.Common.{◌≡◌, ℕ, List, Option, None, Some, refl, sym, ap, ◌∙◌, subst}
use Rattle.sm_shapes.specs.Fitting.{Test}
use Rattle.sm_compile.specs.declared.compiled.Served.{Served}
use Rattle.sm_compile.specs.declared.compiled.Served.TheVariants.{Yes, Unserved}
use Rattle.sm_http.specs.declared.message.Message.{Message}
use Rattle.sm_http.specs.declared.message.MessageSide.TheVariants.{Request as of_requests, Response as of_responses}
use Rattle.sm_http.specs.Laws.{HasOneFraming, HasSomeFraming}
use Rattle.sm_protocols.specs.service.ServiceData.{ServiceData}
use Rattle.sm_session.specs.Laws.{HasOneAsked, HasOneReply, HasOneSession, HasSomeAsked, HasSomeReply, HasSomeSession}
use Rattle.sm_session.specs.Turns.{Asked, answered, asks}
use Rattle.sm_session.proofs.SessionsOnce.{one_session_said}
use Rattle.sm_session.proofs.SessionsThere.{some_session_said}
use Rattle.sm_session.proofs.TurnsOnce.{one_turn_said, some_turn_said}
use Rattle.sm_protocols.specs.messages.Crossings.{Crossing, crosses, or_by, stays, towards}
use Rattle.sm_protocols.specs.messages.Goals.{Goal, a_request, a_response, operation_at}
use Rattle.sm_protocols.specs.messages.HeadAnswers.{path_unserved}
use Rattle.sm_protocols.specs.messages.IsForm.{Serves, ServesOperation}
use Rattle.sm_protocols.specs.messages.MessageForm.{MessageForm}
use Rattle.sm_protocols.proofs.messages.CrossedMessages.{crosses_or_refused}
use Rattle.sm_gateway.specs.GatewayData.{GatewayData, ServesAtBoth, ServesBoth, back_form, front_form}
use Rattle.sm_gateway.specs.GatewayTurns.{GatewayAsks, GatewayReplies, RequestCrosses, ResponseCrosses, asked_of, gateway_turn, replied_of}
use Rattle.sm_gateway.specs.RefusalAnswers.{refusal_answer}
use Rattle.sm_gateway.specs.steps.Reading.{AsksSo, ReadsBoth, RepliesSo, Stands}
use Rattle.sm_gateway.proofs.OneCrossing.{one_crossing, some_crossing}

-- what both ends serve is served from either side
pub other_way : (near far : MessageForm) (s : ServiceData) (test : Test) → Serves (towards near far) s test
    → Serves (towards far near) s test
other_way near far s test serves =
    record { servable = serves.servable; asks = (serves.asks.1, serves.asks.0); defaults = serves.defaults }

none_either : (o p : Option (List ℕ)) → or_by o p ≡ None → or_by p o ≡ None
none_either None None e = refl
none_either None (Some path) e = e
none_either (Some path) p e = absurd cc

pub operation_other_way : (near far : MessageForm) (s : ServiceData) (o : ℕ) → ServesOperation (towards near far) s o
    → ServesOperation (towards far near) s o
operation_other_way near far s o h = record { within = h.within; served = by (operation_at s o).served h.served }
  where
    by : (served : Served) → path_unserved served (or_by (near.restriction s o) (far.restriction s o)) ≡ None
        → path_unserved served (or_by (far.restriction s o) (near.restriction s o)) ≡ None
    by Yes e = none_either (near.restriction s o) (far.restriction s o) e
    by (Unserved path) e = absurd cc

-- a request that crosses is one for an operation that both ends serve
pub served_at_both : (g : GatewayData) (test : Test) → ServesBoth g test → ReadsBoth g → (m far : Message) (goal : Goal)
    → RequestCrosses g test m (crosses goal far) → ServesAtBoth g goal.operation
served_at_both g test serves reads m far goal x =
    ((crosses_or_refused (front_form g) (back_form g) reads.front g.service test a_request g.host m goal serves tt).0 (far, x)).0

pub one_request : (g : GatewayData) (test : Test) → ServesBoth g test → ReadsBoth g → (m : Message) (a b : Crossing)
    → RequestCrosses g test m a → RequestCrosses g test m b → a ≡ b
one_request g test serves reads m a b x y =
    one_crossing (front_form g) (back_form g) reads.front g.service test a_request g.host m.head m.body a b serves tt x y

pub one_response : (g : GatewayData) (test : Test) → ServesBoth g test → ReadsBoth g → (o : ℕ) → ServesAtBoth g o → (m : Message)
    (a b : Crossing) → ResponseCrosses g test o m a → ResponseCrosses g test o m b → a ≡ b
one_response g test serves reads o served m a b x y =
    one_crossing (back_form g) (front_form g) reads.back g.service test (a_response o) g.host m.head m.body a b
    (other_way (front_form g) (back_form g) g.service test serves)
    (operation_other_way (front_form g) (back_form g) g.service o served) x y

pub one_asked : (g : GatewayData) (test : Test) → ServesBoth g test → ReadsBoth g → HasOneAsked (GatewayAsks g test)
one_asked g test serves reads m a b x y =
    x.same ∙ ap asked_of (one_request g test serves reads m x.crossing y.crossing x.crossed y.crossed) ∙ sym y.same

pub some_asked : (g : GatewayData) (test : Test) → ServesBoth g test → ReadsBoth g → HasSomeAsked (GatewayAsks g test)
some_asked g test serves reads m deny =
    some_crossing (front_form g) (back_form g) reads.front g.service test a_request g.host m.head m.body serves tt
    (λ c x. deny (asked_of c) (record { crossing = c; crossed = x; same = refl }))

pub same_goal : (g h : Goal) (m n : Message) → crosses g m ≡ crosses h n → g ≡ h
same_goal g h m n e = cc

pub one_reply : (g : GatewayData) (test : Test) → ServesBoth g test → ReadsBoth g → HasOneReply (GatewayReplies g test)
one_reply g test serves reads m said a b x y =
    let requests = one_request g test serves reads m (crosses x.goal x.far) (crosses y.goal y.far) x.request y.request in
    let goals = same_goal x.goal y.goal x.far y.far requests in
    let crossed : ResponseCrosses g test y.goal.operation said x.crossing =
    subst (λ k. ResponseCrosses g test k.operation said x.crossing) goals x.crossed in
    let served = served_at_both g test serves reads m y.far y.goal y.request in
    let crossings = one_response g test serves reads y.goal.operation served said x.crossing y.crossing crossed y.crossed in
    x.same ∙ ap replied_of crossings ∙ sym y.same

asks_or_answers : (text : List ℕ) (a : Message) → asks text ≡ answered a → ⊥
asks_or_answers text a e = cc

pub some_reply : (g : GatewayData) (test : Test) → ServesBoth g test → ReadsBoth g
    → HasSomeReply (GatewayAsks g test) (GatewayReplies g test)
some_reply g test serves reads m said text x deny = by x.crossing x.crossed x.same
  where
    by : (c : Crossing) → RequestCrosses g test m c → asks text ≡ asked_of c → ⊥
    by (stays r) crossed e = asks_or_answers text (refusal_answer r) e
    by (crosses goal far) crossed e =
        let served = served_at_both g test serves reads m far goal crossed in
        some_crossing (back_form g) (front_form g) reads.back g.service test (a_response goal.operation) g.host said.head said.body
        (other_way (front_form g) (back_form g) g.service test serves)
        (operation_other_way (front_form g) (back_form g) g.service goal.operation served)
        (λ c y. deny (replied_of c)
        (record { goal = goal; far = far; request = crossed; crossing = c; crossed = y; same = refl }))

-- where it is one thing it is that alone
pub asks_so : (g : GatewayData) (test : Test) → Stands g test → (m : Message) (a : Asked) → GatewayAsks g test m a → AsksSo g test m a
asks_so g test stands m a x = (x, λ b y. one_asked g test stands.0 stands.1 m a b x y)

pub replies_so : (g : GatewayData) (test : Test) → Stands g test → (m said a : Message) → GatewayReplies g test m said a
    → RepliesSo g test m said a
replies_so g test stands m said a x = (x, λ b y. one_reply g test stands.0 stands.1 m said a b x y)

pub some_asked_so : (g : GatewayData) (test : Test) → Stands g test → HasSomeAsked (AsksSo g test)
some_asked_so g test stands m deny = some_asked g test stands.0 stands.1 m (λ a x. deny a (asks_so g test stands m a x))

pub some_reply_so : (g : GatewayData) (test : Test) → Stands g test → HasSomeReply (AsksSo g test) (RepliesSo g test)
some_reply_so g test stands m said text x deny =
    some_reply g test stands.0 stands.1 m said text x.0 (λ a y. deny a (replies_so g test stands m said a y))

pub one_gateway_session : (g : GatewayData) (test : Test) → ServesBoth g test → ReadsBoth g → HasOneFraming of_requests
    → HasOneFraming of_responses → HasOneSession (gateway_turn g test)
one_gateway_session g test serves reads requests responses =
    one_session_said (gateway_turn g test) requests
    (one_turn_said (GatewayAsks g test) (GatewayReplies g test) (one_asked g test serves reads) (one_reply g test serves reads) responses)

pub some_gateway_session : (g : GatewayData) (test : Test) → ServesBoth g test → ReadsBoth g → HasSomeFraming of_requests
    → HasSomeFraming of_responses → HasSomeSession (gateway_turn g test)
some_gateway_session g test serves reads requests responses =
    some_session_said (gateway_turn g test) requests
    (some_turn_said (GatewayAsks g test) (GatewayReplies g test) (some_asked g test serves reads) (some_reply g test serves reads)
    responses)
