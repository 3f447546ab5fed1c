-- What a whole message comes to on the other side.
use Rattle.std.proofs.Common.{◌≡◌, ℕ, Bool, List, None, Ok, Err, refl, sym, ap, ◌∙◌, subst}
use Rattle.std.specs.Prelude.{Result}
use Rattle.sm_shapes.specs.Fitting.{Test}
use Rattle.sm_shapes.specs.Values.{Val}
use Rattle.sm_http.specs.declared.message.Head.{Head}
use Rattle.sm_http.specs.declared.message.Message.{Message}
use Rattle.sm_protocols.specs.service.ServiceData.{ServiceData}
use Rattle.sm_session.specs.Responding.{begun_for}
use Rattle.sm_protocols.specs.messages.Answers.{AnswersResponse, AtHead, RefusedAs, reply_role, reply_val}
use Rattle.sm_protocols.specs.messages.Crossings.{crosses, not_carried, refused, stays, towards}
use Rattle.sm_protocols.specs.messages.Crossings.{written as written_across}
use Rattle.sm_protocols.specs.messages.Goals.{Asked, Goal, a_response, goal_of, the_input}
use Rattle.sm_protocols.specs.messages.HeadAnswers.{HeadRefusal, IsJudged, refused_at_head}
use Rattle.sm_protocols.specs.messages.Heads.{is_empty}
use Rattle.sm_protocols.specs.messages.MessageAnswers.{MessageAnswers, Refusal, at_head, the_refusal, the_value}
use Rattle.sm_protocols.specs.messages.declared.refusal.MessageRefusal.{MessageRefusal}
use Rattle.sm_protocols.specs.messages.declared.reply.Reply.{Reply}
use Rattle.sm_protocols.proofs.messages.TreeAnswered.{refused_more, response_more}
use Rattle.sm_protocols.specs.ProtocolBodies.{ProtocolBegun}
use Rattle.sm_protocols.specs.declared.body.ProtocolBody.{ProtocolBody}
use Rattle.sm_protocols.specs.declared.spoken.Spoken.{Spoken}
use Rattle.sm_gateway.specs.Answers.{CrossesResponse}
use Rattle.sm_gateway.specs.GatewayData.{GatewayData, back_form, front_form}
use Rattle.sm_gateway.specs.GatewayTurns.{RequestCrosses, ResponseCrosses}
use Rattle.sm_gateway.specs.declared.body.GatewayBody.{GatewayBody}
use Rattle.sm_gateway.specs.steps.Reading.{AnsweredAs, BothSpoken, GatewayReads, NotCarriedAs, ReadsResponse, WritesFor}
use Rattle.sm_gateway.proofs.HeadsTowards.{answers_towards, judged_towards, response_admitted}
use Rattle.sm_gateway.proofs.MessagesBegun.{same_empty}
use Rattle.sm_gateway.proofs.RefusalsSaid.{at_head_of}

-- all bytes of a message were read
pub front_whole : (both : BothSpoken) (g : GatewayData) (test : Test) (body : GatewayBody) (m : Message) (empty : Bool) (bytes : List ℕ)
    → bytes ≡ m.body
    → empty ≡ is_empty bytes → GatewayReads both g test body (record { request = None; head = m.head; empty = empty }) bytes
    → GatewayReads both g test body (begun_for None m) m.body
front_whole both g test body m empty bytes same is x =
    let whole = is ∙ ap is_empty same ∙ sym (same_empty m.body) in
    subst (λ b. GatewayReads both g test body (begun_for None m) b) same
    (subst (λ e. GatewayReads both g test body (record { request = None; head = m.head; empty = e }) bytes) whole x)

pub body_whole : (p : Spoken) (s : ServiceData) (test : Test) (asked : Asked) (body : ProtocolBody) (m : Message) (empty : Bool)
    (bytes : List ℕ) → bytes ≡ m.body → empty ≡ is_empty bytes → ProtocolBegun p s test asked body m.head empty bytes
    → ProtocolBegun p s test asked body m.head (is_empty m.body) m.body
body_whole p s test asked body m empty bytes same is x =
    subst (λ b. ProtocolBegun p s test asked body m.head (is_empty m.body) b) same
    (subst (λ e. ProtocolBegun p s test asked body m.head e bytes) (is ∙ ap is_empty same) x)

-- a request whose value is written for the back, or isn't carried there, or that has none
pub crossed_request : (g : GatewayData) (test : Test) (m far : Message) (o : ℕ) (v : Val)
    → AnsweredAs g test None m.head m.body (the_value (goal_of o the_input) v)
    → WritesFor (back_form g) g.service g.host (goal_of o the_input) v (Ok far)
    → RequestCrosses g test m (crosses (goal_of o the_input) far)
crossed_request g test m far o v x (none, is) = written_across (goal_of o the_input) v x none (ap (crosses (goal_of o the_input)) is)

pub uncarried_request : (g : GatewayData) (test : Test) (m : Message) (o : ℕ) (v : Val) (refusal : MessageRefusal)
    → AnsweredAs g test None m.head m.body (the_value (goal_of o the_input) v)
    → WritesFor (back_form g) g.service g.host (goal_of o the_input) v (Err refusal)
    → RefusedAs (λ r. RequestCrosses g test m (stays r)) refusal
uncarried_request g test m o v refusal x isnt =
    refused_more (NotCarriedAs (back_form g) g.service (goal_of o the_input) v) (λ r. RequestCrosses g test m (stays r)) so refusal isnt
  where
    so : (r : Refusal) → NotCarriedAs (back_form g) g.service (goal_of o the_input) v r → RequestCrosses g test m (stays r)
    so r (path, more, are, same) = not_carried (goal_of o the_input) v path more x are (ap stays same)

pub refused_request : (g : GatewayData) (test : Test) (m : Message) (refusal : MessageRefusal)
    → RefusedAs (λ r. AnsweredAs g test None m.head m.body (the_refusal r)) refusal
    → RefusedAs (λ r. RequestCrosses g test m (stays r)) refusal
refused_request g test m refusal x =
    refused_more (λ r. AnsweredAs g test None m.head m.body (the_refusal r)) (λ r. RequestCrosses g test m (stays r))
    (λ r y. refused r y refl) refusal x

abbrev Judges : GatewayData → ℕ → Head → Bool → HeadRefusal → Type 0
Judges g o head empty h = IsJudged (back_form g) g.service (a_response o) head empty (refused_at_head h)

-- the back's answer that is refused at its head, and one all of whose bytes have come
pub response_refused : (g : GatewayData) (test : Test) (o : ℕ) (m : Message) (empty : Bool) (refusal : MessageRefusal)
    → empty ≡ is_empty m.body
    → RefusedAs (AtHead (λ r. IsJudged (back_form g) g.service (a_response o) m.head empty (refused_at_head r))) refusal
    → ReadsResponse g test o m (Err refusal)
response_refused g test o m empty refusal is x =
    refused_more (AtHead (Judges g o m.head empty))
    (λ r. MessageAnswers (towards (back_form g) (front_form g)) g.service test (a_response o) m.head m.body (the_refusal r)) so refusal x
  where
    so : (r : Refusal) → AtHead (Judges g o m.head empty) r
        → MessageAnswers (towards (back_form g) (front_form g)) g.service test (a_response o) m.head m.body (the_refusal r)
    so r y =
        let (h, same, judged) = at_head_of (Judges g o m.head empty) r y in
        at_head h
        (judged_towards (back_form g) (front_form g) g.service (a_response o) m.head (is_empty m.body) (refused_at_head h)
        (response_admitted (back_form g) (front_form g) g.service o m.head)
        (subst (λ e. IsJudged (back_form g) g.service (a_response o) m.head e (refused_at_head h)) is judged)) (ap the_refusal same)

pub response_read : (g : GatewayData) (test : Test) (o : ℕ) (m : Message) (result : Result Reply MessageRefusal)
    → AnswersResponse o (MessageAnswers (back_form g) g.service test (a_response o) m.head m.body) result → ReadsResponse g test o m result
response_read g test o m result x =
    response_more (MessageAnswers (back_form g) g.service test (a_response o) m.head m.body)
    (MessageAnswers (towards (back_form g) (front_form g)) g.service test (a_response o) m.head m.body)
    (λ a y. answers_towards (back_form g) (front_form g) g.service test (a_response o) m.head m.body a
    (response_admitted (back_form g) (front_form g) g.service o m.head) y) o result x

-- a reply that is written for the front, or isn't carried there, or where there is none
pub crossed_response : (g : GatewayData) (test : Test) (o : ℕ) (m : Message) (reply : Reply) (result : Result Message MessageRefusal)
    → ReadsResponse g test o m (Ok reply)
    → WritesFor (front_form g) g.service g.host (goal_of o (reply_role reply)) (reply_val reply) result → CrossesResponse g test o m result
crossed_response g test o m reply (Ok far) x (none, is) =
    let goal = goal_of o (reply_role reply) in
    (goal, written_across goal (reply_val reply) x none (ap (crosses goal) is))
crossed_response g test o m reply (Err refusal) x isnt =
    refused_more (NotCarriedAs (front_form g) g.service goal (reply_val reply)) (λ r. ResponseCrosses g test o m (stays r)) so refusal isnt
  where
    goal : Goal
    goal = goal_of o (reply_role reply)

    so : (r : Refusal) → NotCarriedAs (front_form g) g.service goal (reply_val reply) r → ResponseCrosses g test o m (stays r)
    so r (path, more, are, same) = not_carried goal (reply_val reply) path more x are (ap stays same)

pub refused_response : (g : GatewayData) (test : Test) (o : ℕ) (m : Message) (refusal : MessageRefusal)
    → ReadsResponse g test o m (Err refusal) → CrossesResponse g test o m (Err refusal)
refused_response g test o m refusal x =
    refused_more
    (λ r. MessageAnswers (towards (back_form g) (front_form g)) g.service test (a_response o) m.head m.body (the_refusal r))
    (λ r. ResponseCrosses g test o m (stays r)) (λ r y. refused r y refl) refusal x
