-- What a message comes to of which all bytes have come.
use Rattle.std.proofs.Common.{◌≡◌, ℕ, List, None, Some, Ok, Err, refl, sym, ap, subst, inl, inr}
use Rattle.std.specs.Prelude.{IfOk, Result}
use Rattle.std.proofs.lemmas.Option.{same_Some}
use Rattle.sm_bytes.specs.declared.no_memory.NoMemory.{NoMemory}
use Rattle.sm_shapes.specs.Fitting.{Test}
use Rattle.sm_shapes.specs.Values.{Val}
use Rattle.sm_shapes.specs.ValueView.{val_of}
use Rattle.sm_shapes.specs.declared.values.Value.{Value}
use Rattle.sm_shapes.specs.declared.fault.FaultKind.TheVariants.{NotCarried}
use Rattle.sm_http.specs.declared.message.Message.{Message}
use Rattle.sm_http.specs.Written.{written}
use Rattle.sm_session.specs.Responding.{ComesTo, FinishesReply, FinishesRequest, HasReadReply, HasReadRequest, begun_for}
use Rattle.sm_session.specs.Turns.{answered, asks}
use Rattle.sm_session.specs.declared.responder.Turn.{Turn}
use Rattle.sm_session.specs.declared.responder.Turn.TheVariants.{Answered, Asking}
use Rattle.sm_protocols.specs.messages.Answers.{AnswersRequest, AnswersResponse, RefusedAs, reply_role, reply_val}
use Rattle.sm_protocols.specs.messages.Crossings.{crosses, not_carried, refused, stays, towards}
use Rattle.sm_protocols.specs.messages.Crossings.{written as written_across}
use Rattle.sm_protocols.specs.messages.Goals.{Goal, a_request, a_response, goal_of, the_input}
use Rattle.sm_protocols.specs.messages.MessageAnswers.{MessageAnswer, MessageAnswers, Refusal, by_fault, the_refusal, the_value}
use Rattle.sm_protocols.specs.messages.Pieces.{HasAll, OfAll}
use Rattle.sm_protocols.specs.messages.declared.refusal.MessageRefusal.{MessageRefusal}
use Rattle.sm_protocols.specs.messages.declared.reply.Reply.{Reply as MessageReply}
use Rattle.sm_protocols.proofs.messages.TreeAnswered.{refused_more, request_more}
use Rattle.sm_protocols.specs.ProtocolBodies.{ProtocolBegun}
use Rattle.sm_protocols.specs.declared.body.ProtocolBody.{ProtocolBody}
use Rattle.sm_gateway.specs.Answers.{IsSaid}
use Rattle.sm_gateway.specs.GatewayData.{GatewayData, ServesAtBoth, ServesBoth, back_form, front_form}
use Rattle.sm_gateway.specs.GatewayTurns.{GatewayAsks, GatewayReplies, ResponseCrosses}
use Rattle.sm_gateway.specs.RefusalAnswers.{back_refusal_answer, refusal_answer}
use Rattle.sm_gateway.specs.declared.body.GatewayBody.{GatewayBody}
use Rattle.sm_gateway.specs.declared.body.GatewayBody.TheVariants.{Refused, Reply, Request}
use Rattle.sm_gateway.specs.declared.body.GatewayCall.{GatewayCall}
use Rattle.sm_gateway.specs.steps.Reading.{AnsweredAs, AnswersReply, AsksFor, AsksSo, BothSpoken, CallsSo, GatewayReads, ReadsBoth}
use Rattle.sm_gateway.specs.steps.Reading.{RepliesSo, Stands, TellsFor, WasAsked, with_number}
use Rattle.sm_gateway.proofs.GatewayLaws.{asks_so, operation_other_way, other_way, replies_so, served_at_both}
use Rattle.sm_gateway.proofs.HeadsTowards.{answers_towards, response_admitted}
use Rattle.sm_gateway.proofs.MessagesBegun.{one_asked_for, same_empty}
use Rattle.sm_gateway.proofs.RefusalsSaid.{is_said, said_is}
use Rattle.sm_gateway.proofs.ValuesRead.{ReadValue, value_read}

-- a request that is fed
pub all_of_request : (both : BothSpoken) (g : GatewayData) (test : Test) (body : ProtocolBody)
    → HasReadRequest (GatewayReads both g test (Request body))
    → HasAll (ProtocolBegun both.front g.service test a_request body)
all_of_request both g test body (m, (none, admits, begun)) =
    (m.head, m.body, subst (λ b. ProtocolBegun both.front g.service test a_request body m.head b m.body) (same_empty m.body) begun)

pub request_finished : (both : BothSpoken) (g : GatewayData) (test : Test) (body : ProtocolBody)
    (result : Result (ℕ × Value) MessageRefusal)
    → OfAll (ProtocolBegun both.front g.service test a_request body)
    (λ head bytes. AnswersRequest (MessageAnswers (front_form g) g.service test a_request head bytes) result)
    → (m : Message) → GatewayReads both g test (Request body) (begun_for None m) m.body
    → AnswersRequest (AnsweredAs g test None m.head m.body) result
request_finished both g test body result all m (none, admits, begun) =
    request_more (MessageAnswers (front_form g) g.service test a_request m.head m.body) (AnsweredAs g test None m.head m.body)
    (λ a x. answers_towards (front_form g) (back_form g) g.service test a_request m.head m.body a admits x) result
    (all m.head m.body (subst (λ b. ProtocolBegun both.front g.service test a_request body m.head b m.body) (same_empty m.body) begun))

-- one that was refused at its head, and the back's answer that was
pub request_refused : (both : BothSpoken) (g : GatewayData) (test : Test) (refusal : MessageRefusal) (m : Message)
    → GatewayReads both g test (Refused refusal) (begun_for None m) m.body
    → RefusedAs (λ r. AnsweredAs g test None m.head m.body (the_refusal r)) refusal
request_refused both g test refusal m (unasked, r, said, stays_so) =
    is_said (λ k. AnsweredAs g test None m.head m.body (the_refusal k)) refusal r said (stays_so m.body (sym (same_empty m.body)))

pub reply_refused_whole : (both : BothSpoken) (g : GatewayData) (test : Test) (refusal : MessageRefusal) (m said : Message)
    → GatewayReads both g test (Refused refusal) (begun_for (Some m) said) said.body
    → AnswersReply g test m said (Err refusal)
reply_refused_whole both g test refusal m said (asked, r, told, stays_so) = (
  asked,
  is_said (λ k. AnsweredAs g test (Some m) said.head said.body (the_refusal k)) refusal r told
      (stays_so said.body (sym (same_empty said.body))),
)

-- a request is none of the back's answers, and none of these is a request
pub reply_unasked : (both : BothSpoken) (g : GatewayData) (test : Test) (o : ℕ) (body : ProtocolBody)
    → HasReadRequest (GatewayReads both g test (Reply o body)) → ⊥
reply_unasked both g test o body (m, (request, some, asked, begun)) = absurd cc

pub request_asked_of : (both : BothSpoken) (g : GatewayData) (test : Test) (body : ProtocolBody)
    → HasReadReply (GatewayReads both g test (Request body)) → ⊥
request_asked_of both g test body (m, said, (none, admits, begun)) = absurd cc

-- the back's answer that is fed
pub all_of_reply : (both : BothSpoken) (g : GatewayData) (test : Test) (o : ℕ) (body : ProtocolBody)
    → HasReadReply (GatewayReads both g test (Reply o body))
    → (p : ℕ) × HasAll (ProtocolBegun both.back g.service test (a_response p) body)
all_of_reply both g test o body (m, said, (request, same, asked, begun)) =
    let all = subst (λ b. ProtocolBegun both.back g.service test (a_response o) body said.head b said.body) (same_empty said.body) begun in
    (o, (said.head, said.body, all))

pub reply_finished : (both : BothSpoken) (g : GatewayData) (test : Test) → ServesBoth g test → ReadsBoth g → (o : ℕ) (body : ProtocolBody)
    (result : Result MessageReply MessageRefusal)
    → OfAll (ProtocolBegun both.back g.service test (a_response o) body)
    (λ head bytes. AnswersResponse o (MessageAnswers (back_form g) g.service test (a_response o) head bytes) result)
    → (m said : Message) → GatewayReads both g test (Reply o body) (begun_for (Some m) said) said.body
    → AnswersReply g test m said (with_number o result)
reply_finished both g test serves reads o body result all m said (request, same, asked, begun) =
    by result (all said.head said.body
    (subst (λ b. ProtocolBegun both.back g.service test (a_response o) body said.head b said.body) (same_empty said.body) begun))
  where
    own : WasAsked g test o m
    own = subst (λ k. WasAsked g test o k) (sym (same_Some m request same)) asked

    across : (a : MessageAnswer) → MessageAnswers (back_form g) g.service test (a_response o) said.head said.body a
        → MessageAnswers (towards (back_form g) (front_form g)) g.service test (a_response o) said.head said.body a
    across a x =
        answers_towards (back_form g) (front_form g) g.service test (a_response o) said.head said.body a
        (response_admitted (back_form g) (front_form g) g.service o said.head) x

    by : (r : Result MessageReply MessageRefusal)
        → AnswersResponse o (MessageAnswers (back_form g) g.service test (a_response o) said.head said.body) r
        → AnswersReply g test m said (with_number o r)
    by (Ok reply) x = (own, across _ x)
    by (Err refusal) x = (
      (o, own),
      refused_more (λ r. MessageAnswers (back_form g) g.service test (a_response o) said.head said.body (the_refusal r))
          (λ r. AnsweredAs g test (Some m) said.head said.body (the_refusal r))
          (λ r y p other. subst (λ k. MessageAnswers (towards (back_form g) (front_form g)) g.service test (a_response k) said.head
          said.body (the_refusal r)) (one_asked_for g test serves reads m o p own other) (across (the_refusal r) y)) refusal x,
    )

-- a value of a request is put to the back, or that it isn't carried is answered
pub request_comes : (g : GatewayData) (test : Test) (m : Message) (o : ℕ) (v : Val) (before now : List ℕ) (turn : Turn GatewayCall)
    → AnsweredAs g test None m.head m.body (the_value (goal_of o the_input) v)
    → AsksFor (back_form g) g.service g.host (goal_of o the_input) v before now (Ok turn)
    → ComesTo (GatewayAsks g test) (CallsSo g test) m before now turn
request_comes g test m o v before now (Asking call) x (none, is, number) =
    let goal = goal_of o the_input in
    let far = (back_form g).written g.service goal g.host v in
    let crossed = written_across goal v x none refl in (
      written far,
      record { crossing = crosses goal far; crossed = crossed; same = refl },
      is,
      (goal, far, crossed, sym number),
    )
request_comes g test m o v before now (Answered a) x (path, more, are, is) = record {
  crossing = stays (by_fault path NotCarried);
  crossed = not_carried (goal_of o the_input) v path more x are refl;
  same = ap answered is;
}

-- and so is why it is refused
pub request_answered : (g : GatewayData) (test : Test) (m a : Message) (refusal : MessageRefusal) (r : Refusal) → IsSaid refusal r
    → a ≡ refusal_answer r → RefusedAs (λ k. AnsweredAs g test None m.head m.body (the_refusal k)) refusal
    → GatewayAsks g test m (answered a)
request_answered g test m a refusal r said is x = record {
  crossing = stays r;
  crossed = refused r (said_is (λ k. AnsweredAs g test None m.head m.body (the_refusal k)) refusal r said x) refl;
  same = ap answered is;
}

-- a value of the back's answer is told to the front, or that it isn't carried
pub reply_comes : (g : GatewayData) (test : Test) (m said a : Message) (o : ℕ) (h : Goal) (v : Val) → WasAsked g test o m
    → MessageAnswers (towards (back_form g) (front_form g)) g.service test (a_response o) said.head said.body (the_value h v)
    → TellsFor (front_form g) g.service g.host h v (Ok a) → GatewayReplies g test m said a
reply_comes g test m said a o h v (goal, far, request, at) x (inl (none, is)) = record {
  goal = goal;
  far = far;
  request = request;
  crossing = crosses h ((front_form g).written g.service h g.host v);
  crossed = subst (λ k. ResponseCrosses g test k said (crosses h ((front_form g).written g.service h g.host v))) (sym at)
      (written_across h v x none refl);
  same = is;
}
reply_comes g test m said a o h v (goal, far, request, at) x (inr (path, more, are, is)) = record {
  goal = goal;
  far = far;
  request = request;
  crossing = stays (by_fault path NotCarried);
  crossed = subst (λ k. ResponseCrosses g test k said (stays (by_fault path NotCarried))) (sym at)
      (not_carried h v path more x are refl);
  same = is;
}

pub reply_answered : (g : GatewayData) (test : Test) (m said a : Message) (refusal : MessageRefusal) (r : Refusal) → IsSaid refusal r
    → a ≡ back_refusal_answer r → AnswersReply g test m said (Err refusal) → GatewayReplies g test m said a
reply_answered g test m said a refusal r told is ((o, (goal, far, request, at)), x) = record {
  goal = goal;
  far = far;
  request = request;
  crossing = stays r;
  crossed = refused r (said_is (λ k. AnsweredAs g test (Some m) said.head said.body (the_refusal k)) refusal r told x goal.operation
      (goal, far, request, refl)) refl;
  same = is;
}

-- what was asked is for an operation that both ends serve
pub asked_served : (g : GatewayData) (test : Test) → ServesBoth g test → ReadsBoth g → (o : ℕ) (m : Message) → WasAsked g test o m
    → ServesAtBoth g o
asked_served g test serves reads o m (goal, far, crossed, at) =
    subst (λ k. ServesAtBoth g k) at (served_at_both g test serves reads m far goal crossed)

-- the value of a request, and of the back's answer to one
pub request_value : (g : GatewayData) (test : Test) → ServesBoth g test → ReadsBoth g → (m : Message) (goal : Goal) (v : Val)
    → AnsweredAs g test None m.head m.body (the_value goal v)
    → ReadValue (front_form g) (back_form g) g.service test a_request m goal v
request_value g test serves reads m goal v x =
    value_read (front_form g) (back_form g) reads.front g.service test a_request m goal v serves tt x

pub reply_value : (g : GatewayData) (test : Test) → ServesBoth g test → ReadsBoth g → (o : ℕ) (m said : Message) (h : Goal) (v : Val)
    → WasAsked g test o m
    → MessageAnswers (towards (back_form g) (front_form g)) g.service test (a_response o) said.head said.body (the_value h v)
    → ReadValue (back_form g) (front_form g) g.service test (a_response o) said h v
reply_value g test serves reads o m said h v asked x =
    value_read (back_form g) (front_form g) reads.back g.service test (a_response o) said h v
    (other_way (front_form g) (back_form g) g.service test serves)
    (operation_other_way (front_form g) (back_form g) g.service o (asked_served g test serves reads o m asked)) x

so_comes : (g : GatewayData) (test : Test) → Stands g test → (m : Message) (before now : List ℕ) (turn : Turn GatewayCall)
    → ComesTo (GatewayAsks g test) (CallsSo g test) m before now turn
    → ComesTo (AsksSo g test) (CallsSo g test) m before now turn
so_comes g test stands m before now (Asking call) (text, asked, is, called) =
    (text, asks_so g test stands m (asks text) asked, is, called)
so_comes g test stands m before now (Answered a) x = asks_so g test stands m (answered a) x

-- so a request is finished whose value was put to the back, or of which it was told why it isn't
pub request_asked : (both : BothSpoken) (g : GatewayData) (test : Test) → Stands g test
    → (body : GatewayBody) (o : ℕ) (v : Value) (before now : List ℕ)
    (result : Result (Turn GatewayCall) NoMemory)
    → ((m : Message) → GatewayReads both g test body (begun_for None m) m.body
    → AnswersRequest (AnsweredAs g test None m.head m.body) (Ok (o, v)))
    → AsksFor (back_form g) g.service g.host (goal_of o the_input) (val_of v) before now result
    → FinishesRequest (AsksSo g test) (CallsSo g test) (GatewayReads both g test body) before now result
request_asked both g test stands body o v before now (Ok turn) answers way =
    λ m reads. so_comes g test stands m before now turn (request_comes g test m o (val_of v) before now turn (answers m reads) way)
request_asked both g test stands body o v before now (Err refusal) answers way = tt

pub request_stays : (both : BothSpoken) (g : GatewayData) (test : Test) → Stands g test
    → (body : GatewayBody) (refusal : MessageRefusal) (a : Message) (before now : List ℕ)
    → ((m : Message) → GatewayReads both g test body (begun_for None m) m.body
    → AnswersRequest (AnsweredAs g test None m.head m.body) (Err refusal))
    → ((r : Refusal) × IsSaid refusal r × (a ≡ refusal_answer r))
    → FinishesRequest (AsksSo g test) (CallsSo g test) (GatewayReads both g test body) before now
    (Ok (Answered a))
request_stays both g test stands body refusal a before now answers (r, said, is) =
    λ m reads. asks_so g test stands m (answered a) (request_answered g test m a refusal r said is (answers m reads))

-- and the back's answer whose value was told to the front, or of which it was told why it isn't
pub reply_told : (both : BothSpoken) (g : GatewayData) (test : Test) → Stands g test → (body : GatewayBody) (o : ℕ) (reply : MessageReply)
    (result : Result Message NoMemory)
    → ((m said : Message) → GatewayReads both g test body (begun_for (Some m) said) said.body → AnswersReply g test m said (Ok (o, reply)))
    → TellsFor (front_form g) g.service g.host (goal_of o (reply_role reply)) (reply_val reply) result
    → FinishesReply (RepliesSo g test) (GatewayReads both g test body) result
reply_told both g test stands body o reply (Ok a) answers tells =
    λ m said reads.
    let told = answers m said reads in
    replies_so g test stands m said a
    (reply_comes g test m said a o (goal_of o (reply_role reply)) (reply_val reply) told.0 told.1 tells)
reply_told both g test stands body o reply (Err refusal) answers tells = tt

pub reply_stays : (both : BothSpoken) (g : GatewayData) (test : Test) → Stands g test → (body : GatewayBody) (refusal : MessageRefusal)
    (result : Result Message NoMemory)
    → ((m said : Message) → GatewayReads both g test body (begun_for (Some m) said) said.body → AnswersReply g test m said (Err refusal))
    → IfOk result (λ a. (r : Refusal) × IsSaid refusal r × (a ≡ back_refusal_answer r))
    → FinishesReply (RepliesSo g test) (GatewayReads both g test body) result
reply_stays both g test stands body refusal (Ok a) answers (r, told, is) =
    λ m said reads. replies_so g test stands m said a (reply_answered g test m said a refusal r told is (answers m said reads))
reply_stays both g test stands body refusal (Err out_of_memory) answers told = tt
