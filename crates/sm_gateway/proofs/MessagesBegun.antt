-- What a gateway holds of a message that it began to read.
use Rattle.std.proofs.Common.{◌≡◌, ℕ, Bool, List, [], ◌∷◌, None, Some, Ok, Err, refl, sym, ap, ◌∙◌, subst, inl, inr}
use Rattle.std.specs.Prelude.{IfOk, Result}
use Rattle.sm_bytes.specs.declared.no_memory.NoMemory.{NoMemory}
use Rattle.sm_shapes.specs.Fitting.{Test}
use Rattle.sm_http.specs.declared.message.Head.{Head}
use Rattle.sm_http.specs.declared.message.Message.{Message}
use Rattle.sm_session.specs.Responding.{Begun}
use Rattle.sm_session.specs.Responding.{is_empty as has_no_bytes}
use Rattle.sm_protocols.specs.messages.Crossings.{or_by, towards}
use Rattle.sm_protocols.specs.messages.Goals.{a_request, a_response}
use Rattle.sm_protocols.specs.messages.HeadAnswers.{HeadRefusal, IsJudged, not_served, refused_at_head, wrong_media_type}
use Rattle.sm_protocols.specs.messages.Heads.{is_empty}
use Rattle.sm_protocols.specs.messages.MessageAnswers.{MessageAnswers, at_head, by_head, the_refusal}
use Rattle.sm_protocols.specs.messages.Answers.{AtHead, RefusedAs}
use Rattle.sm_protocols.specs.messages.declared.refusal.MessageRefusal.{MessageRefusal}
use Rattle.sm_protocols.specs.messages.declared.refusal.MessageRefusal.TheVariants.{MediaType}
use Rattle.sm_protocols.specs.ProtocolBodies.{IsHeadFor, ProtocolBegun}
use Rattle.sm_protocols.specs.declared.body.ProtocolBody.{ProtocolBody}
use Rattle.sm_gateway.specs.Answers.{IsSaid}
use Rattle.sm_gateway.specs.GatewayData.{GatewayData, ServesBoth, back_form, front_form}
use Rattle.sm_gateway.specs.declared.body.GatewayBody.{GatewayBody}
use Rattle.sm_gateway.specs.declared.body.GatewayBody.TheVariants.{Refused, Request}
use Rattle.sm_gateway.specs.steps.Reading.{AdmitsBody, BothSpoken, GatewayReads, ReadsBoth, RefusesBody, StaysAtHead, WasAsked}
use Rattle.sm_gateway.proofs.GatewayLaws.{one_request, same_goal}
use Rattle.sm_gateway.proofs.HeadsTowards.{GoesTo, admitted, head_goes, judged_towards, judged_unserved, media_goes, refused_towards}
use Rattle.sm_gateway.proofs.HeadsTowards.{response_admitted, restricted}
use Rattle.sm_gateway.proofs.RefusalsSaid.{at_head_of, said_is}
use Rattle.sm_gateway.proofs.ValuesRead.{near_of}

pub same_empty : (bytes : List ℕ) → has_no_bytes bytes ≡ is_empty bytes
same_empty [] = refl
same_empty (b ∷ bytes) = refl

abbrev request_begun : Head → Bool → Begun
request_begun head empty = record { request = None; head = head; empty = empty }

-- a request for an operation that the front serves: it is admitted, or refused by this path
pub body_admitted : (both : BothSpoken) (g : GatewayData) (test : Test) → ServesBoth g test → ReadsBoth g
    → (head : Head) (empty : Bool) (o : ℕ)
    (x : GoesTo (front_form g) g.service head) → x.operation ≡ o → (body : GatewayBody) (result : Result GatewayBody NoMemory)
    → (or_by ((front_form g).restriction g.service o) ((back_form g).restriction g.service o) ≡ None
    → GatewayReads both g test body (request_begun head empty) [])
    → AdmitsBody (or_by ((front_form g).restriction g.service o) ((back_form g).restriction g.service o)) body result
    → IfOk result (λ now. GatewayReads both g test now (request_begun head empty) [])
body_admitted both g test serves reads head empty o x same body (Err refusal) begun admits = tt
body_admitted both g test serves reads head empty o x same body (Ok now) begun (inl (none, is)) =
    subst (λ b. GatewayReads both g test b (request_begun head empty) []) (sym is) (begun none)
body_admitted both g test serves reads head empty o x same body (Ok now) begun (inr (path, some, is)) =
    let near = front_form g in
    let far = back_form g in
    let at = subst (λ p. or_by (near.restriction g.service p) (far.restriction g.service p) ≡ Some path) (sym same) some in
    let stays : StaysAtHead g test (request_begun head empty) (by_head (not_served path)) = λ bytes e.
    at_head (not_served path)
    (judged_unserved near far g.service head (is_empty bytes) x.operation path x.marked x.goes
    (restricted near far g.service x.operation path x.free at)) refl in
    subst (λ b. GatewayReads both g test b (request_begun head empty) []) (sym is) (tt, by_head (not_served path), refl, stays)

-- where the front has begun to read it
pub front_begun : (both : BothSpoken) (g : GatewayData) (test : Test) → ServesBoth g test → ReadsBoth g
    → (head : Head) (empty : Bool) (o : ℕ)
    (body : ProtocolBody) (result : Result GatewayBody NoMemory) → IsHeadFor (front_form g) g.service a_request head empty o
    → ProtocolBegun both.front g.service test a_request body head empty []
    → AdmitsBody (or_by ((front_form g).restriction g.service o) ((back_form g).restriction g.service o)) (Request body) result
    → IfOk result (λ now. GatewayReads both g test now (request_begun head empty) [])
front_begun both g test serves reads head empty o body result goes_there begun admits =
    let near = front_form g in
    let far = back_form g in
    let (x, same) = head_goes near reads.front g.service head empty o goes_there in
    body_admitted both g test serves reads head empty o x same (Request body) result
    (λ none. (
      refl,
      admitted near far reads.front g.service test (near_of near far g.service test serves) a_request head x.operation x.goes
          (subst (λ p. or_by (near.restriction g.service p) (far.restriction g.service p) ≡ None) (sym same) none),
      begun,
    )) admits

-- where its media type is wrong
pub media_refused : (both : BothSpoken) (g : GatewayData) (test : Test) → ServesBoth g test → ReadsBoth g
    → (head : Head) (empty : Bool) (o : ℕ)
    (result : Result GatewayBody NoMemory) → (front_form g).goes_to g.service head o
    → IsJudged (front_form g) g.service a_request head empty (refused_at_head wrong_media_type)
    → AdmitsBody (or_by ((front_form g).restriction g.service o) ((back_form g).restriction g.service o)) (Refused MediaType) result
    → IfOk result (λ now. GatewayReads both g test now (request_begun head empty) [])
media_refused both g test serves reads head empty o result goes judged admits =
    let near = front_form g in
    let far = back_form g in
    let near_serves = near_of near far g.service test serves in
    let x = media_goes near g.service head empty judged in
    let same = reads.front.one_operation g.service test head x.operation o near_serves x.goes goes in
    body_admitted both g test serves reads head empty o x same (Refused MediaType) result
    (λ none. (
      tt,
      by_head wrong_media_type,
      refl,
      λ bytes e. at_head wrong_media_type
          (judged_towards near far g.service a_request head (is_empty bytes) (refused_at_head wrong_media_type)
          (admitted near far reads.front g.service test near_serves a_request head o goes none)
          (subst (λ b. IsJudged near g.service a_request head b (refused_at_head wrong_media_type)) (sym e) judged)) refl,
    )) admits

-- where it is refused for another reason
pub other_refused : (both : BothSpoken) (g : GatewayData) (test : Test) (head : Head) (empty : Bool) (refusal : MessageRefusal)
    (result : Result GatewayBody NoMemory)
    → ((h : HeadRefusal) → IsSaid refusal (by_head h) → h ≡ wrong_media_type → ⊥)
    → RefusedAs (AtHead (λ r. IsJudged (front_form g) g.service a_request head empty (refused_at_head r))) refusal
    → RefusesBody refusal result → IfOk result (λ now. GatewayReads both g test now (request_begun head empty) [])
other_refused both g test head empty refusal (Err out_of_memory) other refused body = tt
other_refused both g test head empty refusal (Ok now) other refused (r, said, is) =
    let judges : HeadRefusal → Type 0 = λ h. IsJudged (front_form g) g.service a_request head empty (refused_at_head h) in
    let (h, same, judged) = at_head_of judges r (said_is (AtHead judges) refusal r said refused) in
    let other_way = other h (subst (λ k. IsSaid refusal k) same said) in
    let stays : StaysAtHead g test (request_begun head empty) (by_head h) = λ bytes e.
    at_head h
    (refused_towards (front_form g) (back_form g) g.service head (is_empty bytes) h other_way
    (subst (λ b. IsJudged (front_form g) g.service a_request head b (refused_at_head h)) (sym e) judged)) refl in
    subst (λ b. GatewayReads both g test b (request_begun head empty) []) (sym is)
    (tt, r, said, subst (λ k. StaysAtHead g test (request_begun head empty) k) (sym same) stays)

abbrev reply_begun : Message → Head → Bool → Begun
reply_begun m head empty = record { request = Some m; head = head; empty = empty }

-- a request is for one operation
pub one_asked_for : (g : GatewayData) (test : Test) → ServesBoth g test → ReadsBoth g → (m : Message) (o p : ℕ) → WasAsked g test o m
    → WasAsked g test p m → o ≡ p
one_asked_for g test serves reads m o p (goal, far, crossed, at) (other, message, crossed1, at1) =
    sym at ∙ ap (λ k. k.operation) (same_goal goal other far message
    (one_request g test serves reads m _ _ crossed crossed1)) ∙ at1

-- the back's answer is refused at its head
pub reply_refused : (both : BothSpoken) (g : GatewayData) (test : Test) → ServesBoth g test → ReadsBoth g
    → (o : ℕ) (head : Head) (empty : Bool)
    (refusal : MessageRefusal) (result : Result GatewayBody NoMemory)
    → RefusedAs (AtHead (λ r. IsJudged (back_form g) g.service (a_response o) head empty (refused_at_head r))) refusal
    → RefusesBody refusal result
    → IfOk result (λ now. (m : Message) → WasAsked g test o m → GatewayReads both g test now (reply_begun m head empty) [])
reply_refused both g test serves reads o head empty refusal (Err out_of_memory) refused body = tt
reply_refused both g test serves reads o head empty refusal (Ok now) refused (r, said, is) = λ m asked.
    let judges : HeadRefusal → Type 0 = λ h. IsJudged (back_form g) g.service (a_response o) head empty (refused_at_head h) in
    let (h, same, judged) = at_head_of judges r (said_is (AtHead judges) refusal r said refused) in
    let stays : StaysAtHead g test (reply_begun m head empty) (by_head h) = λ bytes e p asked1.
    subst (λ k. MessageAnswers (towards (back_form g) (front_form g)) g.service test (a_response k) head bytes (the_refusal (by_head h)))
    (one_asked_for g test serves reads m o p asked asked1)
    (at_head h
    (judged_towards (back_form g) (front_form g) g.service (a_response o) head (is_empty bytes) (refused_at_head h)
    (response_admitted (back_form g) (front_form g) g.service o head)
    (subst (λ b. IsJudged (back_form g) g.service (a_response o) head b (refused_at_head h)) (sym e) judged)) refl) in
    subst (λ b. GatewayReads both g test b (reply_begun m head empty) []) (sym is)
    ((o, asked), r, said, subst (λ k. StaysAtHead g test (reply_begun m head empty) k) (sym same) stays)
