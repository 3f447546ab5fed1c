-- What a body of restJson1 by pieces stands for: where it is begun, behind a piece, and where all its bytes have come.
use Rattle.std.proofs.Common.{arith, ◌≡◌, ◌≤◌, ◌+◌, ◌*◌, ℕ, Bool, true, false, List, [], ◌++◌, length, None, Some, refl, sym, ap, ◌∙◌, subst}
use Rattle.std.specs.Prelude.{Err, IsTrue, Ok, Option, Result}
use Rattle.sm_tree.specs.Limits.{most_levels}
use Rattle.sm_tree.specs.OpenLevels.{KindsAreLevels, OpensNoMore}
use Rattle.sm_tree.specs.Sources.{ReadCompletes}
use Rattle.sm_tree.specs.TimingLaws.{BeginsTrees, HasFewEvents, TimesTexts}
use Rattle.sm_json.specs.JsonText.{JsonText}
use Rattle.sm_json.specs.Stands.{json_source}
use Rattle.sm_json.specs.Timing.{json_timing}
use Rattle.sm_json.specs.declared.pieces.JsonReader.{JsonReader}
use Rattle.sm_shapes.specs.Fitting.{Test}
use Rattle.sm_shapes.specs.InOrder.{AreStored, DefaultsPass, most_defaults}
use Rattle.sm_shapes.specs.declared.values.Value.{Value}
use Rattle.sm_codec.specs.Bound.{KeptIsBounded}
use Rattle.sm_codec.specs.DecodingView.{decoding_of}
use Rattle.sm_codec.specs.declared.decoder.Decoder.{Decoder}
use Rattle.sm_bodies.proofs.BodiesFed.{held_few, held_shallow}
use Rattle.sm_bounds.specs.FewHeld.{HasReceived}
use Rattle.sm_bounds.proofs.ReceivedFew.{as_long}
use Rattle.sm_http.specs.declared.message.Head.{Head}
use Rattle.sm_http.specs.declared.message.Message.{Message}
use Rattle.sm_rest.specs.service.ServiceData.{ServiceData}
use Rattle.sm_rest.specs.messages.Answers.{AnswersRequest, AnswersResponse, AtHead, RefusedAs}
use Rattle.sm_rest.specs.messages.Begun.{operation_of}
use Rattle.sm_rest.specs.messages.Goals.{Asked, a_request, a_response, goal_of, the_input, the_output}
use Rattle.sm_rest.specs.messages.HeadAnswers.{Address, HeadAnswer, IsJudged, IsNamed, addressed, of_request, of_response, refused_at_head}
use Rattle.sm_rest.specs.messages.HeadAnswers.{request_answer, response_answer, to_goal, to_named_error}
use Rattle.sm_rest.specs.messages.Heads.{is_empty}
use Rattle.sm_rest.specs.messages.IsForm.{ServesOperation}
use Rattle.sm_rest.specs.messages.Judging.{IsOperationNumber, told_answer}
use Rattle.sm_rest.specs.messages.Laws.{MayAsk}
use Rattle.sm_rest.specs.messages.MessageAnswers.{MessageAnswers, Refusal, at_head, by_fault, by_head, by_syntax, the_refusal}
use Rattle.sm_rest.specs.messages.Names.{told_by_head}
use Rattle.sm_rest.specs.messages.Pieces.{BeginsAs, IsLive, MayTake, UnlessMemory, frames_in, nodes_in, number_in}
use Rattle.sm_rest.specs.messages.TreeAnswers.{AnswersGoal}
use Rattle.sm_rest.specs.messages.declared.refusal.MessageRefusal.{MessageRefusal}
use Rattle.sm_rest.specs.messages.declared.reply.Reply.{Reply}
use Rattle.sm_rest.proofs.messages.HeadsJudged.{AddressOf, judged_address, response_of}
use Rattle.sm_rest.proofs.messages.TreeAnswered.{goal_more, out_of_memory, refused_more, request_more, response_more}
use Rattle.sm_rest.specs.bind.BindingsView.{bindings_data, parts_data}
use Rattle.sm_rest.specs.bind.declared.parts.Parts.{Parts}
use Rattle.sm_rest.specs.bind_read.BoundGoals.{bound_at, goal_body}
use Rattle.sm_rest.specs.rest_heads.RestParts.{head_parts, kept_head}
use Rattle.sm_rest.proofs.rest_heads.RoutesAsked.{asked_for, for_within}
use Rattle.sm_rest.specs.RestForm.{rest_form}
use Rattle.sm_rest.specs.RestOf.{IsRestOf}
use Rattle.sm_rest.specs.declared.context.Rest.{Rest}
use Rattle.sm_rest.proofs.RestReads.{rest_reads}
use Rattle.sm_rest_read.specs.Begun.{IsUnread, KeepsBytes, RestBegun, RestFed, RestHeld, TakesRest, fed_role, held_with, rest_codec, rest_state}
use Rattle.sm_rest_read.specs.steps.Contents.{JoinsAt}
use Rattle.sm_rest_read.specs.steps.RestAnswers.{RestAnswers}
use Rattle.sm_rest_read.specs.steps.Starting.{Begins, StartsRest}
use Rattle.sm_rest_read.specs.declared.body.RestBody.{RestBody}
use Rattle.sm_rest_read.specs.declared.body.RestBody.TheVariants.{Failed, Fed, Held}
use Rattle.sm_rest_read.proofs.PlacesJoined.{lawful_there, pass_there}
use Rattle.sm_rest_read.proofs.RestAnswered.{answer_kept, bytes_answers, goal_answers, head_answers, message_of}
use Rattle.sm_rest_read.proofs.RestAnswered.{response_keeps}

-- a body that was begun takes pieces
pub rest_takes : (rest : Rest) (s : ServiceData) (test : Test) (asked : Asked) (body : RestBody) (head : Head) (empty : Bool)
    (bytes : List ℕ) → RestBegun rest s test asked body head empty bytes
    → MayTake json_source (rest_codec rest test) (rest_state body)
rest_takes rest s test asked Failed head empty bytes begun = tt
rest_takes rest s test asked (Held o m dropped) head empty bytes begun = tt
rest_takes rest s test asked (Fed o p r d) head empty bytes begun = (begun.shape, bytes, begun.come)

-- and is one for a message whose head has an address
pub rest_judged : (rest : Rest) (s : ServiceData) (test : Test) (asked : Asked) (body : RestBody) (head : Head) (empty : Bool)
    (bytes : List ℕ) → IsLive (rest_state body) → RestBegun rest s test asked body head empty bytes
    → (there : Address) × IsJudged rest_form s asked head empty (addressed there) × (operation_of there ≡ number_in (rest_state body))
rest_judged rest s test asked Failed head empty bytes live begun = absurd live
rest_judged rest s test asked (Held o m dropped) head empty bytes live begun = (begun.there, begun.judged, begun.operation)
rest_judged rest s test asked (Fed o p r d) head empty bytes live begun = (to_goal (goal_of o (fed_role asked)), begun.judged, refl)

-- behind a piece
bytes_on : (s : ServiceData) (there : Address) (dropped : Bool) (m : Message) (bytes piece : List ℕ) → KeepsBytes s there dropped m.body bytes
    → KeepsBytes s there dropped (held_with dropped m piece).body (bytes ++ piece)
bytes_on s there true m bytes piece h = h
bytes_on s there false m bytes piece h = ap (λ b. b ++ piece) h

head_on : (dropped : Bool) (m : Message) (piece : List ℕ) → (held_with dropped m piece).head ≡ m.head
head_on true m piece = refl
head_on false m piece = refl

pub rest_begun_on : (rest : Rest) (s : ServiceData) (test : Test) (asked : Asked) (head : Head) (empty : Bool) (bytes piece : List ℕ)
    (before behind : RestBody) → TakesRest (rest_codec rest test) before piece behind → RestBegun rest s test asked before head empty bytes
    → RestBegun rest s test asked behind head empty (bytes ++ piece)
rest_begun_on rest s test asked head empty bytes piece Failed behind takes begun = absurd takes
rest_begun_on rest s test asked head empty bytes piece (Held o m dropped) behind takes begun =
    subst (λ b. RestBegun rest s test asked b head empty (bytes ++ piece)) (sym takes) (record {
      there = begun.there;
      judged = begun.judged;
      asks = begun.asks;
      operation = begun.operation;
      keeps = head_on dropped m piece ∙ begun.keeps;
      body = bytes_on s begun.there dropped m bytes piece begun.body;
    })
rest_begun_on rest s test asked head empty bytes piece (Fed o p r d) behind (q, e, same, on) begun =
    subst (λ b. RestBegun rest s test asked b head empty (bytes ++ piece)) (sym same) (record {
      judged = begun.judged;
      asks = begun.asks;
      full = begun.full;
      parts = begun.parts;
      memory = on.0;
      shape = begun.shape;
      body = begun.body;
      come = on.1 begun.shape bytes begun.come;
    })

-- a message that is refused at its head
pub rest_refused : (s : ServiceData) (test : Test) (asked : Asked) (head : Head) (bytes : List ℕ) (e : MessageRefusal)
    → RefusedAs (AtHead (λ r. IsJudged rest_form s asked head (is_empty bytes) (refused_at_head r))) e
    → RefusedAs (λ r. MessageAnswers rest_form s test asked head bytes (the_refusal r)) e
rest_refused s test asked head bytes e h =
    refused_more (AtHead (λ r. IsJudged rest_form s asked head (is_empty bytes) (refused_at_head r)))
    (λ r. MessageAnswers rest_form s test asked head bytes (the_refusal r)) told e h
  where
    told : (r : Refusal) → AtHead (λ r. IsJudged rest_form s asked head (is_empty bytes) (refused_at_head r)) r
        → MessageAnswers rest_form s test asked head bytes (the_refusal r)
    told (by_head r) judged = at_head r judged refl
    told (by_syntax r) none = absurd none
    told (by_fault path kind) none = absurd none

-- what calls on heads answer is what heads come to
pub request_judged : (s : ServiceData) (head : Head) (empty : Bool) (named : Option ℕ) (a : HeadAnswer) → IsNamed rest_form s head named
    → request_answer rest_form s head empty named ≡ a → IsJudged rest_form s a_request head empty a
request_judged s head empty named a is at = of_request named refl refl is (sym at)

pub response_judged : (s : ServiceData) (head : Head) (empty : Bool) (o : ℕ) (a : HeadAnswer) → told_answer s head (told_by_head head) o ≡ a
    → IsJudged rest_form s (a_response o) head empty a
response_judged s head empty o a at = of_response o refl refl (sym at)

pub begins_as : {B : Type 0} (judged : HeadAnswer → Type 0) (begun : B → Type 0) (r : Result B MessageRefusal) → UnlessMemory begun r
    → BeginsAs judged begun r
begins_as judged begun (Ok b) h = h
begins_as judged begun (Err e) h = out_of_memory (AtHead (λ r. judged (refused_at_head r))) e h

-- the operation that a head names is one of the service
pub named_number : (s : ServiceData) (head : Head) (named : Option ℕ) → IsNamed rest_form s head named → IsOperationNumber s named
named_number s head None h = tt
named_number s head (Some o) h = for_within s head o (asked_for s head o h)

-- and is served, where the head has an address
pub request_served : (s : ServiceData) (head : Head) (empty : Bool) (there : Address)
    → IsJudged rest_form s a_request head empty (addressed there)
    → ServesOperation rest_form s (operation_of there) × (there ≡ to_goal (goal_of (operation_of there) the_input))
request_served s head empty there judged =
    let (o, goes, free, at) = (judged_address rest_form rest_reads s a_request head empty there judged).1 in
    let same : o ≡ operation_of there = sym (ap operation_of at) in (
      subst (λ k. ServesOperation rest_form s k) same
          (record { within = for_within s head o (asked_for s head o goes); served = free }),
      at ∙ ap (λ k. to_goal (goal_of k the_input)) same,
    )

pub response_there : (s : ServiceData) (o : ℕ) (head : Head) (empty : Bool) (there : Address)
    → IsJudged rest_form s (a_response o) head empty (addressed there) → AddressOf s o there
response_there s o head empty there judged =
    response_of rest_form s head o there (judged_address rest_form rest_reads s (a_response o) head empty there judged).1

same_operation : (s : ServiceData) (o : ℕ) (there : Address) → AddressOf s o there → operation_of there ≡ o
same_operation s o (to_goal g) at = at.0
same_operation s o (to_named_error p) at = at

-- where it is begun
pub keeps_none : (s : ServiceData) (there : Address) (dropped : Bool) → (IsTrue dropped → IsUnread s there) → KeepsBytes s there dropped [] []
keeps_none s there true h = (h refl, refl)
keeps_none s there false h = refl

held_begun : (rest : Rest) (s : ServiceData) (test : Test) (asked : Asked) (head : Head) (empty : Bool) (there : Address) (m : Message)
    (dropped : Bool) (b : RestBody) → RestHeld s asked head empty [] (operation_of there) m dropped → b ≡ Held (operation_of there) m dropped
    → IsLive (rest_state b) × RestBegun rest s test asked b head empty []
held_begun rest s test asked head empty there m dropped b held at =
    subst (λ x. IsLive (rest_state x) × RestBegun rest s test asked x head empty []) (sym at) (tt, held)

pub begins_held : (rest : Rest) (s : ServiceData) (test : Test) (asked : Asked) (head : Head) (empty : Bool) (there : Address) (m : Message)
    (dropped : Bool) (r : Result RestBody MessageRefusal) → RestHeld s asked head empty [] (operation_of there) m dropped
    → UnlessMemory (λ b. b ≡ Held (operation_of there) m dropped) r → Begins rest s test asked head empty r
begins_held rest s test asked head empty there m dropped (Ok b) held h =
    held_begun rest s test asked head empty there m dropped b held h
begins_held rest s test asked head empty there m dropped (Err e) held h = h

-- what a head has an address for
pub record AskedSo (s : ServiceData) (asked : Asked) (head : Head) (empty : Bool) (o : ℕ) : Type 0 where
  pub judged : IsJudged rest_form s asked head empty (addressed (to_goal (goal_of o (fed_role asked))))
  pub asks : MayAsk rest_form s asked
  pub full : empty ≡ false

fed_begun : (rest : Rest) (s : ServiceData) (test : Test) (asked : Asked) (head : Head) (empty : Bool) (o shape : ℕ) (b : RestBody)
    → AskedSo s asked head empty o → goal_body s (bindings_data rest.bindings) (goal_of o (fed_role asked)) ≡ Some shape
    → StartsRest (bindings_data rest.bindings) o shape (head_parts s (goal_of o (fed_role asked)) head) b
    → IsLive (rest_state b) × RestBegun rest s test asked b head empty []
fed_begun rest s test asked head empty o shape Failed so at starts = absurd starts
fed_begun rest s test asked head empty o shape (Held p m dropped) so at starts = absurd starts
fed_begun rest s test asked head empty o shape (Fed p q r d) so at (same, parts, memory, begun) = (
  tt,
  subst (λ k. RestFed rest s test asked head empty [] k q r d) (sym same) (record {
    judged = so.judged;
    asks = so.asks;
    full = so.full;
    parts = parts;
    memory = memory;
    shape = shape;
    body = at;
    come = begun test;
  }),
)

pub begins_fed : (rest : Rest) (s : ServiceData) (test : Test) (asked : Asked) (head : Head) (empty : Bool) (o shape : ℕ)
    (r : Result RestBody MessageRefusal) → AskedSo s asked head empty o
    → goal_body s (bindings_data rest.bindings) (goal_of o (fed_role asked)) ≡ Some shape
    → UnlessMemory (StartsRest (bindings_data rest.bindings) o shape (head_parts s (goal_of o (fed_role asked)) head)) r
    → Begins rest s test asked head empty r
begins_fed rest s test asked head empty o shape (Ok b) so at h = fed_begun rest s test asked head empty o shape b so at h
begins_fed rest s test asked head empty o shape (Err e) so at h = h

-- all bytes have come of a request
module _ (rest : Rest) (s : ServiceData) (test : Test) (head : Head) (bytes : List ℕ) where
  pub held_request : (o : ℕ) (m : Message) (dropped : Bool) (r : Result (ℕ × Value) MessageRefusal)
      → RestHeld s a_request head (is_empty bytes) bytes o m dropped
      → AnswersRequest (RestAnswers s test (to_goal (goal_of o the_input)) m.head m.body) r
      → AnswersRequest (MessageAnswers rest_form s test a_request head bytes) r
  held_request o m dropped r begun answers =
      let at : begun.there ≡ to_goal (goal_of o the_input) =
      (request_served s head (is_empty bytes) begun.there begun.judged).1 ∙ ap (λ k. to_goal (goal_of k the_input)) begun.operation in
      let there = to_goal (goal_of o the_input) in
      let judged = subst (λ t. IsJudged rest_form s a_request head (is_empty bytes) (addressed t)) at begun.judged in
      let keeps = subst (λ t. KeepsBytes s t dropped m.body bytes) at begun.body in
      request_more (RestAnswers s test there m.head m.body) (MessageAnswers rest_form s test a_request head bytes)
      (λ a h. message_of s test a_request head bytes there a judged
      (bytes_answers s test there head dropped m.body bytes a keeps
      (subst (λ k. RestAnswers s test there k m.body a) begun.keeps h))) r answers

  pub fed_request : (o : ℕ) (p : Parts) (j : JsonReader) (d : Decoder) (v : Result Value MessageRefusal)
      → RestFed rest s test a_request head (is_empty bytes) bytes o p j d
      → JoinsAt (bound_at s (goal_of o the_input)) test (parts_data p) bytes v
      → AnswersGoal (MessageAnswers rest_form s test a_request head bytes) (goal_of o the_input) v
  fed_request o p j d v begun joins =
      let g = goal_of o the_input in
      goal_more (RestAnswers s test (to_goal g) head bytes) (MessageAnswers rest_form s test a_request head bytes)
      (λ a h. message_of s test a_request head bytes (to_goal g) a begun.judged h) g v
      (goal_answers s test (to_goal g) head bytes g v refl
      (subst (λ q. JoinsAt (bound_at s g) test q bytes v) begun.parts joins))

-- and of a response
module _ (rest : Rest) (s : ServiceData) (test : Test) (p : ℕ) (head : Head) (bytes : List ℕ) where
  pub held_operation : (o : ℕ) (m : Message) (dropped : Bool) → RestHeld s (a_response p) head (is_empty bytes) bytes o m dropped → o ≡ p
  held_operation o m dropped begun =
      sym begun.operation
      ∙ same_operation s p begun.there (response_there s p head (is_empty bytes) begun.there begun.judged)

  pub held_response : (o : ℕ) (m : Message) (dropped : Bool) (r : Result Reply MessageRefusal)
      → RestHeld s (a_response p) head (is_empty bytes) bytes o m dropped
      → ((there : Address) → response_answer rest_form s m.head o ≡ addressed there
      → AnswersResponse o (RestAnswers s test there m.head m.body) r)
      → AnswersResponse p (MessageAnswers rest_form s test (a_response p) head bytes) r
  held_response o m dropped r begun answers =
      let same = held_operation o m dropped begun in
      let there = begun.there in
      let own = response_there s p head (is_empty bytes) there begun.judged in
      let told : response_answer rest_form s head p ≡ addressed there =
      (judged_address rest_form rest_reads s (a_response p) head (is_empty bytes) there begun.judged).1 in
      let kept : response_answer rest_form s m.head o ≡ addressed there =
      ap (λ k. response_answer rest_form s k o) begun.keeps ∙ answer_kept s o p head
      ∙ ap (λ k. response_answer rest_form s head k) same ∙ told in
      subst (λ k. AnswersResponse k (MessageAnswers rest_form s test (a_response p) head bytes) r) same
      (response_more (RestAnswers s test there m.head m.body) (MessageAnswers rest_form s test (a_response p) head bytes)
      (λ a h. message_of s test (a_response p) head bytes there a begun.judged
      (head_answers s test (a_response p) there head bytes a (response_keeps s p there head bytes own)
      (bytes_answers s test there (kept_head (a_response p) head) dropped m.body bytes a begun.body
      (subst (λ k. RestAnswers s test there k m.body a) begun.keeps h)))) o r (answers there kept))

  pub fed_operation : (o : ℕ) (q : Parts) (j : JsonReader) (d : Decoder)
      → RestFed rest s test (a_response p) head (is_empty bytes) bytes o q j d → o ≡ p
  fed_operation o q j d begun =
      (response_there s p head (is_empty bytes) (to_goal (goal_of o the_output)) begun.judged).0

  pub fed_response : (o : ℕ) (q : Parts) (j : JsonReader) (d : Decoder) (v : Result Value MessageRefusal)
      → RestFed rest s test (a_response p) head (is_empty bytes) bytes o q j d
      → JoinsAt (bound_at s (goal_of o the_output)) test (parts_data q) bytes v
      → AnswersGoal (MessageAnswers rest_form s test (a_response p) head bytes) (goal_of p the_output) v
  fed_response o q j d v begun joins =
      let g = goal_of o the_output in
      let all = goal_more (RestAnswers s test (to_goal g) head bytes) (MessageAnswers rest_form s test (a_response p) head bytes)
      (λ a h. message_of s test (a_response p) head bytes (to_goal g) a begun.judged h) g v
      (goal_answers s test (to_goal g) head bytes g v refl
      (subst (λ x. JoinsAt (bound_at s g) test x bytes v) begun.parts joins)) in
      subst (λ k. AnswersGoal (MessageAnswers rest_form s test (a_response p) head bytes) (goal_of k the_output) v)
      (fed_operation o q j d begun) all

-- what has come to a body was received by it: where bytes are dropped, none of them is kept
received_bytes : (s : ServiceData) (there : Address) (dropped : Bool) (kept come : List ℕ) → KeepsBytes s there dropped kept come
    → length kept ≤ length come
received_bytes s there true kept come h = let lengths = ap length h.1 in omega (arith, lengths)
received_bytes s there false kept come h = as_long kept come h

pub rest_received : (rest : Rest) (s : ServiceData) (test : Test) (asked : Asked) (head : Head) (empty : Bool) (come : List ℕ) (b : RestBody)
    → RestBegun rest s test asked b head empty come → HasReceived json_source (rest_codec rest test) come (rest_state b)
rest_received rest s test asked head empty come Failed begun = tt
rest_received rest s test asked head empty come (Held o m dropped) begun = received_bytes s begun.there dropped m.body come begun.body
rest_received rest s test asked head empty come (Fed o p r d) begun = (begun.memory, begun.shape, begun.come)

none_few : (n : ℕ) → 0 ≤ n
none_few n = omega arith

-- what a body holds is bounded: the values by its bytes, and the frames by the levels that are read
module _ (rest : Rest) (s : ServiceData) (added : List (List ℕ)) (test : Test) (asked : Asked) (head : Head) (empty : Bool) (bytes : List ℕ)
    (times : TimesTexts JsonText json_timing) (few : HasFewEvents json_timing) (trees : BeginsTrees json_timing)
    (complete : ReadCompletes json_source) (bounds : KeptIsBounded) (are : IsRestOf s rest) (stored : AreStored s.table.patterns added)
    (pass : DefaultsPass s.table test) where
  pub nodes_few : (b : RestBody) → RestBegun rest s test asked b head empty bytes
      → nodes_in (rest_state b) ≤ (1 + most_defaults (bindings_data rest.bindings).documents) * (2 * length bytes)
  nodes_few Failed begun = none_few _
  nodes_few (Held o m dropped) begun = none_few _
  nodes_few (Fed o p r d) begun =
      let kept = bindings_data rest.bindings in
      held_few json_source (rest_codec rest test) begun.shape r d bytes times few trees complete
      (lawful_there s.table kept test are.bindings (pass_there s.table kept added test are.bindings stored pass))
      (bounds (decoding_of d)) begun.memory begun.come

  pub frames_few : OpensNoMore → KindsAreLevels → (b : RestBody) → RestBegun rest s test asked b head empty bytes
      → frames_in (rest_state b) ≤ most_levels + 1
  frames_few opens levels Failed begun = none_few _
  frames_few opens levels (Held o m dropped) begun = none_few _
  frames_few opens levels (Fed o p r d) begun =
      let kept = bindings_data rest.bindings in
      held_shallow json_source (rest_codec rest test) begun.shape r d bytes times few trees complete opens levels
      (lawful_there s.table kept test are.bindings (pass_there s.table kept added test are.bindings stored pass))
      (bounds (decoding_of d)) begun.memory begun.come
