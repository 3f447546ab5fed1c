-- A body of a protocol is the body of its own crate.
use Rattle.std.proofs.Common.{◌≡◌, ℕ, Bool, List, ◌++◌, sym, subst}
use Rattle.std.specs.Prelude.{Result}
use Rattle.sm_json.specs.Stands.{json_source}
use Rattle.sm_cbor.specs.Stands.{cbor_source}
use Rattle.sm_shapes.specs.Fitting.{Test}
use Rattle.sm_shapes.specs.declared.values.Value.{Value}
use Rattle.sm_codec.specs.Conventions.{cbor_convention}
use Rattle.sm_http.specs.declared.message.Head.{Head}
use Rattle.sm_awsjson.specs.service.ServiceData.{ServiceData}
use Rattle.sm_awsjson.specs.messages.Answers.{AnswersRequest, AnswersResponse}
use Rattle.sm_awsjson.specs.messages.Goals.{Asked, a_request, a_response}
use Rattle.sm_awsjson.specs.messages.MessageAnswers.{MessageAnswers}
use Rattle.sm_awsjson.specs.messages.Pieces.{HasAll, MayTake, OfAll}
use Rattle.sm_awsjson.specs.messages.TreeBodies.{tree_codec}
use Rattle.sm_awsjson.specs.messages.declared.refusal.MessageRefusal.{MessageRefusal}
use Rattle.sm_awsjson.specs.messages.declared.reply.Reply.{Reply}
use Rattle.sm_awsjson.specs.Begun.{aws_state}
use Rattle.sm_awsjson.specs.Messages.{aws_convention}
use Rattle.sm_awsjson.specs.declared.body.AwsBody.{AwsBody}
use Rattle.sm_awsjson.specs.declared.version.AwsVersion.TheVariants.{V10, V11}
use Rattle.sm_awsjson.proofs.AwsBodies.{aws_takes}
use Rattle.sm_rest_laws.specs.rest.declared.context.Rest.{Rest}
use Rattle.sm_rest_read.specs.Begun.{rest_codec, rest_state}
use Rattle.sm_rest_read.specs.declared.body.RestBody.{RestBody}
use Rattle.sm_rest_read.proofs.RestBodies.{rest_takes}
use Rattle.sm_rpc.specs.Begun.{rpc_state}
use Rattle.sm_rpc.specs.declared.body.RpcBody.{RpcBody}
use Rattle.sm_rpc.proofs.RpcBodies.{rpc_takes}
use Rattle.sm_protocols.specs.Forms.{form_of}
use Rattle.sm_protocols.specs.Kept.{protocol_of}
use Rattle.sm_protocols.specs.ProtocolBodies.{HoldsFewOn, ProtocolBegun, SomeBegun}
use Rattle.sm_protocols.specs.declared.body.ProtocolBody.{ProtocolBody}
use Rattle.sm_protocols.specs.declared.body.ProtocolBody.TheVariants.{Aws, Rpc, Rest as OfRest}
use Rattle.sm_protocols.specs.declared.spoken.Spoken.{Spoken}
use Rattle.sm_protocols.specs.declared.spoken.Spoken.TheVariants.{AwsJson10, AwsJson11, RestJson1, RpcV2Cbor}

pub some_of : (p q : Spoken) (s : ServiceData) (test : Test) (body b : ProtocolBody) → p ≡ q → body ≡ b → SomeBegun p s test body
    → SomeBegun q s test b
some_of p q s test body b at is x = subst (λ k. SomeBegun q s test k) is (subst (λ r. SomeBegun r s test body) at x)

pub all_of : (p q : Spoken) (s : ServiceData) (test : Test) (asked : Asked) (body b : ProtocolBody) → p ≡ q → body ≡ b
    → HasAll (ProtocolBegun p s test asked body) → HasAll (ProtocolBegun q s test asked b)
all_of p q s test asked body b at is x =
    subst (λ k. HasAll (ProtocolBegun q s test asked k)) is (subst (λ r. HasAll (ProtocolBegun r s test asked body)) at x)

-- a body takes pieces that was begun
pub takes_10 : (s : ServiceData) (test : Test) (b : AwsBody) → SomeBegun AwsJson10 s test (Aws b)
    → MayTake json_source (tree_codec aws_convention s test) (aws_state b)
takes_10 s test b x = aws_takes V10 s test x.0 b x.1 x.2 x.3 x.4

pub takes_11 : (s : ServiceData) (test : Test) (b : AwsBody) → SomeBegun AwsJson11 s test (Aws b)
    → MayTake json_source (tree_codec aws_convention s test) (aws_state b)
takes_11 s test b x = aws_takes V11 s test x.0 b x.1 x.2 x.3 x.4

pub takes_rpc : (s : ServiceData) (test : Test) (b : RpcBody) → SomeBegun RpcV2Cbor s test (Rpc b)
    → MayTake cbor_source (tree_codec cbor_convention s test) (rpc_state b)
takes_rpc s test b x = rpc_takes s test x.0 b x.1 x.2 x.3 x.4

pub takes_rest : (rest : Rest) (s : ServiceData) (test : Test) (b : RestBody) → SomeBegun (RestJson1 rest) s test (OfRest b)
    → MayTake json_source (rest_codec rest test) (rest_state b)
takes_rest rest s test b x = rest_takes rest s test x.0 b x.1 x.2 x.3 x.4

-- what a piece more makes of a body
abbrev pub BegunOn : Spoken → ServiceData → Test → ProtocolBody → ProtocolBody → List ℕ → Type 0
BegunOn p s test old now bytes =
    (asked : Asked) (head : Head) (empty : Bool) (come : List ℕ) → ProtocolBegun p s test asked old head empty come
    → ProtocolBegun p s test asked now head empty (come ++ bytes)

pub on_of : (p q : Spoken) (s : ServiceData) (test : Test) (old now a b : ProtocolBody) (bytes : List ℕ) → p ≡ q → old ≡ a → now ≡ b
    → BegunOn q s test a b bytes → BegunOn p s test old now bytes
on_of p q s test old now a b bytes at is is1 x =
    subst (λ r. BegunOn r s test old now bytes) (sym at)
    (subst (λ k. BegunOn q s test k now bytes) (sym is) (subst (λ k. BegunOn q s test a k bytes) (sym is1) x))

-- and what it holds then
pub few_on_of : (p q : Spoken) (s : ServiceData) (test : Test) (old now a b : ProtocolBody) (bytes : List ℕ) → p ≡ q → old ≡ a → now ≡ b
    → HoldsFewOn q s test a b bytes → HoldsFewOn p s test old now bytes
few_on_of p q s test old now a b bytes at is is1 x =
    subst (λ r. HoldsFewOn r s test old now bytes) (sym at)
    (subst (λ k. HoldsFewOn q s test k now bytes) (sym is) (subst (λ k. HoldsFewOn q s test a k bytes) (sym is1) x))

-- what a message comes to of which all bytes have come
abbrev pub RequestOf : Spoken → ServiceData → Test → ProtocolBody → Result (ℕ × Value) MessageRefusal → Type 0
RequestOf p s test body result =
    OfAll (ProtocolBegun p s test a_request body)
    (λ head bytes. AnswersRequest (MessageAnswers (form_of (protocol_of p)) s test a_request head bytes) result)

pub request_of : (p q : Spoken) (s : ServiceData) (test : Test) (body b : ProtocolBody) (result : Result (ℕ × Value) MessageRefusal)
    → p ≡ q → body ≡ b → RequestOf q s test b result → RequestOf p s test body result
request_of p q s test body b result at is x =
    subst (λ r. RequestOf r s test body result) (sym at) (subst (λ k. RequestOf q s test k result) (sym is) x)

abbrev pub ResponseOf : Spoken → ServiceData → Test → ProtocolBody → Result Reply MessageRefusal → Type 0
ResponseOf p s test body result =
    (o : ℕ) → OfAll (ProtocolBegun p s test (a_response o) body)
    (λ head bytes. AnswersResponse o (MessageAnswers (form_of (protocol_of p)) s test (a_response o) head bytes) result)

pub response_of : (p q : Spoken) (s : ServiceData) (test : Test) (body b : ProtocolBody) (result : Result Reply MessageRefusal)
    → p ≡ q → body ≡ b → ResponseOf q s test b result → ResponseOf p s test body result
response_of p q s test body b result at is x =
    subst (λ r. ResponseOf r s test body result) (sym at) (subst (λ k. ResponseOf q s test k result) (sym is) x)
