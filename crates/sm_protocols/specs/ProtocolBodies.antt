-- What the body of a message of a protocol stands for, while its pieces come, and what is answered where one is begun.
use Rattle.std.specs.Prelude.{◌≡◌, ℕ, Bool, List, [], ◌++◌, Result, Ok, Err}
use Rattle.sm_shapes.specs.Fitting.{Test}
use Rattle.sm_shapes.specs.InOrder.{DefaultsPass}
use Rattle.sm_shapes.specs.TableData.{TableData}
use Rattle.sm_http.specs.declared.message.Head.{Head}
use Rattle.sm_awsjson.specs.service.ServiceData.{ServiceData}
use Rattle.sm_awsjson.specs.messages.Answers.{AtHead, RefusedAs}
use Rattle.sm_awsjson.specs.messages.Begun.{operation_of}
use Rattle.sm_awsjson.specs.messages.Goals.{Asked, a_request, a_response}
use Rattle.sm_awsjson.specs.messages.HeadAnswers.{Address, IsJudged, addressed, refused_at_head}
use Rattle.sm_awsjson.specs.messages.MessageForm.{MessageForm}
use Rattle.sm_awsjson.specs.messages.declared.refusal.MessageRefusal.{MessageRefusal}
use Rattle.sm_awsjson.specs.bounds.FewHeld.{HoldsFew}
use Rattle.sm_awsjson.specs.Begun.{AwsBegun, aws_state}
use Rattle.sm_awsjson.specs.declared.version.AwsVersion.TheVariants.{V10, V11}
use Rattle.sm_rest_laws.specs.rest.bind.BindingsView.{bindings_data}
use Rattle.sm_rest_read.specs.Begun.{RestBegun, rest_state}
use Rattle.sm_rpc.specs.Begun.{RpcBegun, rpc_state}
use Rattle.sm_protocols.specs.Forms.{form_of}
use Rattle.sm_protocols.specs.Kept.{protocol_of}
use Rattle.sm_protocols.specs.declared.body.ProtocolBody.{ProtocolBody}
use Rattle.sm_protocols.specs.declared.body.ProtocolBody.TheVariants.{Aws, Rest, Rpc}
use Rattle.sm_protocols.specs.declared.spoken.Spoken.{Spoken}
use Rattle.sm_protocols.specs.declared.spoken.Spoken.TheVariants.{AwsJson10, AwsJson11, RestJson1, RpcV2Cbor}

-- it was begun, by what is kept of the service, for a message of this head, whose body is empty or not, and these bytes have come to it
abbrev pub ProtocolBegun : Spoken → ServiceData → Test → Asked → ProtocolBody → Head → Bool → List ℕ → Type 0
ProtocolBegun AwsJson10 s test asked (Aws b) head empty bytes = AwsBegun V10 s test asked b head empty bytes
ProtocolBegun AwsJson10 s test asked (Rest b) head empty bytes = ⊥
ProtocolBegun AwsJson10 s test asked (Rpc b) head empty bytes = ⊥
ProtocolBegun AwsJson11 s test asked (Aws b) head empty bytes = AwsBegun V11 s test asked b head empty bytes
ProtocolBegun AwsJson11 s test asked (Rest b) head empty bytes = ⊥
ProtocolBegun AwsJson11 s test asked (Rpc b) head empty bytes = ⊥
ProtocolBegun (RestJson1 rest) s test asked (Aws b) head empty bytes = ⊥
ProtocolBegun (RestJson1 rest) s test asked (Rest b) head empty bytes = RestBegun rest s test asked b head empty bytes
ProtocolBegun (RestJson1 rest) s test asked (Rpc b) head empty bytes = ⊥
ProtocolBegun RpcV2Cbor s test asked (Aws b) head empty bytes = ⊥
ProtocolBegun RpcV2Cbor s test asked (Rest b) head empty bytes = ⊥
ProtocolBegun RpcV2Cbor s test asked (Rpc b) head empty bytes = RpcBegun s test asked b head empty bytes

-- some bytes have come to it
abbrev pub SomeBegun : Spoken → ServiceData → Test → ProtocolBody → Type 0
SomeBegun p s test body =
    (asked : Asked) × (head : Head) × (empty : Bool) × (bytes : List ℕ) × ProtocolBegun p s test asked body head empty bytes

-- the table by which what a body holds is read: the service's, and of restJson1 that of the documents that it keeps
abbrev pub body_table : Spoken → ServiceData → TableData
body_table AwsJson10 s = s.table
body_table AwsJson11 s = s.table
body_table (RestJson1 rest) s = (bindings_data rest.bindings).documents
body_table RpcV2Cbor s = s.table

-- what it holds is few, by the bytes that have come
abbrev pub BodyHoldsFew : TableData → List ℕ → ProtocolBody → Type 0
BodyHoldsFew t come (Aws b) = HoldsFew t come (aws_state b)
BodyHoldsFew t come (Rest b) = HoldsFew t come (rest_state b)
BodyHoldsFew t come (Rpc b) = HoldsFew t come (rpc_state b)

-- and so it is behind a piece, by the bytes that came before it and its own
abbrev pub HoldsFewOn : Spoken → ServiceData → Test → ProtocolBody → ProtocolBody → List ℕ → Type 0
HoldsFewOn p s test before now piece =
    (asked : Asked) (head : Head) (empty : Bool) (come : List ℕ) → DefaultsPass s.table test
    → ProtocolBegun p s test asked before head empty come → BodyHoldsFew (body_table p s) (come ++ piece) now

-- the head has an address, which is one of the operation with this number
abbrev pub IsHeadFor : MessageForm → ServiceData → Asked → Head → Bool → ℕ → Type 0
IsHeadFor f s asked head empty o = (there : Address) × IsJudged f s asked head empty (addressed there) × (operation_of there ≡ o)

-- a request is begun for its operation, or refused at its head
abbrev pub BeginsRequest : Spoken → ServiceData → Head → Bool → Result (ℕ × ProtocolBody) MessageRefusal → Type 0
BeginsRequest p s head empty (Ok begun) =
    IsHeadFor (form_of (protocol_of p)) s a_request head empty begun.0
    × ((test : Test) → ProtocolBegun p s test a_request begun.1 head empty [])
BeginsRequest p s head empty (Err refusal) =
    RefusedAs (AtHead (λ r. IsJudged (form_of (protocol_of p)) s a_request head empty (refused_at_head r))) refusal

-- so is the response to an operation
abbrev pub BeginsResponse : Spoken → ServiceData → ℕ → Head → Bool → Result ProtocolBody MessageRefusal → Type 0
BeginsResponse p s o head empty (Ok body) = (test : Test) → ProtocolBegun p s test (a_response o) body head empty []
BeginsResponse p s o head empty (Err refusal) =
    RefusedAs (AtHead (λ r. IsJudged (form_of (protocol_of p)) s (a_response o) head empty (refused_at_head r))) refusal
