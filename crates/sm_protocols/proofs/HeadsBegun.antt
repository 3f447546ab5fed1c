-- A body that was begun by the crate of its protocol is one for an operation of its head.
use Rattle.std.proofs.Common.{◌≡◌, ℕ, Bool, List, [], refl, sym, subst}
use Rattle.sm_tree.specs.Sources.{SourceOf}
use Rattle.sm_json.specs.Stands.{json_source}
use Rattle.sm_cbor.specs.Stands.{cbor_source}
use Rattle.sm_shapes.specs.Fitting.{Test, any_text}
use Rattle.sm_codec.specs.Convention.{Convention}
use Rattle.sm_codec.specs.Conventions.{cbor_convention}
use Rattle.sm_http.specs.declared.message.Head.{Head}
use Rattle.sm_awsjson.specs.service.ServiceData.{ServiceData}
use Rattle.sm_awsjson.specs.messages.Begun.{BegunFor, BodyState, failed, fed, held}
use Rattle.sm_awsjson.specs.messages.Goals.{Asked, a_request, goal_of}
use Rattle.sm_awsjson.specs.messages.HeadAnswers.{to_goal}
use Rattle.sm_awsjson.specs.messages.MessageForm.{MessageForm}
use Rattle.sm_awsjson.specs.messages.Pieces.{IsLive, number_in}
use Rattle.sm_awsjson.specs.Begun.{AwsBegun, aws_state}
use Rattle.sm_awsjson.specs.Messages.{aws_convention, aws_form}
use Rattle.sm_awsjson.specs.declared.body.AwsBody.{AwsBody}
use Rattle.sm_awsjson.specs.declared.version.AwsVersion.{AwsVersion}
use Rattle.sm_rest_laws.specs.rest.RestForm.{rest_form}
use Rattle.sm_rest_laws.specs.rest.declared.context.Rest.{Rest}
use Rattle.sm_rest_read.specs.Begun.{RestBegun, rest_state}
use Rattle.sm_rest_read.specs.declared.body.RestBody.{RestBody}
use Rattle.sm_rest_read.proofs.RestBodies.{rest_judged}
use Rattle.sm_rpc.specs.Begun.{RpcBegun, rpc_state}
use Rattle.sm_rpc.specs.Messages.{rpc_form}
use Rattle.sm_rpc.specs.declared.body.RpcBody.{RpcBody}
use Rattle.sm_protocols.specs.ProtocolBodies.{IsHeadFor}

head_begun : {R : Type 0} (S : SourceOf R) (l : Convention) (f : MessageForm) (s : ServiceData) (test : Test) (asked : Asked) (head : Head)
    (empty : Bool) (bytes : List ℕ) (b : BodyState R) → IsLive b → BegunFor S l f s test asked head empty bytes b
    → IsHeadFor f s asked head empty (number_in b)
head_begun S l f s test asked head empty bytes failed live begun = absurd live
head_begun S l f s test asked head empty bytes (held o m) live begun = (begun.there, begun.judged, begun.operation)
head_begun S l f s test asked head empty bytes (fed o r d) live begun = (to_goal (goal_of o begun.role), begun.judged, refl)

-- where a request is begun, with the number of its operation
pub aws_head : (version : AwsVersion) (s : ServiceData) (head : Head) (empty : Bool) (o : ℕ) (b : AwsBody) → o ≡ number_in (aws_state b)
    → ((test : Test) → IsLive (aws_state b) × AwsBegun version s test a_request b head empty [])
    → IsHeadFor (aws_form version) s a_request head empty o × ((test : Test) → AwsBegun version s test a_request b head empty [])
aws_head version s head empty o b number begun = (
  subst (λ n. IsHeadFor (aws_form version) s a_request head empty n) (sym number)
      (head_begun json_source aws_convention (aws_form version) s any_text a_request head empty [] (aws_state b) (begun any_text).0
      (begun any_text).1),
  λ test. (begun test).1,
)

pub rpc_head : (s : ServiceData) (head : Head) (empty : Bool) (o : ℕ) (b : RpcBody) → o ≡ number_in (rpc_state b)
    → ((test : Test) → IsLive (rpc_state b) × RpcBegun s test a_request b head empty [])
    → IsHeadFor rpc_form s a_request head empty o × ((test : Test) → RpcBegun s test a_request b head empty [])
rpc_head s head empty o b number begun = (
  subst (λ n. IsHeadFor rpc_form s a_request head empty n) (sym number)
      (head_begun cbor_source cbor_convention rpc_form s any_text a_request head empty [] (rpc_state b) (begun any_text).0
      (begun any_text).1),
  λ test. (begun test).1,
)

pub rest_head : (rest : Rest) (s : ServiceData) (head : Head) (empty : Bool) (o : ℕ) (b : RestBody) → o ≡ number_in (rest_state b)
    → ((test : Test) → IsLive (rest_state b) × RestBegun rest s test a_request b head empty [])
    → IsHeadFor rest_form s a_request head empty o × ((test : Test) → RestBegun rest s test a_request b head empty [])
rest_head rest s head empty o b number begun = (
  subst (λ n. IsHeadFor rest_form s a_request head empty n) (sym number)
      (rest_judged rest s any_text a_request b head empty [] (begun any_text).0 (begun any_text).1),
  λ test. (begun test).1,
)
