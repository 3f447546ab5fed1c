-- Bodies of Smithy RPC v2 CBOR by pieces: they are one tree each, and what is kept of a head has its address.
use Rattle.std.proofs.Common.{◌≡◌, ℕ, Bool, true, List, Option, None, Some, refl}
use Rattle.sm_cbor.specs.Stands.{cbor_source}
use Rattle.sm_shapes.specs.Fitting.{Test}
use Rattle.sm_codec.specs.Conventions.{cbor_convention}
use Rattle.sm_http.specs.declared.message.Head.{Head}
use Rattle.sm_service.specs.ServiceData.{ServiceData}
use Rattle.sm_messages.specs.Answers.{AtHead, RefusedAs}
use Rattle.sm_messages.specs.Goals.{Asked, a_request, a_response, goal_of, goal_shape}
use Rattle.sm_messages.specs.HeadAnswers.{Address, HeadAnswer, IsJudged, IsNamed, addressed, refused_at_head, response_answer}
use Rattle.sm_messages.specs.Heads.{is_empty}
use Rattle.sm_messages.specs.Judging.{asked_answer, told_answer}
use Rattle.sm_messages.specs.MessageAnswers.{MessageAnswers, Refusal, at_head, by_fault, by_head, by_syntax, the_refusal}
use Rattle.sm_messages.specs.Pieces.{MayTake}
use Rattle.sm_messages.specs.TreeBodies.{tree_codec}
use Rattle.sm_messages.specs.TreeForms.{IsTreeForm}
use Rattle.sm_messages.specs.declared.refusal.MessageRefusal.{MessageRefusal}
use Rattle.sm_messages.proofs.BodiesBegun.{judged_request, judged_response, kept_answer}
use Rattle.sm_messages.proofs.TreeAnswered.{refused_more}
use Rattle.sm_rpc.specs.Begun.{RpcBegun, kept_message, rpc_state}
use Rattle.sm_rpc.specs.Heads.{cbor_type, is_marked}
use Rattle.sm_rpc.specs.Messages.{rpc_form}
use Rattle.sm_rpc.specs.declared.body.RpcBody.{RpcBody}
use Rattle.sm_rpc.specs.declared.body.RpcBody.TheVariants.{Failed, Fed, Held}

pub rpc_tree_form : IsTreeForm rpc_form cbor_convention cbor_type
rpc_tree_form = record {
  free = λ s o. refl;
  typed = λ s o. refl;
  body = λ s g empty. refl;
  naming = refl;
  spells = λ s test g head c v h. h;
  faults = λ s test g head c. refl;
}

pub rpc_kept : (s : ServiceData) (o : ℕ) (head : Head) (there : Address) → response_answer rpc_form s head o ≡ addressed there
    → response_answer rpc_form s (kept_message head).head o ≡ addressed there
rpc_kept s o head there at = kept_answer rpc_form s o head (kept_message head).head there refl refl refl at

-- what calls on heads answer that are marked
pub rpc_asked : (s : ServiceData) (head : Head) (empty : Bool) (named : Option ℕ) (a : HeadAnswer) → is_marked head ≡ true
    → IsNamed rpc_form s head named → asked_answer s head empty (Some cbor_type) named ≡ a → IsJudged rpc_form s a_request head empty a
rpc_asked s head empty named a marked is at =
    judged_request rpc_form cbor_convention cbor_type rpc_tree_form s head empty named a marked is at

pub rpc_answered : (s : ServiceData) (head : Head) (empty : Bool) (o : ℕ) (a : HeadAnswer) → is_marked head ≡ true
    → told_answer s head None o ≡ a → IsJudged rpc_form s (a_response o) head empty a
rpc_answered s head empty o a marked at =
    judged_response rpc_form cbor_convention cbor_type rpc_tree_form s head empty o a marked at

-- a body that was begun takes pieces
pub rpc_takes : (s : ServiceData) (test : Test) (asked : Asked) (body : RpcBody) (head : Head) (empty : Bool)
    (bytes : List ℕ) → RpcBegun s test asked body head empty bytes
    → MayTake cbor_source (tree_codec cbor_convention s test) (rpc_state body)
rpc_takes s test asked Failed head empty bytes begun = tt
rpc_takes s test asked (Held o m) head empty bytes begun = tt
rpc_takes s test asked (Fed o r d) head empty bytes begun = (goal_shape s (goal_of o begun.role), bytes, begun.come)

-- a message that is refused at its head
pub rpc_refused : (s : ServiceData) (test : Test) (asked : Asked) (head : Head) (bytes : List ℕ) (e : MessageRefusal)
    → RefusedAs (AtHead (λ r. IsJudged rpc_form s asked head (is_empty bytes) (refused_at_head r))) e
    → RefusedAs (λ r. MessageAnswers rpc_form s test asked head bytes (the_refusal r)) e
rpc_refused s test asked head bytes e h =
    refused_more (AtHead (λ r. IsJudged rpc_form s asked head (is_empty bytes) (refused_at_head r)))
    (λ r. MessageAnswers rpc_form s test asked head bytes (the_refusal r)) told e h
  where
    told : (r : Refusal) → AtHead (λ r. IsJudged rpc_form s asked head (is_empty bytes) (refused_at_head r)) r
        → MessageAnswers rpc_form s test asked head bytes (the_refusal r)
    told (by_head r) judged = at_head r judged refl
    told (by_syntax r) none = absurd none
    told (by_fault path kind) none = absurd none
