-- Bodies of AWS JSON by pieces: they are one tree each, and what is kept of a head has its address.
use Rattle.std.proofs.Common.{◌≡◌, ℕ, Bool, true, List, Option, None, Some, refl}
use Rattle.sm_json.specs.Stands.{json_source}
use Rattle.sm_shapes.specs.Fitting.{Test}
use Rattle.sm_http.specs.declared.message.Head.{Head}
use Rattle.sm_service.specs.ServiceData.{ServiceData}
use Rattle.sm_messages.specs.Answers.{AtHead, RefusedAs}
use Rattle.sm_messages.specs.Goals.{Asked, a_request, a_response, goal_of, goal_shape}
use Rattle.sm_messages.specs.HeadAnswers.{Address, HeadAnswer, IsJudged, IsNamed, addressed, refused_at_head, response_answer}
use Rattle.sm_messages.specs.Heads.{is_empty, is_plain}
use Rattle.sm_messages.specs.Judging.{asked_answer, told_answer}
use Rattle.sm_messages.specs.MessageAnswers.{MessageAnswers, Refusal, at_head, by_fault, by_head, by_syntax, the_refusal}
use Rattle.sm_messages.specs.Names.{told_by_head}
use Rattle.sm_messages.specs.Pieces.{MayTake}
use Rattle.sm_messages.specs.TreeBodies.{tree_codec}
use Rattle.sm_messages.specs.TreeForms.{IsTreeForm}
use Rattle.sm_messages.specs.declared.refusal.MessageRefusal.{MessageRefusal}
use Rattle.sm_messages.proofs.BodiesBegun.{judged_request, judged_response, kept_answer}
use Rattle.sm_messages.proofs.TreeAnswered.{refused_more}
use Rattle.sm_awsjson.specs.Begun.{AwsBegun, aws_state, kept_fields, kept_message}
use Rattle.sm_awsjson.specs.Heads.{json_type}
use Rattle.sm_awsjson.specs.Messages.{aws_convention, aws_form}
use Rattle.sm_awsjson.specs.declared.body.AwsBody.{AwsBody}
use Rattle.sm_awsjson.specs.declared.body.AwsBody.TheVariants.{Failed, Fed, Held}
use Rattle.sm_awsjson.specs.declared.version.AwsVersion.{AwsVersion}

pub aws_tree_form : (version : AwsVersion) → IsTreeForm (aws_form version) aws_convention (json_type version)
aws_tree_form version = record {
  free = λ s o. refl;
  typed = λ s o. refl;
  body = λ s g empty. refl;
  naming = refl;
  spells = λ s test g head c v h. h;
  faults = λ s test g head c. refl;
}

pub aws_kept : (version : AwsVersion) (s : ServiceData) (o : ℕ) (head : Head) (there : Address)
    → response_answer (aws_form version) s head o ≡ addressed there
    → response_answer (aws_form version) s (kept_message head).head o ≡ addressed there
aws_kept version s o head there at =
    kept_answer (aws_form version) s o head (kept_message head).head there (plain (told_by_head head)) refl (told (told_by_head head)) at
  where
    plain : (t : Option (List ℕ)) → is_plain (record { start = head.start; fields = kept_fields t }) ≡ true
    plain None = refl
    plain (Some u) = refl

    told : (t : Option (List ℕ)) → told_by_head (record { start = head.start; fields = kept_fields t }) ≡ t
    told None = refl
    told (Some u) = refl

-- what calls on heads answer
pub aws_asked : (version : AwsVersion) (s : ServiceData) (head : Head) (empty : Bool) (named : Option ℕ) (a : HeadAnswer)
    → IsNamed (aws_form version) s head named → asked_answer s head empty (Some (json_type version)) named ≡ a
    → IsJudged (aws_form version) s a_request head empty a
aws_asked version s head empty named a is at =
    judged_request (aws_form version) aws_convention (json_type version) (aws_tree_form version) s head empty named a refl is at

pub aws_answered : (version : AwsVersion) (s : ServiceData) (head : Head) (empty : Bool) (o : ℕ) (a : HeadAnswer)
    → told_answer s head (told_by_head head) o ≡ a → IsJudged (aws_form version) s (a_response o) head empty a
aws_answered version s head empty o a at =
    judged_response (aws_form version) aws_convention (json_type version) (aws_tree_form version) s head empty o a refl at

-- a body that was begun takes pieces
pub aws_takes : (version : AwsVersion) (s : ServiceData) (test : Test) (asked : Asked) (body : AwsBody) (head : Head) (empty : Bool)
    (bytes : List ℕ) → AwsBegun version s test asked body head empty bytes
    → MayTake json_source (tree_codec aws_convention s test) (aws_state body)
aws_takes version s test asked Failed head empty bytes begun = tt
aws_takes version s test asked (Held o m) head empty bytes begun = tt
aws_takes version s test asked (Fed o r d) head empty bytes begun = (goal_shape s (goal_of o begun.role), bytes, begun.come)

-- a message that is refused at its head
pub aws_refused : (version : AwsVersion) (s : ServiceData) (test : Test) (asked : Asked) (head : Head) (bytes : List ℕ) (e : MessageRefusal)
    → RefusedAs (AtHead (λ r. IsJudged (aws_form version) s asked head (is_empty bytes) (refused_at_head r))) e
    → RefusedAs (λ r. MessageAnswers (aws_form version) s test asked head bytes (the_refusal r)) e
aws_refused version s test asked head bytes e h =
    refused_more (AtHead (λ r. IsJudged (aws_form version) s asked head (is_empty bytes) (refused_at_head r)))
    (λ r. MessageAnswers (aws_form version) s test asked head bytes (the_refusal r)) told e h
  where
    told : (r : Refusal) → AtHead (λ r. IsJudged (aws_form version) s asked head (is_empty bytes) (refused_at_head r)) r
        → MessageAnswers (aws_form version) s test asked head bytes (the_refusal r)
    told (by_head r) judged = at_head r judged refl
    told (by_syntax r) none = absurd none
    told (by_fault path kind) none = absurd none
