-- What is written for a reply, whichever it is.
use Rattle.std.proofs.Common.{◌≡◌, ◌≤◌, ℕ, false, List, [], ◌∷◌, length, refl, ap, arith}
use Rattle.sm_shapes.specs.ValueView.{each_field_view}
use Rattle.sm_shapes.specs.Values.{fields_of}
use Rattle.sm_shapes.specs.declared.values.Value.{Value}
use Rattle.sm_messages.specs.Answers.{reply_role, reply_val}
use Rattle.sm_messages.specs.Goals.{goal_of}
use Rattle.sm_messages.specs.TreeBodies.{status_of}
use Rattle.sm_messages.specs.WrittenHeads.{written_response}
use Rattle.sm_messages.specs.declared.reply.Reply.{Reply}
use Rattle.sm_messages.specs.declared.reply.Reply.TheVariants.{Error, Output}
use Rattle.sm_service.specs.ServiceData.{ServiceData}
use Rattle.sm_rpc.specs.Heads.{cbor_type, protocol_field}
use Rattle.sm_rpc.specs.Messages.{body_of, has_nothing, rpc_written}

pub reply_written : (s : ServiceData) (o : ℕ) (reply : Reply) (host body : List ℕ)
    → body ≡ body_of s (goal_of o (reply_role reply)) (reply_val reply)
    → written_response (status_of s (goal_of o (reply_role reply))) cbor_type (protocol_field ∷ []) body
    ≡ rpc_written s (goal_of o (reply_role reply)) host (reply_val reply)
reply_written s o (Output v) host body e =
    ap (λ b. written_response (status_of s (goal_of o (reply_role (Output v)))) cbor_type (protocol_field ∷ []) b) e
reply_written s o (Error place v) host body e =
    ap (λ b. written_response (status_of s (goal_of o (reply_role (Error place v)))) cbor_type (protocol_field ∷ []) b) e

-- some fields aren't none
pub filled : (xs : List (ℕ × Value)) → 1 ≤ length xs → false ≡ has_nothing (fields_of (each_field_view xs))
filled [] some = absurd (omega (arith, some))
filled (x ∷ xs) some = refl
