-- What is written for a reply, whichever it is.
use Rattle.std.proofs.Common.{◌≡◌, ℕ, List, [], refl, ap}
use Rattle.sm_messages.specs.Answers.{reply_role, reply_val}
use Rattle.sm_messages.specs.Goals.{goal_of}
use Rattle.sm_messages.specs.TreeBodies.{status_of}
use Rattle.sm_messages.specs.WrittenHeads.{written_response}
use Rattle.sm_messages.specs.declared.reply.Reply.{Reply}
use Rattle.sm_messages.specs.declared.reply.Reply.TheVariants.{Error, Output}
use Rattle.sm_service.specs.ServiceData.{ServiceData}
use Rattle.sm_awsjson.specs.Heads.{json_type, type_told}
use Rattle.sm_awsjson.specs.Messages.{aws_written, body_of}
use Rattle.sm_awsjson.specs.declared.version.AwsVersion.{AwsVersion}
use Rattle.sm_awsjson.specs.declared.version.AwsVersion.TheVariants.{V10, V11}

pub none_told : (version : AwsVersion) → [] ≡ type_told version []
none_told V10 = refl
none_told V11 = refl

pub reply_written : (version : AwsVersion) (s : ServiceData) (o : ℕ) (reply : Reply) (host body : List ℕ)
    → body ≡ body_of version s (goal_of o (reply_role reply)) (reply_val reply)
    → written_response (status_of s (goal_of o (reply_role reply))) (json_type version) [] body
    ≡ aws_written version s (goal_of o (reply_role reply)) host (reply_val reply)
reply_written version s o (Output v) host body e =
    ap (λ b. written_response (status_of s (goal_of o (reply_role (Output v)))) (json_type version) [] b) e
reply_written version s o (Error place v) host body e =
    ap (λ b. written_response (status_of s (goal_of o (reply_role (Error place v)))) (json_type version) [] b) e
