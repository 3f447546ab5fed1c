-- What isn't carried of a value, told by the side of its message, is what isn't carried of it for its goal.
use Rattle.std.proofs.Common.{◌≡◌, ℕ, true, false, List, Option, None, Ok, Err, refl, sym, ap}
use Rattle.std.specs.Prelude.{◌<◌, IfOk, Result, length}
use Rattle.sm_bytes.specs.declared.no_memory.NoMemory.{NoMemory}
use Rattle.sm_tree.specs.declared.path.Step.{Step}
use Rattle.sm_shapes.specs.Fitting.{Fits, any_text}
use Rattle.sm_shapes.specs.Values.{Val}
use Rattle.sm_codec.specs.Encoded.{first_path}
use Rattle.sm_http.specs.declared.message.MessageSide.{MessageSide}
use Rattle.sm_http.specs.declared.message.MessageSide.TheVariants.{Request, Response}
use Rattle.sm_awsjson.specs.service.ServiceData.{ServiceData}
use Rattle.sm_awsjson.specs.messages.Answers.{reply_role, reply_val}
use Rattle.sm_awsjson.specs.messages.Carrying.{IsValueOf, TellsCarried, TellsFirst}
use Rattle.sm_awsjson.specs.messages.Goals.{Goal, HasGoal, Role, goal_of, is_input, the_input}
use Rattle.sm_awsjson.specs.messages.TreeBodies.{goal_place}
use Rattle.sm_awsjson.specs.messages.declared.reply.Reply.{Reply}
use Rattle.sm_awsjson.specs.messages.declared.reply.Reply.TheVariants.{Error, Output}

-- where it is carried there is no path
pub none_told : (uncarried : Goal → Val → List (List Step)) (s : ServiceData) (o : ℕ) (side : MessageSide) (v : Val)
    → TellsCarried uncarried s o side v true → TellsFirst uncarried s o side v None
none_told uncarried s o side v told role of = sym (ap first_path ((told role of).0 refl))

-- an input is a value of its operation's requests, and a reply's is one of its responses
pub input_on : (s : ServiceData) (o : ℕ) (v : Val) → o < length s.operations → Fits s.table any_text (goal_place s (goal_of o the_input)) v
    → IsValueOf s o Request v the_input
input_on s o v number fits = record { on_side = refl; goal = (number, tt); fits = fits }

reply_side : (reply : Reply) → is_input (reply_role reply) ≡ false
reply_side (Output v) = refl
reply_side (Error e v) = refl

pub reply_on : (s : ServiceData) (o : ℕ) (reply : Reply) → HasGoal s (goal_of o (reply_role reply))
    → Fits s.table any_text (goal_place s (goal_of o (reply_role reply))) (reply_val reply)
    → IsValueOf s o Response (reply_val reply) (reply_role reply)
reply_on s o reply goal fits = record { on_side = reply_side reply; goal = goal; fits = fits }

pub first_of : (uncarried : Goal → Val → List (List Step)) (s : ServiceData) (o : ℕ) (side : MessageSide) (v : Val) (role : Role)
    (result : Result (Option (List Step)) NoMemory) → IsValueOf s o side v role
    → IfOk result (λ path. TellsFirst uncarried s o side v path) → IfOk result (λ path. path ≡ first_path (uncarried (goal_of o role) v))
first_of uncarried s o side v role (Ok path) of told = told role of
first_of uncarried s o side v role (Err refusal) of told = tt
