-- What the calls of a gateway answer.
use Rattle.std.specs.Prelude.{◌≡◌, ℕ, Bool, Option, None, Some, Result, Ok, Err}
use Rattle.sm_shapes.specs.Fitting.{Test}
use Rattle.sm_http.specs.declared.message.Message.{Message}
use Rattle.sm_protocols.specs.messages.Answers.{RefusedAs}
use Rattle.sm_protocols.specs.messages.Crossings.{crosses, stays}
use Rattle.sm_protocols.specs.messages.Goals.{Goal, goal_of, the_input}
use Rattle.sm_protocols.specs.messages.HeadAnswers.{not_served, unknown_error, unknown_operation, wrong_media_type, wrong_protocol}
use Rattle.sm_protocols.specs.messages.MessageAnswers.{Refusal, by_fault, by_head, by_syntax}
use Rattle.sm_protocols.specs.messages.declared.refusal.MessageRefusal.{MessageRefusal}
use Rattle.sm_protocols.specs.messages.declared.refusal.MessageRefusal.TheVariants.{Fault, MediaType, NoMemory, Protocol, Syntax, UnknownError}
use Rattle.sm_protocols.specs.messages.declared.refusal.MessageRefusal.TheVariants.{UnknownOperation, Unserved}
use Rattle.sm_gateway.specs.GatewayData.{GatewayData}
use Rattle.sm_gateway.specs.GatewayTurns.{RequestCrosses, ResponseCrosses}
use Rattle.sm_gateway.specs.RefusalAnswers.{closing, refusal_answer}
use Rattle.sm_gateway.specs.declared.crossed.Crossed.{Crossed}

-- a request crosses so, or is refused so
abbrev pub CrossesRequest : GatewayData → Test → Message → Result Crossed MessageRefusal → Type 0
CrossesRequest g test m (Ok crossed) = RequestCrosses g test m (crosses (goal_of crossed.operation the_input) crossed.message)
CrossesRequest g test m (Err refusal) = RefusedAs (λ r. RequestCrosses g test m (stays r)) refusal

-- and so the response to an operation
abbrev pub CrossesResponse : GatewayData → Test → ℕ → Message → Result Message MessageRefusal → Type 0
CrossesResponse g test o m (Ok far) = (goal : Goal) × ResponseCrosses g test o m (crosses goal far)
CrossesResponse g test o m (Err refusal) = RefusedAs (λ r. ResponseCrosses g test o m (stays r)) refusal

-- the refusal that a call tells: running out of memory is none
abbrev pub refusal_said : MessageRefusal → Option Refusal
refusal_said Protocol = Some (by_head wrong_protocol)
refusal_said UnknownOperation = Some (by_head unknown_operation)
refusal_said (Unserved path) = Some (by_head (not_served path))
refusal_said MediaType = Some (by_head wrong_media_type)
refusal_said UnknownError = Some (by_head unknown_error)
refusal_said (Syntax refusal) = Some (by_syntax refusal)
refusal_said (Fault f) = Some (by_fault f.path f.kind)
refusal_said NoMemory = None

abbrev pub IsSaid : MessageRefusal → Refusal → Type 0
IsSaid refusal r = refusal_said refusal ≡ Some r

-- the answer to a request that is refused so
abbrev pub AnswersRefusal : MessageRefusal → Bool → Message → Type 0
AnswersRefusal refusal close answer = (r : Refusal) × IsSaid refusal r × (answer ≡ closing close (refusal_answer r))
