-- What the calls of a protocol answer stands for.
use Rattle.std.specs.Prelude.{ℕ, Result, Ok, Err}
use Rattle.sm_shapes.specs.Values.{Val}
use Rattle.sm_shapes.specs.ValueView.{val_of}
use Rattle.sm_shapes.specs.declared.values.Value.{Value}
use Rattle.sm_messages.specs.Goals.{Role, goal_of, the_error, the_input, the_output}
use Rattle.sm_messages.specs.HeadAnswers.{HeadRefusal, not_served, unknown_error, unknown_operation, wrong_media_type, wrong_protocol}
use Rattle.sm_messages.specs.MessageAnswers.{MessageAnswer, Refusal, by_fault, by_head, by_syntax, the_refusal, the_value}
use Rattle.sm_messages.specs.declared.reply.Reply.{Reply}
use Rattle.sm_messages.specs.declared.reply.Reply.TheVariants.{Error, Output}
use Rattle.sm_messages.specs.declared.refusal.MessageRefusal.{MessageRefusal}
use Rattle.sm_messages.specs.declared.refusal.MessageRefusal.TheVariants.{Fault, MediaType, NoMemory, Protocol, Syntax, UnknownError}
use Rattle.sm_messages.specs.declared.refusal.MessageRefusal.TheVariants.{UnknownOperation, Unserved}

-- where a reply goes, and its value
abbrev pub reply_role : Reply → Role
reply_role (Output v) = the_output
reply_role (Error e v) = the_error e

abbrev pub reply_val : Reply → Val
reply_val (Output v) = val_of v
reply_val (Error e v) = val_of v

-- the refusal is one of which this holds, unless it is memory
abbrev pub RefusedAs : (Refusal → Type 0) → MessageRefusal → Type 0
RefusedAs is Protocol = is (by_head wrong_protocol)
RefusedAs is UnknownOperation = is (by_head unknown_operation)
RefusedAs is (Unserved path) = is (by_head (not_served path))
RefusedAs is MediaType = is (by_head wrong_media_type)
RefusedAs is UnknownError = is (by_head unknown_error)
RefusedAs is (Syntax refusal) = is (by_syntax refusal)
RefusedAs is (Fault f) = is (by_fault f.path f.kind)
RefusedAs is NoMemory = Unit {0}

-- and it is told at the head
abbrev pub AtHead : (HeadRefusal → Type 0) → Refusal → Type 0
AtHead is (by_head r) = is r
AtHead is (by_syntax r) = ⊥
AtHead is (by_fault path kind) = ⊥

-- a request has this answer: the number of its operation, and its value
abbrev pub AnswersRequest : (MessageAnswer → Type 0) → Result (ℕ × Value) MessageRefusal → Type 0
AnswersRequest is (Ok asked) = is (the_value (goal_of asked.0 the_input) (val_of asked.1))
AnswersRequest is (Err refusal) = RefusedAs (λ r. is (the_refusal r)) refusal

-- the response to an operation
abbrev pub AnswersResponse : ℕ → (MessageAnswer → Type 0) → Result Reply MessageRefusal → Type 0
AnswersResponse o is (Ok reply) = is (the_value (goal_of o (reply_role reply)) (reply_val reply))
AnswersResponse o is (Err refusal) = RefusedAs (λ r. is (the_refusal r)) refusal
