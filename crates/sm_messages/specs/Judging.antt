-- What functions say of heads, of protocols that serve what their models serve and look up errors in one field at most.
use Rattle.std.specs.Prelude.{◌≡◌, ◌<◌, ℕ, ◌&&◌, Bool, cond, List, Option, None, Some, Result, Ok, Err, length}
use Rattle.sm_compile.specs.declared.compiled.Served.{Served}
use Rattle.sm_http.specs.declared.message.Head.{Head}
use Rattle.sm_service.specs.ServiceData.{OperationData, ServiceData}
use Rattle.sm_messages.specs.Answers.{AtHead, RefusedAs}
use Rattle.sm_messages.specs.Goals.{goal_of, operation_at, the_error, the_input, the_output}
use Rattle.sm_messages.specs.HeadAnswers.{HeadAnswer, addressed, error_answer, path_unserved, refused_at_head, served_answer, to_goal}
use Rattle.sm_messages.specs.HeadAnswers.{to_named_error, typed_answer, unknown_operation, wrong_media_type}
use Rattle.sm_messages.specs.Heads.{is_plain, is_right_type, is_success}
use Rattle.sm_messages.specs.declared.judging.ResponseAddress.{ResponseAddress}
use Rattle.sm_messages.specs.declared.judging.ResponseAddress.TheVariants.{Error, Named, Output}
use Rattle.sm_messages.specs.declared.refusal.MessageRefusal.{MessageRefusal}

-- the operation is one of the service
abbrev pub IsOperationNumber : ServiceData → Option ℕ → Type 0
IsOperationNumber s None = Unit {0}
IsOperationNumber s (Some o) = o < length s.operations

-- a request for an operation that is served or not, whose body is of its type or not
abbrev pub operation_answer : Served → Bool → ℕ → HeadAnswer
operation_answer served right o = served_answer (path_unserved served None) (typed_answer right (to_goal (goal_of o the_input)))

abbrev pub asked_answer : ServiceData → Head → Bool → Option (List ℕ) → Option ℕ → HeadAnswer
asked_answer s head empty wanted None = refused_at_head unknown_operation
asked_answer s head empty wanted (Some o) =
    operation_answer (operation_at s o).served (is_plain head && is_right_type wanted empty head) o

-- a response, by the text that its head tells an error with
abbrev pub told_answer : ServiceData → Head → Option (List ℕ) → ℕ → HeadAnswer
told_answer s head told o =
    cond (is_plain head) (cond (is_success head.start) (addressed (to_goal (goal_of o the_output))) (error_answer s o told))
    (refused_at_head wrong_media_type)

-- the answer of a call on a head
abbrev pub JudgesRequest : HeadAnswer → Result ℕ MessageRefusal → Type 0
JudgesRequest a (Ok o) = a ≡ addressed (to_goal (goal_of o the_input))
JudgesRequest a (Err refusal) = RefusedAs (AtHead (λ r. a ≡ refused_at_head r)) refusal

abbrev pub response_address : ℕ → ResponseAddress → HeadAnswer
response_address o Output = addressed (to_goal (goal_of o the_output))
response_address o (Error e) = addressed (to_goal (goal_of o (the_error e)))
response_address o Named = addressed (to_named_error o)

abbrev pub JudgesResponse : ℕ → HeadAnswer → Result ResponseAddress MessageRefusal → Type 0
JudgesResponse o a (Ok there) = a ≡ response_address o there
JudgesResponse o a (Err refusal) = RefusedAs (AtHead (λ r. a ≡ refused_at_head r)) refusal
