-- What a head comes to before its body is read. The decisions stand in their order: whether the message is one of the protocol, which
-- operation a request is for, whether that is served, the encoding and the type of the body, and the error that a head names.
use Rattle.std.specs.Prelude.{◌≡◌, ℕ, ◌&&◌, Bool, true, false, cond, List, Option, Some, None}
use Rattle.sm_compile.specs.declared.compiled.Served.{Served}
use Rattle.sm_compile.specs.declared.compiled.Served.TheVariants.{Yes, Unserved}
use Rattle.sm_http.specs.declared.message.Head.{Head}
use Rattle.sm_service.specs.ServiceData.{ServiceData}
use Rattle.sm_messages.specs.Goals.{Asked, Goal, a_request, a_response, goal_of, operation_at, the_error, the_input, the_output}
use Rattle.sm_messages.specs.Heads.{is_plain, is_right_type, is_success}
use Rattle.sm_messages.specs.MessageForm.{MessageForm}
use Rattle.sm_messages.specs.Names.{error_told}

-- why a message is refused for its head
pub data HeadRefusal : Type 0 where
  wrong_protocol : HeadRefusal
  unknown_operation : HeadRefusal
  -- the operation isn't served, by this path
  not_served : List ℕ → HeadRefusal
  wrong_media_type : HeadRefusal
  unknown_error : HeadRefusal

-- where a message goes by its head: to a goal, or to the error of an operation that its body names
pub data Address : Type 0 where
  to_goal : Goal → Address
  to_named_error : ℕ → Address

pub data HeadAnswer : Type 0 where
  refused_at_head : HeadRefusal → HeadAnswer
  addressed : Address → HeadAnswer

-- the path by which an operation isn't served: by its model, else by the protocol
abbrev pub path_unserved : Served → Option (List ℕ) → Option (List ℕ)
path_unserved Yes restriction = restriction
path_unserved (Unserved path) restriction = Some path

abbrev pub unserved : MessageForm → ServiceData → ℕ → Option (List ℕ)
unserved f s o = path_unserved (operation_at s o).served (f.restriction s o)

abbrev pub typed_answer : Bool → Address → HeadAnswer
typed_answer right a = cond right (addressed a) (refused_at_head wrong_media_type)

-- a request for an operation, by the path by which that isn't served
abbrev pub served_answer : Option (List ℕ) → HeadAnswer → HeadAnswer
served_answer None a = a
served_answer (Some path) a = refused_at_head (not_served path)

-- its body is sent as it is, and of the type that the operation wants
abbrev pub is_request_type : MessageForm → ServiceData → ℕ → Head → Bool → Bool
is_request_type f s o head empty = is_plain head && is_right_type (f.content_type s o) empty head

-- a request, for the operation that it names, if it names one
abbrev pub request_answer : MessageForm → ServiceData → Head → Bool → Option ℕ → HeadAnswer
request_answer f s head empty None = refused_at_head unknown_operation
request_answer f s head empty (Some o) =
    served_answer (unserved f s o) (typed_answer (is_request_type f s o head empty) (to_goal (goal_of o the_input)))

-- an error that a head names
abbrev pub known_error : ℕ → Option ℕ → HeadAnswer
known_error o None = refused_at_head unknown_error
known_error o (Some e) = addressed (to_goal (goal_of o (the_error e)))

-- an error: what its head tells goes before what its body tells, also where that is no error's name
abbrev pub error_answer : ServiceData → ℕ → Option (List ℕ) → HeadAnswer
error_answer s o None = addressed (to_named_error o)
error_answer s o (Some told) = known_error o (error_told s o told)

-- a response to an operation
abbrev pub response_answer : MessageForm → ServiceData → Head → ℕ → HeadAnswer
response_answer f s head o =
    cond (is_plain head)
    (cond (is_success head.start) (addressed (to_goal (goal_of o the_output))) (error_answer s o (f.head_error head)))
    (refused_at_head wrong_media_type)

-- the operation to which a request goes, or none
abbrev pub IsNamed : MessageForm → ServiceData → Head → Option ℕ → Type 0
IsNamed f s head None = (o : ℕ) → f.goes_to s head o → ⊥
IsNamed f s head (Some o) = f.goes_to s head o

-- what a head comes to whose body is empty or not
pub data IsJudged (f : MessageForm) (s : ServiceData) (asked : Asked) (head : Head) (empty : Bool) (a : HeadAnswer) : Type 0 where
  unmarked : f.is_marked head ≡ false → a ≡ refused_at_head wrong_protocol → IsJudged f s asked head empty a
  of_request : (o : Option ℕ) → f.is_marked head ≡ true → asked ≡ a_request → IsNamed f s head o → a ≡ request_answer f s head empty o
      → IsJudged f s asked head empty a
  of_response : (o : ℕ) → f.is_marked head ≡ true → asked ≡ a_response o → a ≡ response_answer f s head o
      → IsJudged f s asked head empty a
