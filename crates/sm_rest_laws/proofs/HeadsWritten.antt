-- The heads of written messages of restJson1: what they say of their bodies and their errors, whatever the fields that are written for
-- members.
use Rattle.std.proofs.Common.{◌≡◌, ℕ, ◌<◌, Bool, true, false, ◌&&◌, cond, List, [], ◌∷◌, ◌++◌, None, Some, length, refl, ap, ◌∙◌}
use Rattle.std.proofs.Common.{arith}
use Rattle.std.specs.Prelude.{◌==◌, Option, codes, nat_le, unwrap_or}
use Rattle.std.specs.List.{list_all}
use Rattle.std.proofs.lemmas.Bool.Decides.{nat_tests}
use Rattle.std.proofs.lemmas.List.Elements.{Contains-get_or}
use Rattle.httparse.specs.Grammar.{trim_ows}
use Rattle.sm_shapes.specs.TableData.{TableData}
use Rattle.sm_http.specs.FieldValues.{only_value, values_named}
use Rattle.sm_http.specs.declared.message.Field.{Field}
use Rattle.sm_http.specs.declared.message.Head.{Head}
use Rattle.sm_http.specs.declared.message.Start.TheVariants.{Response}
use Rattle.sm_bind_laws.specs.service.ErrorOrder.{place_named}
use Rattle.sm_bind_laws.specs.service.HttpServable.{IsStatusOf}
use Rattle.sm_bind_laws.specs.service.Servable.{IsServableOperation}
use Rattle.sm_bind_laws.specs.service.ServiceData.{ServiceData, name_of_error}
use Rattle.sm_bind_laws.specs.service.declared.error.ErrorShape.{ErrorShape}
use Rattle.sm_bind_laws.proofs.service.ServableIds.{name_is_identifier}
use Rattle.sm_bind_laws.specs.messages.Goals.{error_at, goal_of, no_error, operation_at, the_error, the_input, the_output}
use Rattle.sm_bind_laws.specs.messages.HeadAnswers.{addressed, error_answer, is_request_type, known_error, refused_at_head, response_answer, to_goal}
use Rattle.sm_bind_laws.specs.messages.HeadAnswers.{wrong_media_type}
use Rattle.sm_bind_laws.specs.messages.Heads.{is_empty, is_type, is_identity, is_plain, is_right_type, is_success}
use Rattle.sm_bind_laws.specs.messages.Names.{error_field_name, error_told, told_by_head}
use Rattle.sm_bind_laws.specs.messages.WrittenHeads.{fault_status, field_of, length_field, length_fields, written_request, written_response}
use Rattle.sm_bind_laws.proofs.messages.ErrorsTold.{name_told, place_of_error}
use Rattle.sm_bind_laws.specs.bind_read.BoundGoals.{bound_at}
use Rattle.sm_bind_laws.proofs.HeadersFound.{values_both}
use Rattle.sm_rest.specs.rest_heads.BodyParts.{part_of, wanted_by}
use Rattle.sm_rest.specs.rest_heads.declared.bodies.BodyPart.{BodyPart}
use Rattle.sm_rest.specs.rest_heads.declared.bodies.BodyPart.TheVariants.{Document, Nothing, Raw, Tree}
use Rattle.sm_rest.specs.RestForm.{rest_form}
use Rattle.sm_rest.specs.RestGoals.{error_status, type_by, written_type}
use Rattle.sm_rest_laws.proofs.NoReserved.{NoneReserved, none_named}

-- of fields that end with a length none has another such name
length_none : (name : List ℕ) (more : List Field) (body : List ℕ) → values_named name more ≡ []
    → values_named name (length_field body ∷ []) ≡ []
    → values_named name (more ++ length_field body ∷ []) ≡ []
length_none name more body none last =
    values_both name more (length_field body ∷ []) ∙ ap (λ us. us ++ values_named name (length_field body ∷ [])) none ∙ last

lengths_none : (name : List ℕ) (status : ℕ) (body : List ℕ) → values_named name (length_field body ∷ []) ≡ []
    → values_named name (length_fields status body) ≡ []
lengths_none name status body last = by (status == 204)
  where
    by : (t : Bool) → values_named name (cond t [] (length_field body ∷ [])) ≡ []
    by true = refl
    by false = last

fields_none : (name : List ℕ) (more : List Field) (status : ℕ) (body : List ℕ) → values_named name more ≡ []
    → values_named name (length_field body ∷ []) ≡ [] → values_named name (more ++ length_fields status body) ≡ []
fields_none name more status body none last =
    values_both name more (length_fields status body) ∙ ap (λ us. us ++ values_named name (length_fields status body)) none
    ∙ lengths_none name status body last

-- a request
request_plain : (method target host content_type : List ℕ) (more : List Field) (body : List ℕ) → NoneReserved more
    → is_plain (written_request method target host content_type more body).head ≡ true
request_plain method target host content_type more [] free =
    ap (list_all is_identity) (length_none (codes "content-encoding") more [] (none_named (codes "content-encoding") more refl free) refl)
request_plain method target host content_type more (c ∷ body) free =
    ap (list_all is_identity)
    (length_none (codes "content-encoding") more (c ∷ body) (none_named (codes "content-encoding") more refl free) refl)

one_type : (method target host content_type : List ℕ) (more : List Field) (c : ℕ) (body : List ℕ) → NoneReserved more
    → only_value (values_named (codes "content-type") (written_request method target host content_type more (c ∷ body)).head.fields)
    ≡ Some content_type
one_type method target host content_type more c body free =
    ap (λ us. only_value (content_type ∷ us))
    (length_none (codes "content-type") more (c ∷ body) (none_named (codes "content-type") more refl free) refl)

request_type : (t : TableData) (p : BodyPart) (method target host : List ℕ) (more : List Field) (body : List ℕ) → NoneReserved more
    → is_right_type (wanted_by p) (is_empty body) (written_request method target host (type_by t p) more body).head ≡ true
unfolding trim_ows
request_type t p method target host more [] free = refl
request_type t Document method target host more (c ∷ body) free =
    ap (is_type (codes "application/json")) (one_type method target host (codes "application/json") more c body free)
request_type t Tree method target host more (c ∷ body) free =
    ap (is_type (codes "application/json")) (one_type method target host (codes "application/json") more c body free)
request_type t (Raw k) method target host more (c ∷ body) free = refl
request_type t Nothing method target host more (c ∷ body) free = refl

pub request_right : (s : ServiceData) (o : ℕ) (method target host : List ℕ) (more : List Field) (body : List ℕ) → NoneReserved more
    → is_request_type rest_form s o
    (written_request method target host (written_type (bound_at s (goal_of o the_input))) more body).head (is_empty body)
    ≡ true
request_right s o method target host more body free =
    let b = bound_at s (goal_of o the_input) in
    let head = (written_request method target host (written_type b) more body).head in
    ap (λ x. x && is_right_type (wanted_by (part_of b)) (is_empty body) head)
    (request_plain method target host (written_type b) more body free)
    ∙ request_type b.table (part_of b) method target host more body free

-- a response
response_plain : (status : ℕ) (content_type : List ℕ) (more : List Field) (body : List ℕ)
    → values_named (codes "content-encoding") more ≡ []
    → is_plain (written_response status content_type more body).head ≡ true
response_plain status content_type more [] none =
    ap (list_all is_identity) (fields_none (codes "content-encoding") more status [] none refl)
response_plain status content_type more (c ∷ body) none =
    ap (list_all is_identity) (fields_none (codes "content-encoding") more status (c ∷ body) none refl)

answer_by : (s : ServiceData) (o status : ℕ) (head : Head) (success : Bool) → head.start ≡ Response status → is_plain head ≡ true
    → is_success (Response status) ≡ success
    → response_answer rest_form s head o ≡ cond success (addressed (to_goal (goal_of o the_output))) (error_answer s o (told_by_head head))
answer_by s o status head success start plain is =
    ap (λ t. cond t (cond (is_success head.start) (addressed (to_goal (goal_of o the_output))) (error_answer s o (told_by_head head)))
    (refused_at_head wrong_media_type)) plain
    ∙ ap (λ t. cond t (addressed (to_goal (goal_of o the_output))) (error_answer s o (told_by_head head))) (ap is_success start ∙ is)

pub output_right : (s : ServiceData) (o status : ℕ) (content_type : List ℕ) (more : List Field) (body : List ℕ) → NoneReserved more
    → is_success (Response status) ≡ true
    → response_answer rest_form s (written_response status content_type more body).head o ≡ addressed (to_goal (goal_of o the_output))
output_right s o status content_type more body free is =
    answer_by s o status (written_response status content_type more body).head true refl
    (response_plain status content_type more body (none_named (codes "content-encoding") more refl free)) is

-- the status of an error is none of success
pub error_status_fails : (e : ErrorShape) → IsStatusOf e.client e.status → is_success (Response (error_status e)) ≡ false
error_status_fails e is = by e.client e.status is
  where
    by : (client : Bool) (status : Option ℕ) → IsStatusOf client status
        → (nat_le 200 (unwrap_or status (fault_status client)) && nat_le (unwrap_or status (fault_status client)) 299) ≡ false
    by true None h = refl
    by false None h = refl
    by true (Some status) h = let low = h.0 in grind (arith, nat_tests)
    by false (Some status) h = let low = h.0 in grind (arith, nat_tests)

-- and the first field that tells an error tells this name
told_first : (status : ℕ) (content_type name : List ℕ) (more : List Field) (body : List ℕ)
    → told_by_head (written_response status content_type (field_of error_field_name name ∷ more) body).head ≡ Some name
told_first status content_type name more [] = refl
told_first status content_type name more (c ∷ body) = refl

named_again : (s : ServiceData) (o e : ℕ) → IsServableOperation s.table (operation_at s o) → e < length (operation_at s o).errors
    → error_told s o (name_of_error (error_at (operation_at s o) e)) ≡ Some e
named_again s o e is lt =
    let es = (operation_at s o).errors in
    let error = error_at (operation_at s o) e in
    let id = (is.errors error (Contains-get_or es e no_error lt)).1 in
    ap (place_named es) (name_told (name_of_error error) (name_is_identifier error.id id)) ∙ place_of_error es e no_error is.error_names lt

pub error_right : (s : ServiceData) (o e status : ℕ) (content_type : List ℕ) (more : List Field) (body : List ℕ) → NoneReserved more
    → IsServableOperation s.table (operation_at s o) → e < length (operation_at s o).errors → is_success (Response status) ≡ false
    → response_answer rest_form s
    (written_response status content_type (field_of error_field_name (name_of_error (error_at (operation_at s o) e)) ∷ more) body).head o
    ≡ addressed (to_goal (goal_of o (the_error e)))
error_right s o e status content_type more body free is lt fails =
    let name = name_of_error (error_at (operation_at s o) e) in
    answer_by s o status (written_response status content_type (field_of error_field_name name ∷ more) body).head false refl
    (response_plain status content_type (field_of error_field_name name ∷ more) body
    (none_named (codes "content-encoding") more refl free)) fails
    ∙ ap (error_answer s o) (told_first status content_type name more body) ∙ ap (known_error o) (named_again s o e is lt)
