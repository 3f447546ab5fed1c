-- What a head says of its message, whatever the protocol (RFC 9110, sections 8.3, 8.4 and 15).
use Rattle.std.specs.Prelude.{ℕ, ◌&&◌, nat_le, Bool, true, false, List, [], ◌∷◌, Option, Some, None, codes}
use Rattle.std.specs.List.{before_first, list_all}
use Rattle.std.specs.Str.{str_eq_ignore_ascii_case}
use Rattle.httparse.specs.Grammar.{trim_ows}
use Rattle.sm_ids.specs.TextParts.{is_byte}
use Rattle.sm_http.specs.FieldValues.{only_value, values_named}
use Rattle.sm_http.specs.declared.message.Head.{Head}
use Rattle.sm_http.specs.declared.message.Start.{Start}
use Rattle.sm_http.specs.declared.message.Start.TheVariants.{Request, Response}

-- the body is sent as it is: each `content-encoding` is `identity`, in whichever case
abbrev pub is_identity : List ℕ → Bool
is_identity value = str_eq_ignore_ascii_case value (codes "identity")

abbrev pub is_plain : Head → Bool
is_plain head = list_all is_identity (values_named (codes "content-encoding") head.fields)

abbrev pub semicolon : ℕ
semicolon = 59

-- a media type without its parameters, and without blanks around it
abbrev pub bare_type : List ℕ → List ℕ
bare_type value = trim_ows (before_first (is_byte semicolon) value)

-- there is one `content-type`, and it is this one, in whichever case
abbrev pub is_type : List ℕ → Option (List ℕ) → Bool
is_type wanted None = false
is_type wanted (Some value) = str_eq_ignore_ascii_case (bare_type value) wanted

abbrev pub has_type : List ℕ → Head → Bool
has_type wanted head = is_type wanted (only_value (values_named (codes "content-type") head.fields))

-- the content type is right for a body, which may be empty: it is this one, if one is wanted; that of an empty body isn't looked at
abbrev pub is_right_type : Option (List ℕ) → Bool → Head → Bool
is_right_type wanted true head = true
is_right_type None false head = true
is_right_type (Some wanted) false head = has_type wanted head

-- the status of an output: another one is that of an error
abbrev pub is_success : Start → Bool
is_success (Request method target) = false
is_success (Response status) = nat_le 200 status && nat_le status 299

abbrev pub is_empty : List ℕ → Bool
is_empty [] = true
is_empty (b ∷ bs) = false
