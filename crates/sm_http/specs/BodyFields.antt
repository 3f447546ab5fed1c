-- What a head says of its body (RFC 9112, section 6; RFC 9110, sections 8.6 and 15). Names are compared without case. A number may
-- have any number of digits, and zeros in front.
use Rattle.std.specs.Prelude.{ℕ, List, [], ◌∷◌, length, Bool, true, false, not, ◌==◌, ◌||◌, ◌&&◌, if◌then◌else◌, nat_lt, nat_le, codes}
use Rattle.std.specs.Prelude.{Option, Some, None}
use Rattle.std.specs.List.{list_all}
use Rattle.std.specs.Char.{is_ascii_digit}
use Rattle.std.specs.Str.{str_eq_ignore_ascii_case}
use Rattle.std.specs.Str.Parse.{digits_value}
use Rattle.sm_http.specs.declared.message.Head.{Head}
use Rattle.sm_http.specs.declared.message.Start.{Start}
use Rattle.sm_http.specs.declared.message.Start.TheVariants.{Request, Response}
use Rattle.sm_http.specs.declared.message.BodyLeft.{BodyLeft}
use Rattle.sm_http.specs.declared.message.BodyLeft.TheVariants.{Known, Size, Data, Done}
use Rattle.sm_http.specs.declared.refusal.HttpRefusal.{HttpRefusal}
use Rattle.sm_http.specs.declared.refusal.HttpRefusal.TheVariants.{HeadTooLarge, Coding, Length, TooLong}
use Rattle.sm_http.specs.declared.refusal.HttpRefusal.TheVariants.{Head as BadHead}
use Rattle.sm_http.specs.Limits.{most_fields, message_body_limit}
use Rattle.sm_http.specs.Heads.{HeadText}
use Rattle.sm_http.specs.FieldValues.{values_named}

abbrev pub codings : Head → List (List ℕ)
codings head = values_named (codes "transfer-encoding") head.fields

abbrev pub lengths : Head → List (List ℕ)
lengths head = values_named (codes "content-length") head.fields

-- Content-Length = 1*DIGIT
abbrev pub is_length : List ℕ → Bool
is_length [] = false
is_length (digit ∷ digits) = list_all is_ascii_digit (digit ∷ digits)

abbrev pub is_same_length : List ℕ → List ℕ → Bool
is_same_length a b = digits_value 10 a == digits_value 10 b

abbrev pub is_below_100 : Start → Bool
is_below_100 (Request method target) = false
is_below_100 (Response status) = nat_lt status 100

-- an interim response, 100 to 199
abbrev pub is_interim : Start → Bool
is_interim (Request method target) = false
is_interim (Response status) = nat_le 100 status && nat_lt status 200

-- 204 and 304: the body is empty, whatever the fields say
abbrev pub has_no_body : Start → Bool
has_no_body (Request method target) = false
has_no_body (Response status) = status == 204 || status == 304

-- a response that has a body must tell its length, or be in chunks
abbrev pub must_tell : Start → Bool
must_tell (Request method target) = false
must_tell (Response status) = not (has_no_body (Response status))

-- a coding other than `chunked` alone, more than one, or one beside a length
abbrev pub is_other_coding : List (List ℕ) → List (List ℕ) → Bool
is_other_coding [] values = false
is_other_coding (coding ∷ []) [] = not (str_eq_ignore_ascii_case coding (codes "chunked"))
is_other_coding (coding ∷ []) (value ∷ values) = true
is_other_coding (coding ∷ next ∷ codings) values = true

-- a length, and the same number as the first
abbrev pub agrees : List ℕ → List ℕ → Bool
agrees first value = is_length value && is_same_length first value

-- a length that is no number, or two that differ
abbrev pub is_other_length : List (List ℕ) → Bool
is_other_length [] = false
is_other_length (value ∷ values) = not (is_length value && list_all (agrees value) values)

-- neither a coding nor a length
abbrev pub tells_none : List (List ℕ) → List (List ℕ) → Bool
tells_none [] [] = true
tells_none [] (value ∷ values) = false
tells_none (coding ∷ codings) values = false

abbrev pub told_body : List (List ℕ) → List (List ℕ) → BodyLeft
told_body (coding ∷ codings) values = Size 0
told_body [] (value ∷ values) = Known (digits_value 10 value)
told_body [] [] = Known 0

-- the body that follows the head, none of it read
abbrev pub body_begin : Head → BodyLeft
body_begin head = if has_no_body head.start then Known 0 else told_body (codings head) (lengths head)

abbrev pub is_past_limit : BodyLeft → Bool
is_past_limit (Known count) = nat_lt message_body_limit count
is_past_limit (Size sum) = false
is_past_limit (Data left total) = false
is_past_limit Done = false

-- why a whole head is refused, in this order; None where it isn't
abbrev pub head_refusal : HeadText → Option HttpRefusal
head_refusal text =
    let head = text.head in
    if not (text.minor == 1) || is_below_100 head.start then Some BadHead else (
    if nat_lt most_fields (length head.fields) then Some HeadTooLarge else (
    if is_interim head.start || is_other_coding (codings head) (lengths head) then Some Coding else (
    if is_other_length (lengths head) || (must_tell head.start && tells_none (codings head) (lengths head)) then Some Length else (
    if is_past_limit (body_begin head) then Some TooLong else None))))
