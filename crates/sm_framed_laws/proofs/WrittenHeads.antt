-- The heads that are written, whatever the protocol, are read again where their fields are: none of them says another thing of the body
-- than the length.
use Rattle.std.proofs.Common.{◌≡◌, ℕ, ◌<◌, ◌≤◌, ◌^◌, Bool, true, false, ◌&&◌, ◌||◌, List, [], ◌∷◌, ◌++◌, length, refl, sym, ap, ◌∙◌, subst}
use Rattle.std.proofs.Common.{append-nil, arith}
use Rattle.std.specs.Prelude.{◌==◌, All, IsUtf8, None, Some, cond, codes, decimal, if◌then◌else◌, nat_lt, not}
use Rattle.std.specs.List.{list_all}
use Rattle.std.specs.Str.{str_eq_ignore_ascii_case}
use Rattle.std.proofs.lemmas.Bool.{le-ltb}
use Rattle.std.proofs.lemmas.Bool.Decides.{nat_tests}
use Rattle.std.proofs.lemmas.List.Elements.{All-append, All-cons, All-nil}
use Rattle.httparse.specs.Grammar.{AllPass, IsToken, is_token_byte, is_uri_byte}
use Rattle.sm_http.specs.declared.message.Field.{Field}
use Rattle.sm_http.specs.declared.message.Head.{Head}
use Rattle.sm_http.specs.declared.message.Message.{Message}
use Rattle.sm_http.specs.declared.message.MessageSide.TheVariants.{Request as of_requests, Response as of_responses}
use Rattle.sm_http.specs.declared.message.BodyLeft.TheVariants.{Known}
use Rattle.sm_http.specs.declared.message.Start.TheVariants.{Response}
use Rattle.sm_http.specs.declared.refusal.HttpRefusal.TheVariants.{HeadTooLarge, Coding, Length, TooLong}
use Rattle.sm_http.specs.declared.refusal.HttpRefusal.TheVariants.{Head as BadHead}
use Rattle.sm_http.specs.BodyFields.{body_begin, codings, has_no_body, head_refusal, is_below_100, is_interim, is_length, is_other_coding}
use Rattle.sm_http.specs.BodyFields.{is_other_length, is_past_limit, lengths, must_tell, tells_none, told_body}
use Rattle.sm_http.specs.FieldValues.{values_named}
use Rattle.sm_http.specs.Limits.{message_body_limit, most_fields}
use Rattle.sm_http.specs.Framed.{Framed, message}
use Rattle.sm_http.specs.Laws.{WrittenIsRead}
use Rattle.sm_http.specs.Written.{IsWritableField, IsWritableMessage, IsWritableStart, written}
use Rattle.sm_bind_laws.specs.messages.Goals.{Role, is_input, the_error, the_input, the_output}
use Rattle.sm_framed_laws.specs.Framing.{IsWithinLimits, side_by}
use Rattle.sm_bind_laws.specs.messages.Heads.{is_empty}
use Rattle.sm_bind_laws.specs.messages.WrittenHeads.{fault_status, field_of, length_field, length_fields, type_fields, written_request, written_response}
use Rattle.sm_gateway.specs.GatewayData.{is_visible}
use Rattle.sm_framed_laws.proofs.PlainTexts.{number_text, token_is, visible_trim, visible_values}

-- fields that say nothing of the body, nor of the connection
pub record SayNothing (fields : List Field) : Type 0 where
  pub coding : values_named (codes "transfer-encoding") fields ≡ []
  pub length : values_named (codes "content-length") fields ≡ []
  pub connection : values_named (codes "connection") fields ≡ []

both_named : (name : List ℕ) (xs ys : List Field) → values_named name (xs ++ ys) ≡ values_named name xs ++ values_named name ys
both_named name [] ys = refl
both_named name (f ∷ xs) ys = by (str_eq_ignore_ascii_case f.name name) (both_named name xs ys)
  where
    by : (t : Bool) → values_named name (xs ++ ys) ≡ values_named name xs ++ values_named name ys
        → (if t then f.value ∷ values_named name (xs ++ ys) else values_named name (xs ++ ys))
        ≡ (if t then f.value ∷ values_named name xs else values_named name xs) ++ values_named name ys
    by true rest = ap (λ us. f.value ∷ us) rest
    by false rest = rest

pub behind_named : (name : List ℕ) (xs ys : List Field) → values_named name xs ≡ [] → values_named name (xs ++ ys) ≡ values_named name ys
behind_named name xs ys none = both_named name xs ys ∙ ap (λ us. us ++ values_named name ys) none

-- what a head says of its body, and that it is taken
and_false : (t : Bool) → (t && false) ≡ false
and_false true = refl
and_false false = refl

pub record SaysLength (head : Head) (n : ℕ) : Type 0 where
  pub high : is_below_100 head.start ≡ false
  pub final : is_interim head.start ≡ false
  pub with_body : has_no_body head.start ≡ false
  pub coding : codings head ≡ []
  pub length : lengths head ≡ decimal n ∷ []

few : (n : ℕ) → n ≤ message_body_limit → n < 2 ^ 64
few n h = omega (arith, h)

body_of_length : (head : Head) (n : ℕ) → SaysLength head n → n ≤ message_body_limit → body_begin head ≡ Known n
body_of_length head n says within =
    ap (λ t. if t then Known 0 else told_body (codings head) (lengths head)) says.with_body
    ∙ ap (λ cs. told_body cs (lengths head)) says.coding
    ∙ ap (λ ls. told_body [] ls) says.length
    ∙ ap Known (number_text n (few n within)).value

taken_by : (head : Head) (few_fields : nat_lt most_fields (length head.fields) ≡ false) (high : is_below_100 head.start ≡ false)
    → (coded : (is_interim head.start || is_other_coding (codings head) (lengths head)) ≡ false)
    → (sized : (is_other_length (lengths head) || (must_tell head.start && tells_none (codings head) (lengths head))) ≡ false)
    → (short : is_past_limit (body_begin head) ≡ false)
    → head_refusal (record { head = head; minor = 1 }) ≡ None
taken_by head few_fields high coded sized short =
    let last = if is_past_limit (body_begin head) then Some TooLong else None in
    let by_size = if (is_other_length (lengths head) || (must_tell head.start && tells_none (codings head) (lengths head)))
    then Some Length else last in
    let by_coding = if (is_interim head.start || is_other_coding (codings head) (lengths head)) then Some Coding else by_size in
    let by_count = if nat_lt most_fields (length head.fields) then Some HeadTooLarge else by_coding in
    ap (λ t. if t then Some BadHead else by_count) high
    ∙ ap (λ t. if t then Some HeadTooLarge else by_coding) few_fields
    ∙ ap (λ t. if t then Some Coding else by_size) coded
    ∙ ap (λ t. if t then Some Length else last) sized
    ∙ ap (λ t. if t then Some TooLong else None) short

sized_by : (must : Bool) (digits : List ℕ) → is_length digits ≡ true
    → (is_other_length (digits ∷ []) || (must && tells_none [] (digits ∷ []))) ≡ false
sized_by must digits h = ap (λ t. not (t && true) || (must && false)) h ∙ and_false must

taken_with_length : (head : Head) (n : ℕ) → SaysLength head n → length head.fields ≤ most_fields → n ≤ message_body_limit
    → head_refusal (record { head = head; minor = 1 }) ≡ None
taken_with_length head n says count within =
    taken_by head (le-ltb most_fields (length head.fields) count) says.high
    (ap (λ t. t || is_other_coding (codings head) (lengths head)) says.final ∙ ap (λ cs. is_other_coding cs (lengths head)) says.coding)
    (ap (λ cs. is_other_length (lengths head) || (must_tell head.start && tells_none cs (lengths head))) says.coding
    ∙ ap (λ ls. is_other_length ls || (must_tell head.start && tells_none [] ls)) says.length
    ∙ sized_by (must_tell head.start) (decimal n) (number_text n (few n within)).is_length)
    (ap is_past_limit (body_of_length head n says within) ∙ le-ltb message_body_limit n within)

-- the fields of a request, and of a response with a length
module _ (body : List ℕ) (more : List Field) (say : SayNothing more) where
  more_coding : values_named (codes "transfer-encoding") (more ++ length_field body ∷ []) ≡ []
  more_coding = behind_named (codes "transfer-encoding") more (length_field body ∷ []) say.coding

  more_length : values_named (codes "content-length") (more ++ length_field body ∷ []) ≡ decimal (length body) ∷ []
  more_length = behind_named (codes "content-length") more (length_field body ∷ []) say.length

  typed_coding : (t : Bool) (content_type : List ℕ)
      → values_named (codes "transfer-encoding") (type_fields t content_type ++ more ++ length_field body ∷ []) ≡ []
  typed_coding true content_type = more_coding
  typed_coding false content_type = more_coding

  typed_length : (t : Bool) (content_type : List ℕ)
      → values_named (codes "content-length") (type_fields t content_type ++ more ++ length_field body ∷ []) ≡ decimal (length body) ∷ []
  typed_length true content_type = more_length
  typed_length false content_type = more_length

-- each field may stand in a head
pub visible_field : (name value : List ℕ) → IsToken name → list_all is_visible value ≡ true → IsWritableField (field_of name value)
visible_field name value token h = record { name = token; value = visible_values value h; trimmed = visible_trim value h }

-- the names of the fields that each message has
pub host_token : IsToken (codes "host")
unfolding is_token_byte
host_token = token_is (codes "host") refl

pub type_token : IsToken (codes "content-type")
unfolding is_token_byte
type_token = token_is (codes "content-type") refl

length_token : IsToken (codes "content-length")
unfolding is_token_byte
length_token = token_is (codes "content-length") refl

pub length_writable : (body : List ℕ) → length body ≤ message_body_limit → IsWritableField (length_field body)
length_writable body within =
    visible_field (codes "content-length") (decimal (length body)) length_token
    (number_text (length body) (few (length body) within)).visible

one_field : (f : Field) → IsWritableField f → All IsWritableField (f ∷ [])
one_field f h = All-cons IsWritableField f [] h (All-nil IsWritableField)

types_writable : (t : Bool) (content_type : List ℕ) → IsWritableField (field_of (codes "content-type") content_type)
    → All IsWritableField (type_fields t content_type)
types_writable true content_type h = All-nil IsWritableField
types_writable false content_type h =
    one_field (field_of (codes "content-type") content_type) h

behind_type : (t : Bool) (content_type : List ℕ) (more last : List Field) → IsWritableField (field_of (codes "content-type") content_type)
    → All IsWritableField more → All IsWritableField last → All IsWritableField (type_fields t content_type ++ more ++ last)
behind_type t content_type more last h each ends =
    All-append IsWritableField (type_fields t content_type ++ more) last
    (All-append IsWritableField (type_fields t content_type) more (types_writable t content_type h) each) ends

pub request_writable : (method target host content_type : List ℕ) (more : List Field) (body : List ℕ)
    → IsToken method → 0 < length target → AllPass is_uri_byte target → IsUtf8 target → list_all is_visible host ≡ true
    → IsWritableField (field_of (codes "content-type") content_type) → All IsWritableField more → SayNothing more
    → IsWithinLimits (written_request method target host content_type more body)
    → IsWritableMessage of_requests (written_request method target host content_type more body)
request_writable method target host content_type more body token some uri utf8 shown typed each say within =
    let m = written_request method target host content_type more body in
    let says : SaysLength m.head (length body) = record {
      high = refl;
      final = refl;
      with_body = refl;
      coding = typed_coding body more say (is_empty body) content_type;
      length = typed_length body more say (is_empty body) content_type;
    } in
    record {
      start = (token, some, uri, utf8);
      fields =
          All-cons IsWritableField (field_of (codes "host") host)
          (type_fields (is_empty body) content_type ++ more ++ length_field body ∷ [])
          (visible_field (codes "host") host host_token shown)
          (behind_type (is_empty body) content_type more (length_field body ∷ []) typed each
          (one_field (length_field body) (length_writable body within.body)));
      short = within.head;
      taken = taken_with_length m.head (length body) says within.fields within.body;
      body = body_of_length m.head (length body) says within.body;
    }

-- a response of any status but 204, and one of 204 with no body
with_length : (status : ℕ) (body : List ℕ) → status == 204 ≡ false → length_fields status body ≡ length_field body ∷ []
with_length status body other = ap (λ t. cond t [] (length_field body ∷ [])) other

pub record IsFinalStatus (status : ℕ) : Type 0 where
  pub low : 200 ≤ status
  pub high : status < 1000

pub final_start : (status : ℕ) → IsFinalStatus status → (is_below_100 (Response status) ≡ false) × (is_interim (Response status) ≡ false)
final_start status h = let low = h.low in (grind (arith, nat_tests), grind (arith, nat_tests))

pub other_body : (status : ℕ) → status == 204 ≡ false → status == 304 ≡ false → has_no_body (Response status) ≡ false
other_body status h g = ap (λ t. t || status == 304) h ∙ g

-- a response that says its length
pub response_of_length : (m : Message) (status : ℕ) → m.head.start ≡ Response status → IsFinalStatus status
    → SaysLength m.head (length m.body) → All IsWritableField m.head.fields → IsWithinLimits m → IsWritableMessage of_responses m
response_of_length m status start final says fields within = record {
  start = subst (IsWritableStart of_responses) (sym start) (omega (arith, final.low), final.high);
  fields = fields;
  short = within.head;
  taken = taken_with_length m.head (length m.body) says within.fields within.body;
  body = body_of_length m.head (length m.body) says within.body;
}

pub response_writable : (status : ℕ) (content_type : List ℕ) (more : List Field) (body : List ℕ) → IsFinalStatus status
    → status == 204 ≡ false → status == 304 ≡ false → IsWritableField (field_of (codes "content-type") content_type)
    → All IsWritableField more → SayNothing more
    → IsWithinLimits (written_response status content_type more body)
    → IsWritableMessage of_responses (written_response status content_type more body)
response_writable status content_type more body final other kept typed each say within =
    let m = written_response status content_type more body in
    let fields : m.head.fields ≡ type_fields (is_empty body) content_type ++ more ++ length_field body ∷ [] =
    ap (λ last. type_fields (is_empty body) content_type ++ more ++ last) (with_length status body other) in
    let start = final_start status final in
    let says : SaysLength m.head (length body) = record {
      high = start.0;
      final = start.1;
      with_body = other_body status other kept;
      coding = ap (values_named (codes "transfer-encoding")) fields ∙ typed_coding body more say (is_empty body) content_type;
      length = ap (values_named (codes "content-length")) fields ∙ typed_length body more say (is_empty body) content_type;
    } in
    response_of_length m status refl final says
    (subst (All IsWritableField) (sym fields) (behind_type (is_empty body) content_type more (length_field body ∷ []) typed each
    (one_field (length_field body) (length_writable body within.body)))) within

-- a response of 204 has no body and no length
no_body : (more : List Field) → SayNothing more → (head : Head) → head.start ≡ Response 204 → head.fields ≡ more
    → length more ≤ most_fields → head_refusal (record { head = head; minor = 1 }) ≡ None
no_body more say head start fields count =
    let coding : codings head ≡ [] = ap (values_named (codes "transfer-encoding")) fields ∙ say.coding in
    let sizes : lengths head ≡ [] = ap (values_named (codes "content-length")) fields ∙ say.length in
    taken_by head (ap (λ fs. nat_lt most_fields (length fs)) fields ∙ le-ltb most_fields (length more) count) (ap is_below_100 start)
    (ap (λ st. is_interim st || is_other_coding (codings head) (lengths head)) start ∙ ap (λ cs. is_other_coding cs (lengths head)) coding)
    (ap (λ ls. is_other_length ls || (must_tell head.start && tells_none (codings head) ls)) sizes
    ∙ ap (λ st. must_tell st && tells_none (codings head) []) start)
    (ap (λ st. is_past_limit (if has_no_body st then Known 0 else told_body (codings head) (lengths head))) start)

pub empty_writable : (content_type : List ℕ) (more : List Field) → All IsWritableField more → SayNothing more
    → IsWithinLimits (written_response 204 content_type more [])
    → IsWritableMessage of_responses (written_response 204 content_type more [])
empty_writable content_type more each say within =
    let m = written_response 204 content_type more [] in
    let fields : m.head.fields ≡ more = append-nil more in
    record {
      start = (omega arith, omega arith);
      fields = subst (All IsWritableField) (sym fields) each;
      short = within.head;
      taken = no_body more say m.head refl fields (subst (λ fs. length fs ≤ most_fields) fields within.fields);
      body = refl;
    }

-- the status of an error that has none of its own
pub fault_final : (client : Bool) → IsFinalStatus (fault_status client) × ((fault_status client == 204) ≡ false)
    × ((fault_status client == 304) ≡ false)
fault_final true = (record { low = omega arith; high = omega arith }, refl, refl)
fault_final false = (record { low = omega arith; high = omega arith }, refl, refl)

-- what is writable on a side is framed there
pub framed_by : WrittenIsRead of_requests → WrittenIsRead of_responses → (r : Role) (m : Message) (rest : List ℕ)
    → IsWritableMessage (side_by (is_input r)) m → Framed (side_by (is_input r)) (written m ++ rest) (message m rest)
framed_by asked answered the_input m rest h = asked m rest h
framed_by asked answered the_output m rest h = answered m rest h
framed_by asked answered (the_error e) m rest h = answered m rest h
