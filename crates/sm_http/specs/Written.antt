-- The one text that a message is written as: its first line, its fields in their order, an empty line, and its body. Lines end in
-- CR LF. It is the text of a head in httparse's grammar.
use Rattle.std.specs.Prelude.{◌≡◌, ℕ, ◌<◌, ◌≤◌, List, [], ◌∷◌, ◌++◌, map, length, All, IsUtf8, decimal, unwrap_or, Some, None}
use Rattle.http.specs.StatusCode.{reason_phrase}
use Rattle.httparse.specs.Ascii.{space}
use Rattle.httparse.specs.Grammar.{crlf, RequestHead, ResponseHead, print_request, print_response, is_uri_byte, is_value_byte, IsToken}
use Rattle.httparse.specs.Grammar.{AllPass, trim_ows}
use Rattle.httparse.specs.Grammar.{Field as FieldLine}
use Rattle.sm_http.specs.declared.message.Field.{Field}
use Rattle.sm_http.specs.declared.message.Head.{Head}
use Rattle.sm_http.specs.declared.message.Message.{Message}
use Rattle.sm_http.specs.declared.message.Start.{Start}
use Rattle.sm_http.specs.declared.message.Start.TheVariants.{Request, Response}
use Rattle.sm_http.specs.declared.message.MessageSide.{MessageSide}
use Rattle.sm_http.specs.declared.message.MessageSide.TheVariants.{Request as of_requests, Response as of_responses}
use Rattle.sm_http.specs.declared.message.BodyLeft.TheVariants.{Known}
use Rattle.sm_http.specs.Limits.{head_limit}
use Rattle.sm_http.specs.BodyFields.{head_refusal, body_begin}

-- name ":" SP value
abbrev pub line_of : Field → FieldLine
line_of field = record { name = field.name; raw = space ∷ field.value; end = crlf }

-- the phrase that `http` has for a status, or none
abbrev pub phrase : ℕ → List ℕ
phrase status = unwrap_or (reason_phrase status) []

abbrev pub request_head_of : List ℕ → List ℕ → List Field → RequestHead
request_head_of method target fields =
    record { blank = []; method = method; target = target; minor = 1; line_end = crlf; fields = map line_of fields; last = crlf }

abbrev pub response_head_of : ℕ → List Field → ResponseHead
response_head_of status fields =
    record {
      blank = [];
      minor = 1;
      digits = decimal status;
      reason = Some (phrase status);
      line_end = crlf;
      fields = map line_of fields;
      last = crlf;
    }

abbrev pub written_from : Start → List Field → List ℕ
written_from (Request method target) fields = print_request (request_head_of method target fields)
written_from (Response status) fields = print_response (response_head_of status fields)

abbrev pub written_head : Head → List ℕ
written_head head = written_from head.start head.fields

abbrev pub written : Message → List ℕ
written message = written_head message.head ++ message.body

-- a field that is read again as itself
pub record IsWritableField (field : Field) : Type 0 where
  pub name : IsToken field.name
  pub value : AllPass is_value_byte field.value
  pub trimmed : trim_ows field.value ≡ field.value

abbrev pub IsWritableStart : MessageSide → Start → Type 0
IsWritableStart of_requests (Request method target) =
    IsToken method × (0 < length target) × AllPass is_uri_byte target × IsUtf8 target
IsWritableStart of_requests (Response status) = ⊥
IsWritableStart of_responses (Request method target) = ⊥
IsWritableStart of_responses (Response status) = (100 ≤ status) × (status < 1000)

-- a message that is read again as itself
pub record IsWritableMessage (side : MessageSide) (message : Message) : Type 0 where
  pub start : IsWritableStart side message.head.start
  pub fields : All IsWritableField message.head.fields
  pub short : length (written_head message.head) ≤ head_limit
  pub taken : head_refusal (record { head = message.head; minor = 1 }) ≡ None
  pub body : body_begin message.head ≡ Known (length message.body)
