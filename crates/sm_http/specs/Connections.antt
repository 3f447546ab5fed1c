-- How a message says that its connection ends behind it (RFC 9112, section 9.6; RFC 9110, section 7.6.1), and what answers `HEAD`
-- (RFC 9110, section 9.3.2).
use Rattle.std.specs.Prelude.{List, [], ◌∷◌, Bool, false, if◌then◌else◌, codes}
use Rattle.std.specs.Str.{bytes_eq, str_eq_ignore_ascii_case}
use Rattle.sm_http.specs.declared.message.Field.{Field}
use Rattle.sm_http.specs.declared.message.Head.{Head}
use Rattle.sm_http.specs.declared.message.Message.{Message}
use Rattle.sm_http.specs.declared.message.Start.{Start}
use Rattle.sm_http.specs.declared.message.Start.TheVariants.{Request, Response}
use Rattle.sm_http.specs.FieldValues.{values_named}
use Rattle.sm_http.specs.FieldLists.{has_token}

-- the option `close` stands in the `connection` fields
abbrev pub says_close : Head → Bool
says_close head = has_token (codes "close") (values_named (codes "connection") head.fields)

abbrev pub close_field : Field
close_field = record { name = codes "connection"; value = codes "close" }

abbrev pub is_length_field : Field → Bool
is_length_field field = str_eq_ignore_ascii_case field.name (codes "content-length")

-- the fields with `connection: close` before a last `content-length`, else behind all
abbrev pub fields_with_close : List Field → List Field
fields_with_close [] = close_field ∷ []
fields_with_close (last ∷ []) = if is_length_field last then close_field ∷ last ∷ [] else last ∷ close_field ∷ []
fields_with_close (f ∷ next ∷ fs) = f ∷ fields_with_close (next ∷ fs)

abbrev pub with_close : Message → Message
with_close message = record {
  head = record { start = message.head.start; fields = fields_with_close message.head.fields };
  body = message.body;
}

-- a request for the head alone
abbrev pub asks_head : Start → Bool
asks_head (Request method target) = bytes_eq method (codes "HEAD")
asks_head (Response status) = false

-- what is sent as the answer to a request with this head: to `HEAD` the answer's head, as it is, without its body
abbrev pub for_head : Head → Message → Message
for_head asked answer = if asks_head asked.start then record { head = answer.head; body = [] } else answer
