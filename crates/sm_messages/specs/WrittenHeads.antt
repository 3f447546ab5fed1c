-- The heads that are written, whatever the protocol: their fields in order, with names in lower case. A type is told of a body that isn't
-- empty, and a length of each but that of the status 204 (RFC 9110, section 8.6).
use Rattle.std.specs.Prelude.{ℕ, ◌==◌, Bool, true, false, cond, List, [], ◌∷◌, ◌++◌, codes, decimal, length, map}
use denote.Ref.{Bor}
use Rattle.sm_http.specs.declared.message.Field.{Field}
use Rattle.sm_http.specs.declared.message.Message.{Message}
use Rattle.sm_http.specs.declared.message.Start.{Start}
use Rattle.sm_http.specs.declared.message.Start.TheVariants.{Request, Response}
use Rattle.sm_messages.specs.Heads.{is_empty}

abbrev pub field_of : List ℕ → List ℕ → Field
field_of name value = record { name = name; value = value }

abbrev pub type_fields : Bool → List ℕ → List Field
type_fields true content_type = []
type_fields false content_type = field_of (codes "content-type") content_type ∷ []

abbrev pub length_field : List ℕ → Field
length_field body = field_of (codes "content-length") (decimal (length body))

abbrev pub length_fields : ℕ → List ℕ → List Field
length_fields status body = cond (status == 204) [] (length_field body ∷ [])

-- fields by their names and values
abbrev pub fields_given : List (Bor (List ℕ) × Bor (List ℕ)) → List Field
fields_given given = map (λ field. field_of field.0.now field.1.now) given

-- a request with this method and target to this host, with more fields of its protocol
abbrev pub written_request : List ℕ → List ℕ → List ℕ → List ℕ → List Field → List ℕ → Message
written_request method target host content_type more body = record {
  head = record {
    start = Request method target;
    fields = field_of (codes "host") host ∷ (type_fields (is_empty body) content_type ++ more ++ length_field body ∷ []);
  };
  body = body;
}

-- a response with this status
abbrev pub written_response : ℕ → List ℕ → List Field → List ℕ → Message
written_response status content_type more body = record {
  head = record {
    start = Response status;
    fields = type_fields (is_empty body) content_type ++ more ++ length_fields status body;
  };
  body = body;
}

-- the status of an error by which side is at fault
abbrev pub fault_status : Bool → ℕ
fault_status true = 400
fault_status false = 500

-- a message by its parts
abbrev pub with_fields : Start → List Field → List ℕ → Message
with_fields start fields body = record { head = record { start = start; fields = fields }; body = body }
