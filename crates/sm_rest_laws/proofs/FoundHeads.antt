-- What of the parts of a written message is found in its head: fields stand among such as mean something else.
use Rattle.std.proofs.Common.{◌≡◌, ℕ, Bool, true, false, cond, List, [], ◌∷◌, ◌++◌, Some, refl, sym, ap}
use Rattle.std.specs.Prelude.{◌==◌, codes}
use Rattle.sm_http.specs.declared.message.Field.{Field}
use Rattle.sm_bind_laws.specs.service.ServiceData.{HttpData}
use Rattle.sm_bind_laws.specs.messages.Heads.{is_empty}
use Rattle.sm_bind_laws.specs.messages.Names.{error_field_name}
use Rattle.sm_bind_laws.specs.messages.WrittenHeads.{field_of, length_field, length_fields, type_fields, written_request, written_response}
use Rattle.sm_routes.specs.WrittenTargets.{pairs_left, target_labels}
use Rattle.sm_bind_laws.specs.bind.PartsData.{PartsData}
use Rattle.sm_bind_laws.specs.bind_write.WrittenParts.{request_target}
use Rattle.sm_bind_laws.specs.FoundParts.{AreFound, AreReserved}
use Rattle.sm_bind_laws.specs.WrittenLabels.{texts_for}
use Rattle.sm_rest.specs.rest_heads.RestParts.{request_parts, response_parts}

type_reserved : (e : Bool) (content_type : List ℕ) → AreReserved (type_fields e content_type)
type_reserved true content_type = tt
type_reserved false content_type = (refl, tt)

told_reserved : (e : Bool) (content_type name : List ℕ) → AreReserved (type_fields e content_type ++ field_of error_field_name name ∷ [])
told_reserved true content_type name = (refl, tt)
told_reserved false content_type name = (refl, (refl, tt))

-- what stands behind the type, by its three parts
typed_before : (e : Bool) (content_type : List ℕ) (more last : List Field)
    → (type_fields e content_type ++ more) ++ last ≡ type_fields e content_type ++ (more ++ last)
typed_before true content_type more last = refl
typed_before false content_type more last = refl

told_before : (e : Bool) (content_type name : List ℕ) (more last : List Field)
    → (type_fields e content_type ++ (field_of error_field_name name ∷ more)) ++ last
    ≡ (type_fields e content_type ++ field_of error_field_name name ∷ []) ++ (more ++ last)
told_before true content_type name more last = refl
told_before false content_type name more last = refl

lengths_reserved : (status : ℕ) (body : List ℕ) → AreReserved (length_fields status body)
lengths_reserved status body = by (status == 204)
  where
    by : (t : Bool) → AreReserved (cond t [] (length_field body ∷ []))
    by true = tt
    by false = (refl, tt)

pub request_found : (h : HttpData) (names : List (List ℕ)) (written : PartsData) (host content_type body : List ℕ)
    → target_labels h.uri (request_target h.uri written) ≡ texts_for names written.labels
    → pairs_left h.uri (request_target h.uri written) ≡ written.query → written.status ≡ 200
    → AreFound names written
    (request_parts (Some h) (written_request h.method (request_target h.uri written) host content_type written.fields body).head)
request_found h names written host content_type body labels pairs status = record {
  labels = labels;
  query = pairs;
  before = field_of (codes "host") host ∷ type_fields (is_empty body) content_type;
  behind = length_field body ∷ [];
  fields = ap (λ fs. field_of (codes "host") host ∷ fs) (typed_before (is_empty body) content_type written.fields (length_field body ∷ []));
  first = (refl, type_reserved (is_empty body) content_type);
  last = (refl, tt);
  status = sym status;
}

pub output_found : (written : PartsData) (content_type body : List ℕ) → written.query ≡ []
    → AreFound [] written (response_parts (written_response written.status content_type written.fields body).head)
output_found written content_type body none = record {
  labels = refl;
  query = sym none;
  before = type_fields (is_empty body) content_type;
  behind = length_fields written.status body;
  fields = typed_before (is_empty body) content_type written.fields (length_fields written.status body);
  first = type_reserved (is_empty body) content_type;
  last = lengths_reserved written.status body;
  status = refl;
}

pub error_found : (written : PartsData) (content_type name body : List ℕ) → written.query ≡ []
    → AreFound [] written
    (response_parts (written_response written.status content_type (field_of error_field_name name ∷ written.fields) body).head)
error_found written content_type name body none = record {
  labels = refl;
  query = sym none;
  before = type_fields (is_empty body) content_type ++ field_of error_field_name name ∷ [];
  behind = length_fields written.status body;
  fields = told_before (is_empty body) content_type name written.fields (length_fields written.status body);
  first = told_reserved (is_empty body) content_type name;
  last = lengths_reserved written.status body;
  status = refl;
}
