-- Members that stand in the body of a response, as tests.
use Rattle.std.specs.Prelude.{◌&&◌, ◌||◌, ℕ, Bool, not, List}
use Rattle.std.specs.FinMap as fin
use Rattle.std.specs.List.{list_any}
use Rattle.sm_model.specs.Graphs.{GraphMaps}
use Rattle.sm_compile.specs.Looked.{listed_under}
use Rattle.sm_compile.specs.TraitIds.{http_header_id, http_prefix_headers_id, http_payload_id, http_response_code_id}
use Rattle.sm_passes.specs.Carrying.{carries}
use Rattle.sm_passes.specs.Owned.{is_own_shape, is_member_in}

-- it has none of the bindings of an output
abbrev pub is_unbound : GraphMaps → List ℕ → Bool
is_unbound g id =
    not (carries g http_header_id id || (carries g http_prefix_headers_id id || (carries g http_payload_id id
    || carries g http_response_code_id id)))

abbrev pub is_body_member : GraphMaps → List ℕ → Bool
is_body_member g id = is_member_in (fin.get g.shapes id) && (carries g http_payload_id id || is_unbound g id)

abbrev pub has_body_member : GraphMaps → List ℕ → Bool
has_body_member g id = is_own_shape g id && list_any (is_body_member g) (listed_under g id)
