-- What `httpError` and `error` of a structure say, as functions of its id.
use Rattle.std.specs.Prelude.{ℕ, ℤ, List, Option, None, cond}
use Rattle.sm_model.specs.Graphs.{GraphMaps}
use Rattle.sm_compile.specs.Sound.{trait_of}
use Rattle.sm_compile.specs.TraitIds.{error_id, http_error_id}
use Rattle.sm_compile.specs.TraitNodes.{number_of, text_of}
use Rattle.sm_http_traits.specs.Carriers.{is_own_structure}

abbrev pub status_seen : GraphMaps → List ℕ → Option ℤ
status_seen g id = cond (is_own_structure g id) (number_of (trait_of g id http_error_id)) None

abbrev pub whose_error : GraphMaps → List ℕ → Option (List ℕ)
whose_error g id = text_of (trait_of g id error_id)
