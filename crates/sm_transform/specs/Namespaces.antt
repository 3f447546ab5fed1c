-- The namespaces of ids, and the namespace `smithy.api`, whose shapes every transform keeps (Smithy 2.0, "Prelude").
use Rattle.std.specs.Prelude.{ℕ, Bool, List, codes}
use Rattle.std.specs.Str.{bytes_eq}
use Rattle.sm_ids.specs.TextParts.{namespace_part}

abbrev pub api_namespace : List ℕ
api_namespace = codes "smithy.api"

-- an id of this namespace
abbrev pub is_of_namespace : List ℕ → List ℕ → Bool
is_of_namespace namespace id = bytes_eq (namespace_part id) namespace

abbrev pub is_of_api : List ℕ → Bool
is_of_api id = is_of_namespace api_namespace id
