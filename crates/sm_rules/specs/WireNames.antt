-- The names that members have in messages (Smithy 2.0, "httpHeader trait", "httpPrefixHeaders trait", "httpQuery trait", "jsonName trait").
use Rattle.std.specs.Prelude.{◌≡◌, ◌⊎◌, ℕ, Bool, true, List, [], ◌++◌, Option, Some, None, drop, filter_map, length}
use Rattle.std.specs.List.{Contains, list_any}
use Rattle.std.specs.Str.{bytes_eq, str_eq_ignore_ascii_case, str_to_ascii_lowercase}
use Rattle.sm_tree.specs.Node.{Node}
use Rattle.sm_model.specs.Graphs.{ShapeEntry, GraphMaps, member_id}
use Rattle.sm_model.specs.declared.kind.Kind.TheVariants.{Structure, Union}
use Rattle.sm_compile.specs.Sound.{trait_of}
use Rattle.sm_compile.specs.TraitIds.{http_header_id, http_prefix_headers_id, http_query_id, json_name_id}
use Rattle.sm_compile.specs.TraitNodes.{text_of}
use Rattle.sm_rules.specs.Bindings.{BoundSide, an_input, IsBound}
use Rattle.sm_rules.specs.Words.{IsOwnShape, IsListedBehind, read_trait}

-- the names of a member of a shape, each where it has one
abbrev pub header_name : GraphMaps → List ℕ → Option (List ℕ)
header_name g id = text_of (read_trait g id http_header_id)

abbrev pub query_name : GraphMaps → List ℕ → Option (List ℕ)
query_name g id = text_of (read_trait g id http_query_id)

abbrev pub header_prefix : GraphMaps → List ℕ → Option (List ℕ)
header_prefix g id = text_of (read_trait g id http_prefix_headers_id)

-- in JSON: that of `jsonName`, where it is a text, and the member's own without it
-- What stands behind the shape's id and `$` is the member's own
abbrev pub named_by : List ℕ → Option Node → Option (List ℕ)
named_by name None = Some name
named_by name (Some n) = text_of (Some n)

abbrev pub own_name : List ℕ → List ℕ → List ℕ
own_name shape id = drop (length (member_id shape [])) id

abbrev pub name_in_json : GraphMaps → List ℕ → List ℕ → Option (List ℕ)
name_in_json g shape id = named_by (own_name shape id) (trait_of g id json_name_id)

-- an earlier member of the shape has this name too, by a way to name members and a way to compare names
pub record IsNamedAgain (g : GraphMaps) (name_of : List ℕ → Option (List ℕ)) (same : List ℕ → List ℕ → Bool) (shape : List ℕ)
    (s : ShapeEntry) (id detail : List ℕ) : Type 0 where
  pub before : List (List ℕ)
  pub behind : IsListedBehind g shape s before id
  pub is : name_of id ≡ Some detail
  pub again : list_any (same detail) (filter_map name_of before) ≡ true

-- a header begins with the prefix of the shape, which isn't empty
pub record BeginsWithPrefix (g : GraphMaps) (shape : List ℕ) (s : ShapeEntry) (id header : List ℕ) : Type 0 where
  pub home : IsOwnShape g shape s
  pub among : Contains s.members id
  pub is : header_name g id ≡ Some header
  pub other : List ℕ
  pub other_among : Contains s.members other
  pub prefix : List ℕ
  pub has_prefix : header_prefix g other ≡ Some prefix
  pub some : prefix ≡ [] → ⊥
  pub more : List ℕ
  pub begins : str_to_ascii_lowercase header ≡ str_to_ascii_lowercase prefix ++ more

-- Wire.Names: told is the name as the member has it
pub data HasWireNameAgain (g : GraphMaps) (id detail : List ℕ) : Type 0 where
  header_again : (side : BoundSide) (shape : List ℕ) (s : ShapeEntry) → IsBound g side shape
      → IsNamedAgain g (header_name g) str_eq_ignore_ascii_case shape s id detail → HasWireNameAgain g id detail
  query_again : (shape : List ℕ) (s : ShapeEntry) → IsBound g an_input shape → IsNamedAgain g (query_name g) bytes_eq shape s id detail
      → HasWireNameAgain g id detail
  json_again : (shape : List ℕ) (s : ShapeEntry) → (s.kind ≡ Structure) ⊎ (s.kind ≡ Union)
      → IsNamedAgain g (name_in_json g shape) bytes_eq shape s id detail → HasWireNameAgain g id detail
  has_prefix : (side : BoundSide) (shape : List ℕ) (s : ShapeEntry) → IsBound g side shape → BeginsWithPrefix g shape s id detail
      → HasWireNameAgain g id detail
