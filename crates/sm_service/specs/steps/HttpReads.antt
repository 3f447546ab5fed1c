-- That `http` of an operation reads: what is known of each operation of a service that is ready.
use Rattle.std.specs.Prelude.{◌≡◌, ◌<◌, ◌^◌, ℕ, ℤ, pos, List, Some}
use Rattle.sm_tree.specs.Node.{Node}
use Rattle.sm_model.specs.Graphs.{GraphMaps}
use Rattle.sm_compile.specs.Sound.{trait_of}
use Rattle.sm_compile.specs.TraitIds.{http_id}
use Rattle.sm_uri.specs.UriPattern.{IsUriText, UriSaid, UriText}
use Rattle.sm_rules.specs.Words.{IsOperation}
use Rattle.sm_http_traits.specs.Http.{code_seen, method_seen, uri_seen}

-- its fields, as they are read: it can't be that the `uri` is no pattern, and a code is a status
pub record HasHttpFields (g : GraphMaps) (id : List ℕ) : Type 0 where
  pub method : List ℕ
  pub method_is : method_seen g id ≡ Some method
  pub text : List ℕ
  pub text_is : uri_seen g id ≡ Some text
  pub pattern : (IsUriText text → ⊥) → ⊥
  pub code : (z : ℤ) → code_seen g id ≡ Some z → (k : ℕ) × (z ≡ pos k) × (k < 2 ^ 16)

pub record ReadsHttp (g : GraphMaps) (id : List ℕ) : Type 0 where
  pub operation : IsOperation g id
  pub fields : (n : Node) → trait_of g id http_id ≡ Some n → HasHttpFields g id

-- the pattern that is read
abbrev pub IsUriSeen : GraphMaps → List ℕ → UriSaid → Type 0
IsUriSeen g id u = (t : List ℕ) × (uri_seen g id ≡ Some t) × UriText u t
