-- What `http` of an operation outside of the prelude says, as functions of its id.
use Rattle.std.specs.Prelude.{◌&&◌, ℕ, Bool, false, List, Option, Some, None, cond, codes, ℤ}
use Rattle.sm_tree.specs.Node.{Node}
use Rattle.sm_model.specs.Graphs.{GraphMaps}
use Rattle.sm_compile.specs.Sound.{trait_of}
use Rattle.sm_compile.specs.TraitIds.{http_id}
use Rattle.sm_compile.specs.TraitNodes.{field_of, is_number, is_object, is_text, text_of, where_there, number_of}
use Rattle.sm_rules.specs.Words.{field_in}
use Rattle.sm_http_traits.specs.Carriers.{is_own_operation}

-- a test of what must be there
abbrev pub is_there_as : (Node → Bool) → Option Node → Bool
is_there_as test None = false
is_there_as test (Some n) = test n

abbrev pub is_http_value : Node → Bool
is_http_value n =
    is_object n && (is_there_as is_text (field_of (codes "method") n)
    && (is_there_as is_text (field_of (codes "uri") n) && where_there is_number (field_of (codes "code") n)))

abbrev pub that_is_http : Option Node → Option Node
that_is_http None = None
that_is_http (Some n) = cond (is_http_value n) (Some n) None

abbrev pub http_seen : GraphMaps → List ℕ → Option Node
http_seen g id = cond (is_own_operation g id) (that_is_http (trait_of g id http_id)) None

abbrev pub method_seen : GraphMaps → List ℕ → Option (List ℕ)
method_seen g id = text_of (field_in (codes "method") (http_seen g id))

abbrev pub uri_seen : GraphMaps → List ℕ → Option (List ℕ)
uri_seen g id = text_of (field_in (codes "uri") (http_seen g id))

abbrev pub code_seen : GraphMaps → List ℕ → Option ℤ
code_seen g id = number_of (field_in (codes "code") (http_seen g id))
