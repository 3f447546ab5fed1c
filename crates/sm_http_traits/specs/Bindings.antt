-- The traits that bind members to parts of messages, by the enums of the code.
use Rattle.std.specs.Prelude.{ℕ, Bool, List, [], ◌∷◌, is_some}
use Rattle.sm_model.specs.Graphs.{GraphMaps}
use Rattle.sm_compile.specs.Sound.{trait_of}
use Rattle.sm_rules.specs.Bindings.{BindingTrait, BoundSide, a_header, a_label, a_payload, a_query, a_response_code, an_error, an_input}
use Rattle.sm_rules.specs.Bindings.{an_output, binding_id, some_prefix_headers, some_query_params}
use Rattle.sm_http_traits.specs.declared.bindings.BindingKind.{BindingKind}
use Rattle.sm_http_traits.specs.declared.bindings.BindingKind.TheVariants as binding
use Rattle.sm_http_traits.specs.declared.bindings.BindingSide.{BindingSide}
use Rattle.sm_http_traits.specs.declared.bindings.BindingSide.TheVariants as side

abbrev pub binding_said : BindingKind → BindingTrait
binding_said binding.Label = a_label
binding_said binding.Query = a_query
binding_said binding.QueryParams = some_query_params
binding_said binding.Header = a_header
binding_said binding.PrefixHeaders = some_prefix_headers
binding_said binding.Payload = a_payload
binding_said binding.ResponseCode = a_response_code

abbrev pub side_said : BindingSide → BoundSide
side_said side.Input = an_input
side_said side.Output = an_output
side_said side.Error = an_error

-- those of each side
abbrev pub bindings_in : BindingSide → List BindingKind
bindings_in side.Input =
    binding.Label ∷ binding.Query ∷ binding.QueryParams ∷ binding.Header ∷ binding.PrefixHeaders ∷ binding.Payload ∷ []
bindings_in side.Output = binding.Header ∷ binding.PrefixHeaders ∷ binding.Payload ∷ binding.ResponseCode ∷ []
bindings_in side.Error = binding.Header ∷ binding.PrefixHeaders ∷ binding.Payload ∷ []

-- the trait stands under an id
abbrev pub carries_binding : GraphMaps → List ℕ → BindingKind → Bool
carries_binding g id b = is_some (trait_of g id (binding_id (binding_said b)))
