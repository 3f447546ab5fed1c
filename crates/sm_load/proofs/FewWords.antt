-- Details that are one of some words: kinds of faults, and the traits of bindings. Few as well.
use Rattle.std.proofs.Common.{◌≡◌, ◌⊎◌, inl, inr, ℕ, List, [], ◌∷◌, Some, refl}
use Rattle.std.specs.Prelude.{slice_get}
use Rattle.std.specs.List.{Contains}
use Rattle.sm_model.specs.Graphs.{GraphMaps}
use Rattle.sm_shapes.specs.FaultWords.{fault_word}
use Rattle.sm_shapes.specs.declared.fault.FaultKind.{FaultKind}
use Rattle.sm_shapes.specs.declared.fault.FaultKind.TheVariants as fault
use Rattle.sm_compile.specs.TraitIds.{http_payload_id}
use Rattle.sm_rules.specs.Bindings.{BindingTrait, a_header, a_label, a_payload, a_query, a_response_code, binding_id, some_prefix_headers}
use Rattle.sm_rules.specs.Bindings.{some_query_params}
use Rattle.sm_rules.specs.Http.{IsBoundWrongly}
use Rattle.sm_load.proofs.Few.{AreFew, contains_at, few_among, few_by, few_either, few_is, few_same}

abbrev kinds : List FaultKind
kinds = fault.WrongType ∷ fault.Null ∷ fault.Repeated ∷ fault.Missing ∷ fault.Width ∷ fault.Base64 ∷ fault.Time ∷ fault.Length
    ∷ fault.Pattern ∷ fault.Enum ∷ fault.Range ∷ fault.Unique ∷ fault.UnionCount ∷ fault.NotCarried ∷ []

kind_place : (kind : FaultKind) → (n : ℕ) × (slice_get kinds n ≡ Some kind)
kind_place fault.WrongType = (0, refl)
kind_place fault.Null = (1, refl)
kind_place fault.Repeated = (2, refl)
kind_place fault.Missing = (3, refl)
kind_place fault.Width = (4, refl)
kind_place fault.Base64 = (5, refl)
kind_place fault.Time = (6, refl)
kind_place fault.Length = (7, refl)
kind_place fault.Pattern = (8, refl)
kind_place fault.Enum = (9, refl)
kind_place fault.Range = (10, refl)
kind_place fault.Unique = (11, refl)
kind_place fault.UnionCount = (12, refl)
kind_place fault.NotCarried = (13, refl)

-- a detail that is the word of some kind
pub few_fault_words : (F : List ℕ → Type 0) → ((detail : List ℕ) → F detail → (kind : FaultKind) × (detail ≡ fault_word kind)) → AreFew F
few_fault_words F is =
    few_same (λ detail. (kind : FaultKind) × Contains kinds kind × (detail ≡ fault_word kind)) F
    (λ detail h. ((is detail h).0, in_kinds (is detail h).0, (is detail h).1))
    (few_by (Contains kinds) (λ kind detail. detail ≡ fault_word kind) (few_among kinds) (λ kind. few_is (fault_word kind)))
  where
    in_kinds : (kind : FaultKind) → Contains kinds kind
    in_kinds kind = contains_at kinds (kind_place kind).0 kind (kind_place kind).1

abbrev bindings : List BindingTrait
bindings = a_label ∷ a_query ∷ some_query_params ∷ a_header ∷ some_prefix_headers ∷ a_payload ∷ a_response_code ∷ []

binding_place : (binding : BindingTrait) → (n : ℕ) × (slice_get bindings n ≡ Some binding)
binding_place a_label = (0, refl)
binding_place a_query = (1, refl)
binding_place some_query_params = (2, refl)
binding_place a_header = (3, refl)
binding_place some_prefix_headers = (4, refl)
binding_place a_payload = (5, refl)
binding_place a_response_code = (6, refl)

abbrev IsBindingId : List ℕ → Type 0
IsBindingId detail = (binding : BindingTrait) × Contains bindings binding × (detail ≡ binding_id binding)

pub few_bound : (g : GraphMaps) (id : List ℕ) → AreFew (IsBoundWrongly g id)
few_bound g id =
    few_same (λ detail. IsBindingId detail ⊎ (detail ≡ http_payload_id)) (IsBoundWrongly g id) either
    (few_either IsBindingId (λ detail. detail ≡ http_payload_id)
    (few_by (Contains bindings) (λ binding detail. detail ≡ binding_id binding) (few_among bindings)
    (λ binding. few_is (binding_id binding)))
    (few_is http_payload_id))
  where
    either : (detail : List ℕ) → IsBoundWrongly g id detail → IsBindingId detail ⊎ (detail ≡ http_payload_id)
    either detail (IsBoundWrongly.wrong_target binding h is) =
        inl (binding, contains_at bindings (binding_place binding).0 binding (binding_place binding).1, is)
    either detail (IsBoundWrongly.beside_payload h is) = inr is
