-- What holds of every service that is compiled, and what every protocol stands on. What HTTP bindings ask besides is `HttpServable`.
use Rattle.std.specs.Prelude.{◌≡◌, ◌⊎◌, ◌<◌, ◌^◌, ℕ, IsTrue, List, Some, length, map, slice_get}
use Rattle.std.specs.List.{Contains}
use Rattle.std.specs.List.Sorted.{IsStrictlySortedBy}
use Rattle.httparse.specs.Grammar.{is_token}
use Rattle.sm_ids.specs.Identifier.{IsIdentifier}
use Rattle.sm_ids.specs.IdText.{IsShapeId}
use Rattle.sm_model.specs.Graphs.{text_cmp}
use Rattle.sm_model.specs.Reaching.{LeadsOn}
use Rattle.sm_shapes.specs.InOrder.{Shaped}
use Rattle.sm_shapes.specs.Names.{AllDiffer}
use Rattle.sm_shapes.specs.TableData.{TableData, binding_at, header, json_name_at, kind_at, members_at, name_at, shape_count, target_at}
use Rattle.sm_shapes.specs.declared.kinds.ShapeKind.TheVariants.{LeftOut, Structure, Union}
use Rattle.sm_compile.specs.Served.{type_name}
use Rattle.sm_compile.specs.declared.compiled.Served.TheVariants.{Yes}
use Rattle.sm_service.specs.ServiceData.{OperationData, ServiceData, name_of_error}
use Rattle.sm_service.specs.declared.error.ErrorShape.{ErrorShape}

-- the number is that of a structure
abbrev pub IsStructureIn : TableData → ℕ → Type 0
IsStructureIn t s = (s < shape_count t) × (kind_at t s ≡ Structure)

-- a member of a shape targets another; what is reached from a shape so, itself among it
abbrev pub LeadsIn : TableData → ℕ → ℕ → Type 0
LeadsIn t from to = (k : ℕ) × Contains (members_at t from) k × (target_at t k ≡ to)

abbrev pub IsReachedIn : TableData → ℕ → ℕ → Type 0
IsReachedIn t root s = (steps : List ℕ) × LeadsOn (LeadsIn t) root steps s

-- no member has the name under which a message tells its type
abbrev pub HasNoTypeMember : TableData → ℕ → Type 0
HasNoTypeMember t s =
    (k : ℕ) → Contains (members_at t s) k → ((name_at t k ≡ type_name) ⊎ (json_name_at t k ≡ type_name)) → ⊥

-- values of a shape can be carried by every protocol: none of a type that is left out stands in them, and no name of theirs is taken for
-- that of the message's type
pub record IsCarriedIn (t : TableData) (root : ℕ) : Type 0 where
  pub kinds : (s : ℕ) → IsReachedIn t root s → kind_at t s ≡ LeftOut → ⊥
  pub names : (s : ℕ) → IsReachedIn t root s → ((kind_at t s ≡ Structure) ⊎ (kind_at t s ≡ Union)) → HasNoTypeMember t s

-- no number stands at two places of a list
abbrev pub NumbersDiffer : List ℕ → Type 0
NumbersDiffer ns = (i j k : ℕ) → slice_get ns i ≡ Some k → slice_get ns j ≡ Some k → i ≡ j

-- an operation. Its errors are told apart by their names, and by the numbers of their structures, of which none is its output
pub record IsServableOperation (t : TableData) (o : OperationData) : Type 0 where
  pub name : IsIdentifier o.name
  pub input : IsStructureIn t o.input
  pub output : IsStructureIn t o.output
  pub errors : (e : ErrorShape) → Contains o.errors e → IsStructureIn t e.shape × IsShapeId e.id
  pub few : length o.errors < 2 ^ 32
  pub error_names : AllDiffer (map name_of_error o.errors)
  pub error_shapes : NumbersDiffer (map (λ e. e.shape) o.errors)
  pub no_output : (e : ErrorShape) → Contains o.errors e → e.shape ≡ o.output → ⊥
  pub input_carried : o.served ≡ Yes → IsCarriedIn t o.input
  pub output_carried : o.served ≡ Yes → IsCarriedIn t o.output
  pub errors_carried : o.served ≡ Yes → (e : ErrorShape) → Contains o.errors e → IsCarriedIn t e.shape

-- Operations are found by their names, by halves. What a header is called is a token of HTTP
pub record Servable (s : ServiceData) : Type 0 where
  pub shaped : Shaped s.table
  pub tokens : (k : ℕ) (name : List ℕ) → binding_at s.table k ≡ Some (header name) → IsTrue (is_token name)
  pub name : IsIdentifier s.name
  pub few : length s.operations < 2 ^ 32
  pub order : IsStrictlySortedBy text_cmp (map (λ o. o.name) s.operations)
  pub each : (o : OperationData) → Contains s.operations o → IsServableOperation s.table o
