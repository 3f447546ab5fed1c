-- That a service says what a graph says of it and of all that it leads to (Smithy 2.0, "Service types", "http trait", "httpError trait",
-- "error trait").
use Rattle.std.specs.Prelude.{◌≡◌, ℕ, pos, List, [], Option, Some, None, codes, map, slice_get}
use Rattle.std.specs.List.{Contains}
use Rattle.std.specs.List.Sorted.{IsStrictlySortedBy}
use Rattle.std.specs.Option.{option_map, unwrap_or}
use Rattle.std.specs.Str.{bytes_eq}
use Rattle.sm_ids.specs.TextParts.{name_part}
use Rattle.sm_model.specs.Graphs.{GraphMaps, ShapeEntry, text_cmp}
use Rattle.sm_model.specs.declared.kind.Kind.TheVariants.{Operation, Service}
use Rattle.sm_compile.specs.Compiled.{EachSays, IsCompiled, Numbering}
use Rattle.sm_compile.specs.Sound.{trait_of}
use Rattle.sm_compile.specs.TraitIds.{error_id, http_error_id, http_id}
use Rattle.sm_compile.specs.TraitNodes.{number_of, text_of}
use Rattle.sm_rules.specs.Http.{HasUri, method_of, success_code_of}
use Rattle.sm_rules.specs.Ready.{IsOfService}
use Rattle.sm_rules.specs.Words.{IsOperation, IsOwnShape}
use Rattle.sm_service.specs.Bound.{Binds}
use Rattle.sm_service.specs.References.{errors_said, reference_in}
use Rattle.sm_service.specs.ServedOperation.{TellsAllServed, walk_roots}
use Rattle.sm_service.specs.ServiceData.{HttpData, OperationData, ServiceData}
use Rattle.sm_service.specs.declared.error.ErrorShape.{ErrorShape}

-- the number of the shape with this id in a table
abbrev pub IsNumberOf : Numbering → List ℕ → ℕ → Type 0
IsNumberOf n id k = slice_get n.shapes k ≡ Some id

-- a row of an error says what the structure with this id says
pub record SaysError (g : GraphMaps) (n : Numbering) (id : List ℕ) (e : ErrorShape) : Type 0 where
  pub id_is : e.id ≡ id
  pub number : IsNumberOf n id e.shape
  pub client : e.client ≡ bytes_eq (unwrap_or (text_of (trait_of g id error_id)) []) (codes "client")
  pub status : option_map pos e.status ≡ number_of (trait_of g id http_error_id)

-- what `http` of an operation says. A code that is missing is 200
pub record SaysHttpRule (g : GraphMaps) (id : List ℕ) (h : HttpData) : Type 0 where
  pub method : method_of g id ≡ Some h.method
  pub uri : HasUri g id h.uri
  pub code : pos h.code ≡ unwrap_or (success_code_of g id) (pos 200)

abbrev pub SaysHttp : GraphMaps → List ℕ → Option HttpData → Type 0
SaysHttp g id None = trait_of g id http_id ≡ None
SaysHttp g id (Some h) = SaysHttpRule g id h

-- an operation of a service: what `service` has under its id is the last
pub record SaysOperation (g : GraphMaps) (n : Numbering) (service : ShapeEntry) (o : OperationData) : Type 0 where
  pub s : ShapeEntry
  pub own : IsOwnShape g o.id s
  pub kind : s.kind ≡ Operation
  pub name : o.name ≡ name_part o.id
  pub input : List ℕ
  pub input_said : reference_in (codes "input") s ≡ Some input
  pub input_number : IsNumberOf n input o.input
  pub output : List ℕ
  pub output_said : reference_in (codes "output") s ≡ Some output
  pub output_number : IsNumberOf n output o.output
  pub errors : EachSays (SaysError g n) (errors_said s service) o.errors
  pub http : SaysHttp g o.id o.http
  pub served : TellsAllServed g (walk_roots input output (errors_said s service)) o.served

-- an operation to which a service leads, itself or by its resources
abbrev pub IsOperationOf : GraphMaps → List ℕ → List ℕ → Type 0
IsOperationOf g service id = IsOfService g service id × IsOperation g id

-- exactly these operations, in the order of their names
pub record AreOperationsOf (g : GraphMaps) (service : List ℕ) (n : Numbering) (s : ShapeEntry) (os : List OperationData) : Type 0 where
  pub each : (o : OperationData) → Contains os o → IsOperationOf g service o.id × SaysOperation g n s o
  pub all : (id : List ℕ) → IsOperationOf g service id → Contains (map (λ o. o.id) os) id
  pub rise : IsStrictlySortedBy text_cmp (map (λ o. o.name) os)

-- the service with this id: its table has the shapes with values among all that it leads to, identifiers and properties of its resources
-- too, and nothing else
pub record IsServiceOf (g : GraphMaps) (id : List ℕ) (service : ServiceData) : Type 0 where
  pub s : ShapeEntry
  pub own : IsOwnShape g id s
  pub kind : s.kind ≡ Service
  pub numbering : Numbering
  pub compiled : IsCompiled g (IsOfService g id) service.table numbering
  pub binds : Binds g numbering service.table
  pub name : service.name ≡ name_part id
  pub operations : AreOperationsOf g id numbering s service.operations
