-- The operations of a service that is ready, by their numbers, with the rows of what they refer to: each can have a row.
use Rattle.std.proofs.Common.{◌≡◌, inl, inr, ℕ, Bool, List, ◌++◌, map, length, sym, ap, ◌∙◌}
use Rattle.std.proofs.Common.{subst}
use Rattle.std.specs.List.{Contains}
use Rattle.std.proofs.lemmas.List.Elements.{Contains-append_cases}
use Rattle.sm_model.specs.Graphs.{GraphMaps, ShapeEntry, shape_entry}
use Rattle.sm_model.specs.GraphView.{IsShapeAt, IsShapeEntry, IsShapeNumber, entries_of, maps_of}
use Rattle.sm_model.specs.Reaching.{AreMarks, id_of_number}
use Rattle.sm_model.specs.Relations.{HasEntry}
use Rattle.sm_model.specs.declared.graph.Graph.{Graph}
use Rattle.sm_model.specs.declared.kind.Kind.TheVariants as model
use Rattle.sm_model.proofs.GraphFacts.{entry_under, id_at}
use Rattle.sm_model.proofs.LinkNumbers.{at_from, stands_at}
use Rattle.sm_model.proofs.NumberedIds.{one_entry}
use Rattle.sm_shapes.specs.InOrder.{AreByName}
use Rattle.sm_shapes.specs.Names.{AllDiffer}
use Rattle.sm_compile.specs.Compiled.{EachSays}
use Rattle.sm_compile.specs.Kinds.{has_values}
use Rattle.sm_compile.specs.Sound.{trait_of}
use Rattle.sm_compile.specs.TraitIds.{error_id, http_error_id}
use Rattle.sm_compile.specs.TraitNodes.{number_of}
use Rattle.sm_compile.specs.steps.Numbered.{numbering}
use Rattle.sm_compile.proofs.ReachedNumbers.{each_number, same_number}
use Rattle.sm_compile.proofs.SoundTests.{first_of}
use Rattle.sm_compile.proofs.TabledShapes.{mapped_from}
use Rattle.sm_rules.specs.Ready.{IsOfService, Ready}
use Rattle.sm_rules.specs.TraitRows.{is_kind}
use Rattle.sm_rules.specs.Words.{IsInClosure, IsOwnShape, IsService, has_trait}
use Rattle.sm_service.specs.Compiled.{IsOperationOf, SaysError}
use Rattle.sm_service.specs.References.{once}
use Rattle.sm_service.specs.declared.error.ErrorShape.{ErrorShape}
use Rattle.sm_service.specs.steps.ErrorReads.{IsStatusWord}
use Rattle.sm_service.specs.steps.OperationRows.{AreOperationNumbers, AreRowNumbers, HasRow, HaveErrorRows, IsReadyOperation}
use Rattle.sm_service.specs.steps.OperationRows.{IsRowOperation, NamesTell, SharesErrors, errors_named, name_of_number, operations_below}
use Rattle.sm_service.specs.steps.ServiceTables.{AreValueShapes}
use Rattle.sm_service.specs.steps.WalkStarts.{HasFilledNames}
use Rattle.sm_service.proofs.FilledNames.{names_filled}
use Rattle.sm_service.proofs.HttpReady.{reads_http}
use Rattle.sm_service.proofs.ErrorsApart.{IsErrorOf, one_error, structure_kind}
use Rattle.sm_service.proofs.OperationsNamed.{marked_of, names_below, operations_told}
use Rattle.sm_service.proofs.ServiceOperations.{input_of, one_operation, operation_error, output_of, service_error, status_word}

-- the number of a shape
pub shape_at : (g : Graph) (k : ℕ) (s : ShapeEntry) → IsShapeNumber g k → HasEntry (maps_of g) (id_of_number g k) (shape_entry s)
    → IsShapeAt g k
shape_at g k s lt has =
    let at = stands_at g k lt in
    let id_is : id_of_number g k ≡ at.0 = id_at g k at.0 at.1 at.2 in
    let same : at.1 ≡ shape_entry s =
    one_entry (maps_of g) at.0 at.1 (shape_entry s) (entry_under g k at.0 at.1 at.2)
    (subst (λ i. HasEntry (maps_of g) i (shape_entry s)) id_is has) in
    at_from g k (λ id e. IsShapeEntry e) at.0 at.1 at.2 (subst IsShapeEntry (sym same) tt)

module _ (g : Graph) (service : List ℕ) (is : IsService (maps_of g) service) (ready : Ready (maps_of g) service) where
  abbrev m : GraphMaps
  m = maps_of g

  -- so marked operations are told apart by their names, and in the order of these they are those of the service
  module _ (marks : List Bool) (are : AreMarks (length (entries_of g)) (λ k. IsOfService (maps_of g) service (id_of_number g k)) marks)
      (ks : List ℕ) (told : ks ≡ operations_below g marks (length marks)) where
    below : ks ≡ operations_below g marks (length (entries_of g))
    below = told ∙ ap (operations_below g marks) are.whole

    pub names_differ : AllDiffer (map (name_of_number g) ks)
    names_differ =
        subst (λ ns. AllDiffer (map (name_of_number g) ns)) (sym below)
        (names_below g marks (length (entries_of g)) (λ a b x y same.
        let h = marked_of g marks service are a x in
        let k = marked_of g marks service are b y in
        same_number g a b h.0 k.0 (one_operation m service is ready (id_of_number g a) (id_of_number g b) h.1 k.1 same)))

    pub in_name_order : (ns : List ℕ) → AreByName (name_of_number g) ks ns → AreOperationNumbers g service ns
    in_name_order ns sorted =
        operations_told g marks service are ns (subst (λ xs. AreByName (name_of_number g) xs ns) below sorted)

  -- members have names
  pub filled_names : HasFilledNames m
  filled_names = names_filled m (ready is).formed

  -- names of errors of an operation and of the service tell them apart
  tell_apart : (ids : List (List ℕ)) → ((id : List ℕ) → Contains ids id → IsErrorOf m service id) → NamesTell ids
  tell_apart ids each a b x y same =
      one_error m (ready is).formed service is.0 is.1 is.2 (ready is).none a b (each a x) (each b y) same

  pub service_tell : (v : ShapeEntry) → IsOwnShape m service v → NamesTell (errors_named v)
  service_tell v own = tell_apart (errors_named v) (service_error m service is ready v own)

  pub names_tell : (id : List ℕ) → IsOperationOf m service id → (s v : ShapeEntry) → IsOwnShape m id s → IsOwnShape m service v
      → NamesTell (errors_named s ++ errors_named v)
  names_tell id h s v own its = tell_apart (errors_named s ++ errors_named v) (λ e among.
      elim (Contains-append_cases (errors_named s) (errors_named v) e among) [
        | inl mine ↦ operation_error m service is ready id h s own e mine
        | inr shared ↦ service_error m service is ready v its e shared
      ])

  module _ (shapes : List ℕ) (are : AreValueShapes g service shapes) where
    -- the errors of a service, as an operation shares them
    pub shares_errors : (known : List ErrorShape) (v : ShapeEntry) → IsOwnShape m service v
        → EachSays (SaysError m (numbering g shapes)) (once (errors_named v)) known
        → (id : List ℕ) → IsOperationOf m service id → (s : ShapeEntry) → IsOwnShape m id s → SharesErrors g shapes v known s
    shares_errors known v its rows id h s own = record { rows = rows; tell = names_tell id h s v own its }

    -- the shapes of the table
    pub row_numbers : AreRowNumbers g shapes
    row_numbers = record { numbers = λ k there. each_number g shapes are.numbers k there; rise = are.rise; few = are.few }

    row_of : (id : List ℕ) → IsInClosure m service id → (t : ShapeEntry) → HasEntry m id (shape_entry t) → t.kind ≡ model.Structure
        → HasRow g shapes id
    row_of id inside t there kind =
        mapped_from (id_of_number g) shapes id ((are.all id).1 (inr inside, (t, there, ap has_values kind)))

    error_row : (id : List ℕ) → IsErrorOf m service id → HasRow g shapes id × IsStatusWord (number_of (trait_of m id http_error_id))
    error_row id e = (
      row_of id e.inside e.s e.there
          (structure_kind e.s.kind (first_of (is_kind model.Structure e.s.kind) (has_trait error_id e.s.traits) e.is_error)),
      status_word m service is ready id e,
    )

    pub service_errors : (v : ShapeEntry) → IsOwnShape m service v → HaveErrorRows g shapes (errors_named v)
    service_errors v own id among = error_row id (service_error m service is ready v own id among)

    -- an operation: its input, its output and its errors are in the table
    pub row_operation : (k : ℕ) → IsShapeNumber g k → IsOperationOf m service (id_of_number g k)
        → (s : ShapeEntry) × IsRowOperation g shapes k s
    row_operation k lt h =
        let id = id_of_number g k in
        let s = h.1.0 in
        let input = input_of m service is ready id h in
        let output = output_of m service is ready id h in (
          s,
          record {
            number = lt;
            is_shape = shape_at g k s lt h.1.1.0;
            own = h.1.1;
            kind = h.1.2;
            http = reads_http m service id is ready h;
            input = (input.id, input.said, row_of input.id input.inside input.t input.there input.kind);
            output = (output.id, output.said, row_of output.id output.inside output.t output.there output.kind);
            errors = λ e among. error_row e (operation_error m service is ready id h s h.1.1 e among);
            names = tell_apart (errors_named s) (operation_error m service is ready id h s h.1.1);
          },
        )

    pub ready_operation : (known : List ErrorShape) → EachSays (SaysError m (numbering g shapes)) (once (errors_named is.0)) known
        → (k : ℕ) → IsShapeNumber g k → IsOperationOf m service (id_of_number g k) → IsReadyOperation g shapes known k
    ready_operation known rows k lt h =
        let r = row_operation k lt h in (r.0, is.0, r.1, shares_errors known is.0 is.1 rows (id_of_number g k) h r.0 r.1.own)
