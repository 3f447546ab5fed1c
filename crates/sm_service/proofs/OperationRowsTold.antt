-- The row of an operation, and the rows of all operations of a service.
use Rattle.std.proofs.Common.{◌≡◌, ℕ, List, [], ◌∷◌, Some, map, refl, sym, ap, ◌∙◌, subst}
use Rattle.std.specs.Prelude.{codes, slice_get}
use Rattle.std.specs.List.{Contains}
use Rattle.std.specs.List.Sorted.{IsStrictlySortedBy}
use Rattle.std.specs.Option.{option_map}
use Rattle.std.proofs.lemmas.Option.{same_Some, slice_get-map}
use Rattle.sm_ids.specs.TextParts.{name_part}
use Rattle.sm_model.specs.Graphs.{ShapeEntry, shape_entry, text_cmp}
use Rattle.sm_model.specs.GraphView.{IsShapeNumber, maps_of}
use Rattle.sm_model.specs.Reaching.{id_of_number}
use Rattle.sm_model.specs.Relations.{HasEntry}
use Rattle.sm_model.specs.declared.graph.Graph.{Graph}
use Rattle.sm_compile.specs.Compiled.{EachSays}
use Rattle.sm_compile.specs.steps.Numbered.{numbering}
use Rattle.sm_compile.proofs.TabledShapes.{mapped_from}
use Rattle.sm_rules.specs.Words.{IsOwnShape}
use Rattle.sm_service.specs.Compiled.{AreOperationsOf, IsOperationOf, SaysError, SaysHttp}
use Rattle.sm_service.specs.References.{errors_said, reference_in}
use Rattle.sm_service.specs.ServedOperation.{TellsAllServed, walk_roots}
use Rattle.sm_service.specs.ServiceData.{OperationData}
use Rattle.sm_service.specs.declared.error.ErrorShape.{ErrorShape}
use Rattle.sm_service.specs.steps.OperationRows.{AreOperationNumbers, AreRowNumbers, HasRow, RefersTo, SharesErrors, TellsOperation}
use Rattle.sm_service.specs.steps.OperationRows.{ids_of_errors, name_of_number}
use Rattle.sm_service.proofs.OnceNumbers.{id_there, row_there}
use Rattle.sm_service.proofs.OperationsTold.{row_in, rows_map}

map_same : (xs : List (List ℕ)) → map (λ (x : List ℕ). x) xs ≡ xs
map_same [] = refl
map_same (x ∷ xs) = ap (λ ys. x ∷ ys) (map_same xs)

map_on : {X Y Z : Type 0} (f : X → Y) (h : Y → Z) (xs : List X) → map h (map f xs) ≡ map (λ x. h (f x)) xs
map_on f h [] = refl
map_on f h (x ∷ xs) = ap (λ ys. h (f x) ∷ ys) (map_on f h xs)

-- a field that refers to a shape of the table
module _ (g : Graph) (shapes : List ℕ) (rows : AreRowNumbers g shapes) (s : ShapeEntry) (name : List ℕ)
    (field : (id : List ℕ) × (reference_in name s ≡ Some id) × HasRow g shapes id) where
  pub refers_told : (k : ℕ) → HasEntry (maps_of g) (id_of_number g k) (shape_entry s) → RefersTo g k name
  refers_told k has = (s, has, (field.0, field.1, id_there g shapes rows field.0 field.2))

  pub field_row : (k : ℕ) → IsShapeNumber g k → reference_in name s ≡ Some (id_of_number g k) → Contains shapes k
  field_row k lt said =
      row_there g shapes rows field.0 k field.2 lt (same_Some (id_of_number g k) field.0 (sym said ∙ field.1))

module _ (g : Graph) (shapes : List ℕ) (known : List ErrorShape) where
  pub operation_told : (k : ℕ) (o : OperationData) (input output : ℕ) → o.id ≡ id_of_number g k → o.name ≡ name_of_number g k
      → ((s : ShapeEntry) → HasEntry (maps_of g) (id_of_number g k) (shape_entry s)
      → reference_in (codes "input") s ≡ Some (id_of_number g input))
      → ((s : ShapeEntry) → HasEntry (maps_of g) (id_of_number g k) (shape_entry s)
      → reference_in (codes "output") s ≡ Some (id_of_number g output))
      → slice_get shapes o.input ≡ Some input → slice_get shapes o.output ≡ Some output
      → ((s service : ShapeEntry) → HasEntry (maps_of g) (id_of_number g k) (shape_entry s) → SharesErrors g shapes service known s
      → EachSays (SaysError (maps_of g) (numbering g shapes)) (errors_said s service) o.errors)
      → SaysHttp (maps_of g) (id_of_number g k) o.http
      → TellsAllServed (maps_of g) (walk_roots (id_of_number g input) (id_of_number g output) (ids_of_errors o.errors)) o.served
      → TellsOperation g shapes known (id_of_number g k) o
  operation_told k o input output id_is name_is input_said output_said input_row output_row errors http served = record {
    id_is = id_is;
    name_is = name_is;
    says = λ s service own kind shares.
        let each = errors s service own.0 shares in
        let ids : ids_of_errors o.errors ≡ errors_said s service =
        rows_map (SaysError (maps_of g) (numbering g shapes)) (λ e. e.id) (λ x. x) (λ id e says. says.id_is) (errors_said s service) o.errors each
        ∙ map_same (errors_said s service) in
        record {
          s = s;
          own = subst (λ i. IsOwnShape (maps_of g) i s) (sym id_is) own;
          kind = kind;
          name = name_is ∙ ap name_part (sym id_is);
          input = id_of_number g input;
          input_said = input_said s own.0;
          input_number = slice_get-map (id_of_number g) shapes o.input ∙ ap (option_map (id_of_number g)) input_row;
          output = id_of_number g output;
          output_said = output_said s own.0;
          output_number = slice_get-map (id_of_number g) shapes o.output ∙ ap (option_map (id_of_number g)) output_row;
          errors = each;
          http = subst (λ i. SaysHttp (maps_of g) i o.http) (sym id_is) http;
          served = subst (λ ids. TellsAllServed (maps_of g) (walk_roots (id_of_number g input) (id_of_number g output) ids) o.served) ids served;
        };
  }

  -- all of them
  pub operations_are : (service : List ℕ) (v : ShapeEntry) (ks : List ℕ) (os : List OperationData) → AreOperationNumbers g service ks
      → EachSays (TellsOperation g shapes known) (map (id_of_number g) ks) os
      → ((id : List ℕ) → IsOperationOf (maps_of g) service id → (s : ShapeEntry) → IsOwnShape (maps_of g) id s
      → SharesErrors g shapes v known s)
      → AreOperationsOf (maps_of g) service (numbering g shapes) v os
  operations_are service v ks os numbers told shares = record {
    each = λ o there.
        let r = row_in (TellsOperation g shapes known) (map (id_of_number g) ks) os o told there in
        let k = mapped_from (id_of_number g) ks r.0 r.1 in
        let is : IsOperationOf (maps_of g) service r.0 = subst (IsOperationOf (maps_of g) service) k.2 (numbers.each k.0 k.1) in (
          subst (IsOperationOf (maps_of g) service) (sym r.2.id_is) is,
          r.2.says is.1.0 v is.1.1 is.1.2 (shares r.0 is is.1.0 is.1.1),
        );
    all = λ id h. subst (λ ids. Contains ids id) (sym ids_told) (numbers.all id h);
    rise = subst (IsStrictlySortedBy text_cmp) (sym names_told) numbers.rise;
  }
    where
      ids_told : map (λ (o : OperationData). o.id) os ≡ map (id_of_number g) ks
      ids_told =
          rows_map (TellsOperation g shapes known) (λ o. o.id) (λ x. x) (λ id o says. says.id_is) (map (id_of_number g) ks) os told
          ∙ map_same (map (id_of_number g) ks)

      names_told : map (λ (o : OperationData). o.name) os ≡ map (name_of_number g) ks
      names_told =
          rows_map (TellsOperation g shapes known) (λ o. o.name) name_part (λ id o says. says.name_is) (map (id_of_number g) ks) os told
          ∙ map_on (id_of_number g) name_part ks
