-- The values of enums, of each shape of a table.
use Rattle.std.proofs.Common.{◌≡◌, ℕ, List, [], ◌∷◌, get_or, Some, None, sym, ◌∙◌, subst}
use Rattle.std.specs.Prelude.{slice_get}
use Rattle.std.specs.List.{Contains}
use Rattle.std.proofs.lemmas.Option.{get_or_from_slice_get, none-some, same_Some}
use Rattle.sm_model.specs.GraphView.{AreShapeNumbers, IsShapeNumber, maps_of}
use Rattle.sm_model.specs.Reaching.{id_of_number}
use Rattle.sm_model.specs.declared.graph.Graph.{Graph}
use Rattle.sm_model.specs.declared.kind.Kind.{Kind}
use Rattle.sm_model.proofs.OneRising.{contains_behind, contains_head}
use Rattle.sm_compile.specs.declared.values.EnumValues.{EnumValues}
use Rattle.sm_compile.specs.steps.Looked.{kind_under, listed_under}
use Rattle.sm_compile.specs.steps.Numbered.{AreReady}
use Rattle.sm_compile.specs.steps.Valued.{AreValues, HasValues, HasValuesOf}

pub values_told : (g : Graph) (k : ℕ) (kind : Kind) (ids : List (List ℕ)) (v : EnumValues)
    → kind_under (maps_of g) (id_of_number g k) ≡ Some kind → ids ≡ listed_under (maps_of g) (id_of_number g k)
    → HasValues (maps_of g) kind ids v → HasValuesOf g k v
values_told g k kind ids v there is has other at =
    subst (λ o. HasValues (maps_of g) o (listed_under (maps_of g) (id_of_number g k)) v) (same_Some kind other (sym there ∙ at))
    (subst (λ xs. HasValues (maps_of g) kind xs v) is has)

-- a member has none
pub none_told : (g : Graph) (k : ℕ) (v : EnumValues) → kind_under (maps_of g) (id_of_number g k) ≡ None → HasValuesOf g k v
none_told g k v none kind at = absurd (none-some kind (sym none ∙ at))

-- those in the row of a shape
pub in_row : (g : Graph) (shapes : List ℕ) (values : List EnumValues) (row k : ℕ) (kind : Kind) (v : EnumValues) → AreValues g shapes values
    → slice_get values row ≡ Some v → get_or shapes row 0 ≡ k → kind_under (maps_of g) (id_of_number g k) ≡ Some kind
    → HasValues (maps_of g) kind (listed_under (maps_of g) (id_of_number g k)) v
in_row g shapes values row k kind v are at is there =
    subst (λ j. HasValuesOf g j v) is (are.each row v at) kind there

-- the number of a target in the table
pub target_row_is : (shapes : List ℕ) (row k : ℕ) → slice_get shapes row ≡ Some k → get_or shapes row 0 ≡ k
target_row_is shapes row k at = get_or_from_slice_get shapes row k 0 at

-- the numbers of a table's shapes are those of the graph's
numbers_each : (g : Graph) (all ks : List ℕ) → ((k : ℕ) → Contains all k → IsShapeNumber g k) → ((k : ℕ) → Contains ks k → Contains all k)
    → AreShapeNumbers g ks
numbers_each g all [] each among = tt
numbers_each g all (k ∷ ks) each among =
    (each k (among k (contains_head k ks)), numbers_each g all ks each (λ j there. among j (contains_behind k j ks there)))

pub ready_numbers : (g : Graph) (shapes : List ℕ) (texts : List (List ℕ)) → AreReady g shapes texts → AreShapeNumbers g shapes
ready_numbers g shapes texts ready = numbers_each g shapes shapes (λ k there. (ready.each k there).number) (λ k there. there)
