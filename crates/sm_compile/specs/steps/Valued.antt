-- The values of enums, shape by shape, as the rows of a table share them.
use Rattle.std.specs.Prelude.{◌≡◌, ℕ, List, Some, get_or, length}
use Rattle.sm_model.specs.Graphs.{GraphMaps}
use Rattle.sm_model.specs.GraphView.{maps_of}
use Rattle.sm_model.specs.Reaching.{id_of_number}
use Rattle.sm_model.specs.declared.graph.Graph.{Graph}
use Rattle.sm_model.specs.declared.kind.Kind.{Kind}
use Rattle.sm_compile.specs.Said.{numbers_said, texts_said}
use Rattle.sm_compile.specs.declared.values.EnumValues.{EnumValues}
use Rattle.sm_compile.specs.steps.Looked.{kind_under, listed_under}
use Rattle.sm_compile.specs.steps.Numbered.{EachAt}

-- the values of a shape of this type with these members
pub record HasValues (g : GraphMaps) (kind : Kind) (ids : List (List ℕ)) (v : EnumValues) : Type 0 where
  pub texts : v.texts ≡ texts_said g kind ids
  pub numbers : v.numbers ≡ numbers_said g kind ids

-- those of what has a number in the graph
abbrev pub HasValuesOf : Graph → ℕ → EnumValues → Type 0
HasValuesOf g k v =
    (kind : Kind) → kind_under (maps_of g) (id_of_number g k) ≡ Some kind
    → HasValues (maps_of g) kind (listed_under (maps_of g) (id_of_number g k)) v

-- those of the shape at a place
abbrev pub HasValuesAt : Graph → List ℕ → ℕ → EnumValues → Type 0
HasValuesAt g shapes k v = HasValuesOf g (get_or shapes k 0) v

-- those of each of these shapes
pub record AreValues (g : Graph) (shapes : List ℕ) (values : List EnumValues) : Type 0 where
  pub long : length values ≡ length shapes
  pub each : EachAt (HasValuesAt g shapes) values
