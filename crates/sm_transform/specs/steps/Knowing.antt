-- What a graph knows in a namespace, number by number.
use Rattle.std.specs.Prelude.{◌≡◌, ◌⊎◌, ◌<◌, ℕ, List, Some}
use Rattle.sm_ids.specs.TextParts.{namespace_part}
use Rattle.sm_tree.specs.Node.{Members, Node, object}
use Rattle.sm_tree.specs.Same.{HasName, HasPair}
use Rattle.sm_model.specs.Graphs.{Entry, shape_entry, member_entry}
use Rattle.sm_model.specs.GraphView.{At, maps_of}
use Rattle.sm_model.specs.Properties.{form_named, property_forms}
use Rattle.sm_model.specs.Reaching.{id_of_number}
use Rattle.sm_model.specs.declared.graph.Graph.{Graph}
use Rattle.sm_model.specs.declared.kind.Kind.{Kind}
use Rattle.sm_model.specs.declared.property.PropertyForm.TheVariants.{Rename}
use Rattle.sm_transform.specs.Included.{CarriesTrait}
use Rattle.sm_transform.specs.Renamed.{HasRenameKey}

abbrev pub HasKeyIn : List ℕ → Entry → Type 0
HasKeyIn namespace (shape_entry s) = (key : List ℕ) × HasRenameKey s key × (namespace_part key ≡ namespace)
HasKeyIn namespace (member_entry m) = ⊥

abbrev pub IsInNamespaceAt : Graph → List ℕ → ℕ → Type 0
IsInNamespaceAt g namespace k = namespace_part (id_of_number g k) ≡ namespace

abbrev pub HasTraitIn : Graph → List ℕ → ℕ → Type 0
HasTraitIn g namespace k = (t : List ℕ) × CarriesTrait (maps_of g) (id_of_number g k) t × (namespace_part t ≡ namespace)

-- its id, a trait of it, or a key of its `rename`
abbrev pub KnowsAt : Graph → List ℕ → ℕ → Type 0
KnowsAt g namespace k =
    IsInNamespaceAt g namespace k ⊎ (HasTraitIn g namespace k ⊎ At g k (λ id e. HasKeyIn namespace e))

-- some number below a bound
abbrev pub SomeBelow : (ℕ → Type 0) → ℕ → Type 0
SomeBelow Holds bound = (k : ℕ) × (k < bound) × Holds k

-- a key of an object is of a namespace; a field `rename` has such a key; one of some fields; and a body
abbrev pub HasKeyOf : List ℕ → Node → Type 0
HasKeyOf namespace n = (pairs : Members) × (n ≡ object pairs) × ((key : List ℕ) × HasName key pairs × (namespace_part key ≡ namespace))

abbrev pub IsKeyField : Kind → List ℕ → Node → List ℕ → Type 0
IsKeyField kind name n namespace = (form_named name (property_forms kind) ≡ Some Rename) × HasKeyOf namespace n

abbrev pub HasFieldKey : Kind → List ℕ → Members → Type 0
HasFieldKey kind namespace ms = (name : List ℕ) × (n : Node) × HasPair name n ms × IsKeyField kind name n namespace

abbrev pub HasBodyKey : Kind → List ℕ → Node → Type 0
HasBodyKey kind namespace n = (ms : Members) × (n ≡ object ms) × HasFieldKey kind namespace ms
