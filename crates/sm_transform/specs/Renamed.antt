-- What `rename` makes of ids, and when it is refused.
use Rattle.std.specs.Prelude.{◌≡◌, ◌⊎◌, ℕ, List, Some, if◌then◌else◌}
use Rattle.sm_ids.specs.IdText.{IsIdText}
use Rattle.sm_ids.specs.TextParts.{absolute_id, local_part, namespace_part}
use Rattle.sm_tree.specs.Node.{object, Members}
use Rattle.sm_tree.specs.Same.{HasName}
use Rattle.sm_model.specs.Graphs.{GraphMaps, ShapeEntry, shape_entry}
use Rattle.sm_model.specs.Properties.{form_named, property_forms}
use Rattle.sm_model.specs.Relations.{HasBodyPair, HasEntry, IsInGraph}
use Rattle.sm_model.specs.declared.property.PropertyForm.TheVariants.{Rename}
use Rattle.sm_transform.specs.IdChanges.{IdChange}
use Rattle.sm_transform.specs.Included.{CarriesTrait}
use Rattle.sm_transform.specs.Namespaces.{api_namespace, is_of_namespace}

-- an id of one namespace becomes that of another
abbrev pub renamed_id : List ℕ → List ℕ → List ℕ → List ℕ
renamed_id from to id = if is_of_namespace from id then absolute_id to (local_part id) else id

abbrev pub renames : List ℕ → List ℕ → IdChange
renames from to id = Some (renamed_id from to id)

-- a key of a field `rename` of a shape
pub record HasRenameKey (s : ShapeEntry) (key : List ℕ) : Type 0 where
  pub field : List ℕ
  pub pairs : Members
  pub body : HasBodyPair field (object pairs) s.properties
  pub form : form_named field (property_forms s.kind) ≡ Some Rename
  pub among : HasName key pairs

pub record IsRenameKey (g : GraphMaps) (key : List ℕ) : Type 0 where
  pub id : List ℕ
  pub s : ShapeEntry
  pub there : HasEntry g id (shape_entry s)
  pub renames : HasRenameKey s key

-- ids that a graph knows in a namespace: of its shapes, of traits, and keys of `rename`
pub data IsKnownIn (g : GraphMaps) (namespace : List ℕ) : Type 0 where
  shape_known : (id : List ℕ) → IsInGraph g id → namespace_part id ≡ namespace → IsKnownIn g namespace
  trait_known : (id trait : List ℕ) → CarriesTrait g id trait → namespace_part trait ≡ namespace → IsKnownIn g namespace
  key_known : (key : List ℕ) → IsRenameKey g key → namespace_part key ≡ namespace → IsKnownIn g namespace

abbrev pub HasNamespace : GraphMaps → List ℕ → Type 0
HasNamespace g namespace = (id : List ℕ) × IsInGraph g id × (namespace_part id ≡ namespace)

-- why no shapes are renamed: their namespace is `smithy.api`, there are none, or the graph knows the other namespace
abbrev pub IsRefused : GraphMaps → List ℕ → List ℕ → Type 0
IsRefused g from to = (from ≡ api_namespace) ⊎ ((HasNamespace g from → ⊥) ⊎ IsKnownIn g to)

-- each trait stands under an id, as in each graph that was read
abbrev pub HasTraitIds : GraphMaps → Type 0
HasTraitIds g = (id trait : List ℕ) → CarriesTrait g id trait → IsIdText trait
