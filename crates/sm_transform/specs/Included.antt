-- What `include` keeps: the least set that has what a selector picks, and all that this needs. Shapes and members are both meant by ids.
use Rattle.std.specs.Prelude.{◌≡◌, ◌⊎◌, ℕ, true, List, Some}
use Rattle.std.specs.FinMap as fin
use Rattle.sm_tree.specs.Node.{Node}
use Rattle.sm_model.specs.Graphs.{Entry, GraphMaps, traits_in}
use Rattle.sm_model.specs.Relations.{HasEntry, IsInGraph, IsRelated}
use Rattle.sm_model.specs.declared.relation.Relation.{Relation}
use Rattle.sm_select.specs.Picks.{IsPicked}
use Rattle.sm_select.specs.Selectors.{Steps}
use Rattle.sm_transform.specs.Namespaces.{is_of_api}

-- a shape or member carries a trait of this id
pub record CarriesTrait (g : GraphMaps) (id trait : List ℕ) : Type 0 where
  pub entry : Entry
  pub there : HasEntry g id entry
  pub value : Node
  pub found : fin.get (traits_in entry) trait ≡ Some value

-- what the selector picks; what any relation leads to from it, as from a member to its shape and from a shape to its members; and the
-- shapes of its traits
pub data IsIncluded (g : GraphMaps) (steps : Steps) : List ℕ → Type 0 where
  picked : {id : List ℕ} → IsPicked g steps id → IsIncluded g steps id
  related : {from id : List ℕ} (relation : Relation) → IsIncluded g steps from → IsRelated relation g from id → IsIncluded g steps id
  trait_of : {from id : List ℕ} → IsIncluded g steps from → CarriesTrait g from id → IsInGraph g id → IsIncluded g steps id

-- what stays. What stays for its namespace alone needs nothing
abbrev pub StaysIncluded : GraphMaps → Steps → List ℕ → Type 0
StaysIncluded g steps id = IsIncluded g steps id ⊎ (is_of_api id ≡ true)
