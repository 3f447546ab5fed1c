-- What `exclude` takes out: the least set that has what a selector picks, and all that can't be without it. Shapes and members are both
-- meant by ids. Nothing of the namespace `smithy.api` is taken out.
use Rattle.std.specs.Prelude.{◌≡◌, ◌⊎◌, ℕ, false, List}
use Rattle.sm_model.specs.Graphs.{Entry, GraphMaps}
use Rattle.sm_model.specs.GraphView.{HasKind}
use Rattle.sm_model.specs.Relations.{HasEntry, IsRelated}
use Rattle.sm_model.specs.declared.kind.Kind.TheVariants.{List as list_kind, Map}
use Rattle.sm_model.specs.declared.relation.Relation.TheVariants.{Input, Member, Output, Target}
use Rattle.sm_select.specs.Picks.{IsPicked}
use Rattle.sm_select.specs.Selectors.{Steps}
use Rattle.sm_transform.specs.Namespaces.{is_of_api}

-- a list or a map: it has exactly the members of its type, and can't be without one
abbrev pub IsCollection : GraphMaps → List ℕ → Type 0
IsCollection g id = (e : Entry) × HasEntry g id e × (HasKind list_kind e ⊎ HasKind Map e)

-- a shape or member can't be without another: a member without its shape or its target, a list or map without a member, an operation
-- without its input or its output
pub data Needs (g : GraphMaps) (id : List ℕ) : List ℕ → Type 0 where
  its_shape : {shape : List ℕ} → IsRelated Member g shape id → Needs g id shape
  its_target : {target : List ℕ} → IsRelated Target g id target → Needs g id target
  its_member : {member : List ℕ} → IsCollection g id → IsRelated Member g id member → Needs g id member
  its_input : {input : List ℕ} → IsRelated Input g id input → Needs g id input
  its_output : {output : List ℕ} → IsRelated Output g id output → Needs g id output

pub data IsOut (g : GraphMaps) (steps : Steps) : List ℕ → Type 0 where
  picked : {id : List ℕ} → is_of_api id ≡ false → IsPicked g steps id → IsOut g steps id
  lacks : {id gone : List ℕ} → is_of_api id ≡ false → IsOut g steps gone → Needs g id gone → IsOut g steps id
