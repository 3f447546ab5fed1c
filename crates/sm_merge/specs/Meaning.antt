-- What a reference means once it is known which shapes there are (Smithy 2.0, "Shape ID", relative shape ids): the first id
-- that the file uses under the name, else the shape of that name in the file's namespace, else the prelude's. One that means
-- none stands for the id in the file's namespace, and in a trait's place for the id in the prelude's.
use Rattle.std.specs.Prelude.{ℕ, Bool, List, ◌++◌, map, Option, Some, None, if◌then◌else◌}
use Rattle.std.specs.Option.{unwrap_or}
pub use Rattle.sm_ids.specs.TextParts.{absolute_id, is_absolute, member_part, shape_part}
use Rattle.sm_tree.specs.Node.{Node, Nodes, Members, text, list, object, no_nodes, node, no_members, member}
use Rattle.sm_model.specs.Raw.{Raw, Raws, RawMembers, raw_leaf, raw_id, raw_list, raw_object, no_raws, raw, no_raw_members, raw_member}
use Rattle.sm_model.specs.PreludeShapes.{api_id, is_prelude_id}
use Rattle.sm_model.specs.Used.{used_under}
use Rattle.sm_model.specs.declared.reference.Ref.{Ref}

-- the ids of the shapes that the files define
abbrev pub Defined : Type 0
Defined = List ℕ → Bool

-- the shape that a name stands for in a file of this namespace that uses no id under it
abbrev pub found_in : Defined → List ℕ → List ℕ → Bool → List ℕ
found_in defined namespace name in_trait =
    let own : List ℕ = absolute_id namespace name in
    if defined own then own else if is_prelude_id (api_id name) then api_id name else if in_trait then api_id name else own

abbrev pub relative_meaning : Defined → Ref → List ℕ → List ℕ → List ℕ
relative_meaning defined r namespace name = unwrap_or (used_under name r.uses) (found_in defined namespace name r.in_trait)

-- the id that a reference means; a member stays, whether it is there or not
abbrev pub meaning_in : Defined → Ref → Option (List ℕ) → List ℕ
meaning_in defined r None = r.text
meaning_in defined r (Some namespace) =
    if is_absolute r.text then r.text else relative_meaning defined r namespace (shape_part r.text) ++ member_part r.text

abbrev pub meaning : Defined → Ref → List ℕ
meaning defined r = meaning_in defined r r.namespace

abbrev pub meanings : Defined → List Ref → List (List ℕ)
meanings defined rs = map (meaning defined) rs

abbrev mutual
  -- a node whose bare ids are the texts of what they mean
  pub node_meant : Defined → Raw → Node
  node_meant defined (raw_leaf n) = n
  node_meant defined (raw_id r) = text (meaning defined r)
  node_meant defined (raw_list ns) = list (nodes_meant defined ns)
  node_meant defined (raw_object ms) = object (members_meant defined ms)

  pub nodes_meant : Defined → Raws → Nodes
  nodes_meant defined no_raws = no_nodes
  nodes_meant defined (raw n ns) = node (node_meant defined n) (nodes_meant defined ns)

  pub members_meant : Defined → RawMembers → Members
  members_meant defined no_raw_members = no_members
  members_meant defined (raw_member k n ms) = member k (node_meant defined n) (members_meant defined ms)
