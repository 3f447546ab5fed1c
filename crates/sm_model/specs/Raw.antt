-- A node of a file as data, without memory, whose bare ids are still references. Ids come to texts once files are merged.
use Rattle.std.specs.Prelude.{ℕ, List, [], ◌∷◌}
use Rattle.sm_tree.specs.Node.{Node, Nodes, Members, list, object, no_nodes, node, no_members, member}
use Rattle.sm_tree.specs.Node.{null, bool, int, number, text, bytes, tag, opaque}
use Rattle.sm_model.specs.declared.reference.Ref.{Ref}

mutual
  pub data Raw : Type 0 where
    -- a tree that is no list and no object
    raw_leaf : Node → Raw
    -- a bare id
    raw_id : Ref → Raw
    raw_list : Raws → Raw
    raw_object : RawMembers → Raw

  pub data Raws : Type 0 where
    no_raws : Raws
    raw : Raw → Raws → Raws

  pub data RawMembers : Type 0 where
    no_raw_members : RawMembers
    raw_member : List ℕ → Raw → RawMembers → RawMembers

-- entries and pairs as lists become those of a node
abbrev pub raws_of : List Raw → Raws
raws_of [] = no_raws
raws_of (n ∷ ns) = raw n (raws_of ns)

abbrev pub raw_members_of : List (List ℕ × Raw) → RawMembers
raw_members_of [] = no_raw_members
raw_members_of (m ∷ ms) = raw_member m.0 m.1 (raw_members_of ms)

-- an object without pairs
abbrev pub empty_raw : Raw
empty_raw = raw_object no_raw_members

abbrev mutual
  -- a tree, in which no bare id stands, as such a node
  pub raw_of : Node → Raw
  raw_of null = raw_leaf null
  raw_of (bool b) = raw_leaf (bool b)
  raw_of (int z) = raw_leaf (int z)
  raw_of (number t) = raw_leaf (number t)
  raw_of (text t) = raw_leaf (text t)
  raw_of (bytes t) = raw_leaf (bytes t)
  raw_of (tag k n) = raw_leaf (tag k n)
  raw_of (opaque b) = raw_leaf (opaque b)
  raw_of (list ns) = raw_list (raws_of (node_raws ns))
  raw_of (object ms) = raw_object (raw_members_of (member_raws ms))

  pub node_raws : Nodes → List Raw
  node_raws no_nodes = []
  node_raws (node n ns) = raw_of n ∷ node_raws ns

  pub member_raws : Members → List (List ℕ × Raw)
  member_raws no_members = []
  member_raws (member k n ms) = (k, raw_of n) ∷ member_raws ms
