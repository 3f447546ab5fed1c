-- What values mean are nodes, where files are as readers give them.
use Rattle.std.proofs.Common.{inl, inr, ℕ, List, [], ◌∷◌, ◌++◌, map}
use Rattle.std.proofs.lemmas.Str.{IsUtf8-from_ascii}
use Rattle.sm_ids.proofs.Parting.{id_ascii}
use Rattle.sm_tree.specs.Node.{Node, null, bool, int, number, text, bytes, tag, opaque, list, object}
use Rattle.sm_tree.specs.Json.{IsJson, AreJson, AreJsonMembers}
use Rattle.sm_tree.specs.Same.{AreDistinct, HasDistinctNames, HasName, HaveDistinctNames, IsNode}
use Rattle.sm_model.specs.Formed.{AreFormed, AreRaw, AreRawMembers, AreStatedMembers, AreTraits, DifferInNames, IsFormed, IsLeaf, IsRaw}
use Rattle.sm_model.specs.Formed.{StandsAmong, raw_names}
use Rattle.sm_model.specs.Given.{AreNodes}
use Rattle.sm_model.specs.Raw.{Raw, Raws, RawMembers, raw_leaf, raw_id, raw_list, raw_object, no_raws, raw, no_raw_members, raw_member}
use Rattle.sm_model.specs.Said.{MemberSaid, Said, TraitSaid, apply_said, metadata_said, shape_said}
use Rattle.sm_merge.specs.Meaning.{Defined, meaning, members_meant, node_meant, nodes_meant}
use Rattle.sm_merge.specs.Stated.{AreFormedFiles, all_said, defined_among, member_stated}
use Rattle.sm_merge.specs.Stated.{stated, stated_by, traits_stated}
use Rattle.sm_merge.specs.steps.Placed.{AreMembersOfNodes, AreOfNodes, IsOfNodes}
use Rattle.sm_merge.proofs.BodyNodes.{body_node}
use Rattle.sm_merge.proofs.MeantIds.{meaning_is_id}

leaf_json : (n : Node) → IsLeaf n → IsJson n
leaf_json null h = tt
leaf_json (bool b) h = tt
leaf_json (int z) h = h
leaf_json (number t) h = h
leaf_json (text t) h = h
leaf_json (bytes t) h = absurd h
leaf_json (tag k n) h = absurd h
leaf_json (opaque b) h = absurd h
leaf_json (list ns) h = absurd h
leaf_json (object ms) h = absurd h

leaf_names : (n : Node) → IsLeaf n → HasDistinctNames n
leaf_names null h = tt
leaf_names (bool b) h = tt
leaf_names (int z) h = tt
leaf_names (number t) h = tt
leaf_names (text t) h = tt
leaf_names (bytes t) h = absurd h
leaf_names (tag k n) h = absurd h
leaf_names (opaque b) h = absurd h
leaf_names (list ns) h = absurd h
leaf_names (object ms) h = absurd h

still_named : (defined : Defined) (k : List ℕ) (ms : RawMembers) → HasName k (members_meant defined ms) → StandsAmong k (raw_names ms)
still_named defined k no_raw_members h = h
still_named defined k (raw_member l n ms) (inl e) = inl e
still_named defined k (raw_member l n ms) (inr h) = inr (still_named defined k ms h)

mutual
  json_meant : (defined : Defined) (n : Raw) → IsRaw n → IsJson (node_meant defined n)
  json_meant defined (raw_leaf n) h = leaf_json n h
  json_meant defined (raw_id r) h =
      let id = meaning_is_id defined r h in
      IsUtf8-from_ascii (meaning defined r) (id_ascii id.0 (meaning defined r) id.1)
  json_meant defined (raw_list ns) h = entries_json defined ns h
  json_meant defined (raw_object ms) h = members_json defined ms h.1

  entries_json : (defined : Defined) (ns : Raws) → AreRaw ns → AreJson (nodes_meant defined ns)
  entries_json defined no_raws h = tt
  entries_json defined (raw n ns) h = (json_meant defined n h.0, entries_json defined ns h.1)

  members_json : (defined : Defined) (ms : RawMembers) → AreRawMembers ms → AreJsonMembers (members_meant defined ms)
  members_json defined no_raw_members h = tt
  members_json defined (raw_member k n ms) h = (h.0, json_meant defined n h.1, members_json defined ms h.2)

mutual
  names_meant : (defined : Defined) (n : Raw) → IsRaw n → HasDistinctNames (node_meant defined n)
  names_meant defined (raw_leaf n) h = leaf_names n h
  names_meant defined (raw_id r) h = tt
  names_meant defined (raw_list ns) h = entries_names defined ns h
  names_meant defined (raw_object ms) h = members_names defined ms h.0 h.1

  entries_names : (defined : Defined) (ns : Raws) → AreRaw ns → HaveDistinctNames (nodes_meant defined ns)
  entries_names defined no_raws h = tt
  entries_names defined (raw n ns) h = (names_meant defined n h.0, entries_names defined ns h.1)

  members_names : (defined : Defined) (ms : RawMembers) → DifferInNames (raw_names ms) → AreRawMembers ms
      → AreDistinct (members_meant defined ms)
  members_names defined no_raw_members d h = tt
  members_names defined (raw_member k n ms) d h =
      ((λ named. d.0 (still_named defined k ms named)), names_meant defined n h.1, members_names defined ms d.1 h.2)

-- what a value means is a node
pub meant_is_node : (defined : Defined) (n : Raw) → IsRaw n → IsNode (node_meant defined n)
meant_is_node defined n h = (json_meant defined n h, names_meant defined n h)

traits_are : (defined : Defined) (ts : List TraitSaid) → AreTraits ts → AreNodes (traits_stated defined ts)
traits_are defined [] h = tt
traits_are defined (t ∷ ts) h = (meant_is_node defined t.value h.1, traits_are defined ts h.2)

members_are : (defined : Defined) (ms : List MemberSaid) → AreStatedMembers ms → AreMembersOfNodes (map (member_stated defined) ms)
members_are defined [] h = tt
members_are defined (m ∷ ms) h = (traits_are defined m.traits h.2, members_are defined ms h.3)

statement_is : (defined : Defined) (s : Said) → IsFormed s → IsOfNodes (stated defined s)
statement_is defined (metadata_said key value) h = meant_is_node defined value h.1
statement_is defined (shape_said s) h = (
  traits_are defined s.traits h.traits,
  members_are defined s.members h.members,
  body_node s.kind (node_meant defined s.properties) (meant_is_node defined s.properties h.properties.is_raw),
)
statement_is defined (apply_said id ts) h = traits_are defined ts h.1

file_is : (defined : Defined) (ss : List Said) (more : List Said) → AreFormed ss → AreOfNodes (map (stated defined) more)
    → AreOfNodes (map (stated defined) (ss ++ more))
file_is defined [] more h rest = rest
file_is defined (s ∷ ss) more h rest = (statement_is defined s h.0, file_is defined ss more h.1 rest)

files_are : (defined : Defined) (files : List (List Said)) → AreFormedFiles files → AreOfNodes (map (stated defined) (all_said files))
files_are defined [] h = tt
files_are defined (file ∷ files) h = file_is defined file (all_said files) h.0 (files_are defined files h.1)

-- the values in all statements of files are nodes
pub values_are_nodes : (files : List (List Said)) → AreFormedFiles files → AreOfNodes (stated_by files)
values_are_nodes files h = files_are (defined_among (all_said files)) files h
