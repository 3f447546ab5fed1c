-- Nodes of a list and of an object, one by one, with ids as texts; and what stands under a name before.
use Rattle.std.specs.Prelude.{◌≡◌, ℕ, List, [], ◌∷◌, map, Option, Some, None, if◌then◌else◌}
use Rattle.std.specs.List.{flat_map}
use Rattle.std.specs.Str.{bytes_eq}
use Rattle.sm_tree.specs.Node.{Node, members_of}
use Rattle.sm_tree.specs.Parts.{tree_named}
use Rattle.sm_model.specs.declared.kind.Kind.{Kind}
use Rattle.sm_model.specs.Raw.{Raw, RawMembers, raw_leaf, raw_id, raw_list, raw_object, no_raw_members, raw_member}
use Rattle.sm_merge.specs.Meaning.{Defined, node_meant}
use Rattle.sm_merge.specs.Stated.{field_stated, is_empty}

abbrev pub entries_meant : Defined → List Raw → List Node
entries_meant defined ns = map (node_meant defined) ns

abbrev pub pairs_meant : Defined → List (List ℕ × Raw) → List (List ℕ × Node)
pairs_meant defined ms = map (λ m. (m.0, node_meant defined m.1)) ms

abbrev pub raw_named : List ℕ → List (List ℕ × Raw) → Option Raw
raw_named name [] = None
raw_named name (m ∷ ms) = if bytes_eq m.0 name then Some m.1 else raw_named name ms

-- the fields of these names
abbrev pub fields_named : Defined → Kind → List (List ℕ) → List (List ℕ × Raw) → List (List ℕ × Node)
fields_named defined kind names ms = flat_map (λ name. field_stated kind name (tree_named name (members_of (pairs_meant defined ms)))) names

-- the pairs of an object
abbrev pub pair_list : RawMembers → List (List ℕ × Raw)
pair_list no_raw_members = []
pair_list (raw_member k n ms) = (k, n) ∷ pair_list ms

abbrev pub raw_pairs_of : Raw → List (List ℕ × Raw)
raw_pairs_of (raw_object ms) = pair_list ms
raw_pairs_of (raw_leaf n) = []
raw_pairs_of (raw_id r) = []
raw_pairs_of (raw_list ns) = []

abbrev pub IsObject : Raw → Type 0
IsObject n = (ms : RawMembers) × (n ≡ raw_object ms)

-- a field that is given, unless it is empty
abbrev pub filled : List ℕ → Node → List (List ℕ × Node)
filled name n = if is_empty n then [] else (name, n) ∷ []
