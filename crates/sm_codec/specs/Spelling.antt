-- Which value of a place a tree spells: one that fits, and whose parts the tree spells, by cases on the value.
use Rattle.std.specs.Prelude.{◌≡◌, ◌⊎◌, ℕ, true, false, List, [], ◌∷◌, ◌++◌, Some, None}
use Rattle.std.specs.List.{Contains}
use Rattle.sm_tree.specs.Node.{Node, null, list, object, nodes_of, members_of}
use Rattle.sm_shapes.specs.Values.{Val, Vals, EntryVals, FieldVals, null_val, bool_val, int_val, text_val, blob_val, time_val, list_val}
use Rattle.sm_shapes.specs.Values.{map_val, structure_val, union_val, no_vals, val, no_entries, entry, no_fields, field, keys_of}
use Rattle.sm_shapes.specs.TableData.{default_at}
use Rattle.sm_shapes.specs.Places.{Place, member_place, members_of_place, entry_place, value_place}
use Rattle.sm_shapes.specs.Fitting.{Fits}
use Rattle.sm_codec.specs.declared.simple.Simple.{Simple}
use Rattle.sm_codec.specs.Convention.{Leaf}
use Rattle.sm_codec.specs.Sorts.{simple, a_list, a_map, a_structure, a_union}
use Rattle.sm_codec.specs.Codec.{Codec, sort_at, wire_name}
use Rattle.sm_codec.specs.Named.{named, is_null}

-- a tree that spells a simple value by the convention
abbrev pub IsLeaf : Codec → Place → Val → Node → Type 0
IsLeaf c p v n = (x : Simple) × (sort_at c p ≡ simple x) × Leaf c.convention x v n

-- nothing, or null alone
abbrev pub NoneOrNull : List Node → Type 0
NoneOrNull [] = Unit {0}
NoneOrNull (n ∷ []) = is_null n ≡ true
NoneOrNull (n ∷ more ∷ ns) = ⊥

-- under the names of these members of a place stands nothing, or null alone
abbrev pub StandNot : Codec → Place → List (List ℕ × Node) → List ℕ → Type 0
StandNot c p ps [] = Unit {0}
StandNot c p ps (k ∷ ks) = NoneOrNull (named (wire_name c p k) ps) × StandNot c p ps ks

-- and none of them has a default
abbrev pub AreAbsent : Codec → Place → List (List ℕ × Node) → List ℕ → Type 0
AreAbsent c p ps [] = Unit {0}
AreAbsent c p ps (k ∷ ks) = NoneOrNull (named (wire_name c p k) ps) × (default_at c.table k ≡ None) × AreAbsent c p ps ks

-- null stands for Null, and else what holds of the tree
abbrev pub SpelledOrNull : Type 0 → Val → Node → Type 0
SpelledOrNull holds null_val n = n ≡ null
SpelledOrNull holds v n = holds

-- the one tree under a name, which isn't null
abbrev pub Stands : List ℕ → List (List ℕ × Node) → Node → Type 0
Stands name ps n = (named name ps ≡ n ∷ []) × (is_null n ≡ false)

-- each name is one of these keys
abbrev pub AreKeys : List (List ℕ × Node) → List (List ℕ) → Type 0
AreKeys [] keys = Unit {0}
AreKeys (p ∷ ps) keys = Contains keys p.0 × AreKeys ps keys

abbrev mutual
  -- the tree spells the parts of the value
  pub Spelled : Codec → Place → Val → Node → Type 0
  Spelled c p null_val n = ⊥
  Spelled c p (bool_val b) n = IsLeaf c p (bool_val b) n
  Spelled c p (int_val z) n = IsLeaf c p (int_val z) n
  Spelled c p (text_val u) n = IsLeaf c p (text_val u) n
  Spelled c p (blob_val u) n = IsLeaf c p (blob_val u) n
  Spelled c p (time_val ms) n = IsLeaf c p (time_val ms) n
  Spelled c p (list_val vs) n = (sort_at c p ≡ a_list) × ((ns : List Node) × (n ≡ list (nodes_of ns)) × SpelledEntries c p vs ns)
  -- an object with distinct names, pair by pair in any order
  Spelled c p (map_val es) n =
      (sort_at c p ≡ a_map) × ((ps : List (List ℕ × Node)) × (n ≡ object (members_of ps)) × AreKeys ps (keys_of es)
      × SpelledPairs c p es ps)
  -- an object; pairs of names that no member has are anything
  Spelled c p (structure_val fs) n =
      (sort_at c p ≡ a_structure) × ((ps : List (List ℕ × Node)) × (n ≡ object (members_of ps))
      × SpelledFields c p (members_of_place c.table p) fs ps)
  -- an object in which exactly one member stands with a tree that isn't null
  Spelled c p (union_val k v) n =
      (sort_at c p ≡ a_union) × ((ps : List (List ℕ × Node)) × (before behind : List ℕ) × (m : Node) × (n ≡ object (members_of ps))
      × (members_of_place c.table p ≡ before ++ k ∷ behind) × StandNot c p ps before × StandNot c p ps behind
      × Stands (wire_name c p k) ps m × Spelled c (member_place k) v m)

  -- entry by entry
  pub SpelledEntries : Codec → Place → Vals → List Node → Type 0
  SpelledEntries c p no_vals [] = Unit {0}
  SpelledEntries c p no_vals (n ∷ ns) = ⊥
  SpelledEntries c p (val v vs) [] = ⊥
  SpelledEntries c p (val v vs) (n ∷ ns) = SpelledOrNull (Spelled c (entry_place c.table p) v n) v n × SpelledEntries c p vs ns

  -- under each key stands one tree, which spells its value
  pub SpelledPairs : Codec → Place → EntryVals → List (List ℕ × Node) → Type 0
  SpelledPairs c p no_entries ps = Unit {0}
  SpelledPairs c p (entry key v es) ps =
      (n : Node) × (named key ps ≡ n ∷ []) × SpelledOrNull (Spelled c (value_place c.table p) v n) v n × SpelledPairs c p es ps

  -- No name of a member stands twice. A member whose name stands with a tree that isn't null is present, and that tree spells its
  -- value; another is present exactly where it has a default, with that default.
  pub SpelledFields : Codec → Place → List ℕ → FieldVals → List (List ℕ × Node) → Type 0
  SpelledFields c p ks no_fields ps = AreAbsent c p ps ks
  SpelledFields c p ks (field k v fs) ps =
      (skipped rest : List ℕ) × (ks ≡ skipped ++ k ∷ rest) × AreAbsent c p ps skipped
      × (((n : Node) × Stands (wire_name c p k) ps n × Spelled c (member_place k) v n)
      ⊎ (NoneOrNull (named (wire_name c p k) ps) × (default_at c.table k ≡ Some v)))
      × SpelledFields c p rest fs ps

-- the tree spells the value, which is one of the place
abbrev pub Spells : Codec → Place → Val → Node → Type 0
Spells c p v n = Fits c.table c.test p v × Spelled c p v n
