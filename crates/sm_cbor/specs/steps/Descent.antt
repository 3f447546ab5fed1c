-- What the reader by recursive descent finds at the beginning of some bytes, in the words of Heads, CborItem and Levels: "s
-- begins so, and r is what follows it", how many levels it has at most, and what is put behind the entries that there
-- were. The methods of that reader cite it.
use Rattle.std.specs.Prelude.{◌≡◌, ℕ, ℤ, ◌/◌, ◌≤◌, Bool, true, false, List, [], ◌∷◌, ◌++◌, slice_index, Option, Some, None}
use Rattle.std.specs.List.{concat}
use Rattle.sm_tree.specs.Node.{Node, nodes_of, members_of}
use Rattle.sm_tree.specs.View.{node_of}
use Rattle.sm_tree.specs.declared.tree.Tree.{Tree}
use Rattle.sm_tree.specs.Levels.{levels, nodes_levels, members_levels}
use Rattle.sm_cbor.specs.Heads.{unsigned_type, negative_type, bytes_type, text_type, array_type, map_type, tag_type, simple_type, Break}
use Rattle.sm_cbor.specs.steps.Reading.{integer_node}
use Rattle.sm_cbor.specs.CborItem.{TextString, Chunks, Item, CountedEntries, EntriesToBreak, CountedPairs, PairsToBreak}
use Rattle.sm_cbor.specs.declared.descent.major_type.MajorType.{MajorType}
use Rattle.sm_cbor.specs.declared.descent.major_type.MajorType.TheVariants.{Unsigned, Negative, Bytes, Text, Array, Map, Tag, Simple}

-- the number of a major type
abbrev pub number_of : MajorType → ℕ
number_of Unsigned = unsigned_type
number_of Negative = negative_type
number_of Bytes = bytes_type
number_of Text = text_type
number_of Array = array_type
number_of Map = map_type
number_of Tag = tag_type
number_of Simple = simple_type

-- the major type that the initial byte says
abbrev pub initial_type : List ℕ → ℕ
initial_type s = slice_index s 0 / 32

-- the chunks of a string, joined, and the "break" behind them
abbrev pub Joined : ℕ → (List ℕ → Type 0) → List ℕ → List ℕ → List ℕ → Type 0
Joined major P t s r = (ts : List (List ℕ)) × Chunks major P ts s r × (t ≡ concat ts)

-- an item of this tree, which nests at most so many levels
abbrev pub ItemIn : ℕ → Node → List ℕ → List ℕ → Type 0
ItemIn limit n s r = Item TextString n s r × (levels n ≤ limit)

-- the integer z, told by this argument, was put behind the entries that there were, under its name
abbrev pub PutsInteger : {N E : Type 0} → (N → Tree → E) → ℕ → ℤ → N → List E → List E → Type 0
PutsInteger named value z name before now = (t : Tree) × (now ≡ before ++ named name t ∷ []) × (node_of t ≡ integer_node value z)

-- None: the next leaf was put behind the entries that there were, under its name. Some: nothing was done, and the name
-- is handed back
abbrev pub PutsLeaf : {N E : Type 0} → (N → Tree → E) → N → List E → List E → List ℕ → List ℕ → Option N → Type 0
PutsLeaf named name before now s r None = (t : Tree) × (now ≡ before ++ named name t ∷ []) × ItemIn 0 (node_of t) s r
PutsLeaf named name before now s r (Some same) = (same ≡ name) × (now ≡ before) × (s ≡ r)

-- the next entry, of at most so many levels, was put behind the entries that there were
abbrev pub PutsEntry : ℕ → List Tree → List Tree → List ℕ → List ℕ → Type 0
PutsEntry limit before now s r = (t : Tree) × (now ≡ before ++ t ∷ []) × ItemIn limit (node_of t) s r

-- the next pair, whose value has at most so many levels, was put behind the pairs that there were
abbrev pub PutsPair : ℕ → List (List ℕ × Tree) → List (List ℕ × Tree) → List ℕ → List ℕ → Type 0
PutsPair limit before now s r =
    (k : List ℕ) × (t : Tree) × (now ≡ before ++ (k, t) ∷ []) × (s1 : List ℕ) × TextString k s s1
    × ItemIn limit (node_of t) s1 r

-- so many entries, and entries up to a "break", each of at most so many levels
abbrev pub EntriesIn : ℕ → ℕ → List Node → List ℕ → List ℕ → Type 0
EntriesIn limit n ns s r = CountedEntries TextString n (nodes_of ns) s r × (nodes_levels (nodes_of ns) ≤ limit)

abbrev pub EntriesToBreakIn : ℕ → List Node → List ℕ → List ℕ → Type 0
EntriesToBreakIn limit ns s r = EntriesToBreak TextString (nodes_of ns) s r × (nodes_levels (nodes_of ns) ≤ limit)

-- so many pairs, and pairs up to a "break", each of at most so many levels
abbrev pub PairsIn : ℕ → ℕ → List (List ℕ × Node) → List ℕ → List ℕ → Type 0
PairsIn limit n ms s r = CountedPairs TextString n (members_of ms) s r × (members_levels (members_of ms) ≤ limit)

abbrev pub PairsToBreakIn : ℕ → List (List ℕ × Node) → List ℕ → List ℕ → Type 0
PairsToBreakIn limit ms s r = PairsToBreak TextString (members_of ms) s r × (members_levels (members_of ms) ≤ limit)

-- a "break" is taken; or none is next, and nothing is taken
abbrev pub TakesBreak : List ℕ → List ℕ → Bool → Type 0
TakesBreak s r true = Break s r
TakesBreak s r false = (s ≡ r) × ((q : List ℕ) → Break s q → ⊥)
