-- A tree as data, without memory: what a JSON text (RFC 8259) or a CBOR item (RFC 8949) stands for. Texts
-- and byte strings are lists of bytes. An object is a list of pairs in their order, and names may repeat.
-- Every definition over trees stands on this file.
use Rattle.std.specs.Prelude.{ℕ, ℤ, Bool, List, [], ◌∷◌}

mutual
  pub data Node : Type 0 where
    null : Node
    bool : Bool → Node
    int : ℤ → Node
    -- the text of a JSON number that is no `int`; in CBOR an integer that a signed word of 64
    -- bits doesn't hold, in decimal
    number : List ℕ → Node
    text : List ℕ → Node
    -- in CBOR alone: a byte string, a tag's number and content (section 3.4), and the first byte of a float
    -- or a simple value (section 3.3)
    bytes : List ℕ → Node
    tag : ℕ → Node → Node
    opaque : ℕ → Node
    list : Nodes → Node
    object : Members → Node

  -- the entries of a list
  pub data Nodes : Type 0 where
    no_nodes : Nodes
    node : Node → Nodes → Nodes

  -- the pairs of an object
  pub data Members : Type 0 where
    no_members : Members
    member : List ℕ → Node → Members → Members

-- entries and pairs as lists become entries and pairs of a tree
abbrev pub nodes_of : List Node → Nodes
nodes_of [] = no_nodes
nodes_of (n ∷ ns) = node n (nodes_of ns)

abbrev pub members_of : List (List ℕ × Node) → Members
members_of [] = no_members
members_of (m ∷ ms) = member m.0 m.1 (members_of ms)
