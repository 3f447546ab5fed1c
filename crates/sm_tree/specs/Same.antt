-- Nodes: trees of JSON in whose objects no name repeats. And when two are equal: objects are equal as sets
-- of pairs, and all else part by part.
use Rattle.std.specs.Prelude.{◌≡◌, ◌⊎◌, ℕ, List}
use Rattle.sm_tree.specs.Node.{Node, Nodes, Members, null, bool, int, number, text, bytes, tag, opaque, list, object, no_nodes, node}
use Rattle.sm_tree.specs.Node.{no_members, member}
use Rattle.sm_tree.specs.Json.{IsJson}

-- this name with this value is a pair of the object
abbrev pub HasPair : List ℕ → Node → Members → Type 0
HasPair k n no_members = ⊥
HasPair k n (member l m ms) = ((k ≡ l) × (n ≡ m)) ⊎ HasPair k n ms

-- this name is the name of a pair of the object
abbrev pub HasName : List ℕ → Members → Type 0
HasName k no_members = ⊥
HasName k (member l m ms) = (k ≡ l) ⊎ HasName k ms

abbrev mutual
  -- in each object of the tree the names differ
  pub HasDistinctNames : Node → Type 0
  HasDistinctNames null = Unit {0}
  HasDistinctNames (bool b) = Unit {0}
  HasDistinctNames (int z) = Unit {0}
  HasDistinctNames (number t) = Unit {0}
  HasDistinctNames (text t) = Unit {0}
  HasDistinctNames (bytes t) = Unit {0}
  HasDistinctNames (tag k n) = HasDistinctNames n
  HasDistinctNames (opaque b) = Unit {0}
  HasDistinctNames (list ns) = HaveDistinctNames ns
  HasDistinctNames (object ms) = AreDistinct ms

  pub HaveDistinctNames : Nodes → Type 0
  HaveDistinctNames no_nodes = Unit {0}
  HaveDistinctNames (node n ns) = HasDistinctNames n × HaveDistinctNames ns

  -- each name differs from the later ones, here and in each value
  pub AreDistinct : Members → Type 0
  AreDistinct no_members = Unit {0}
  AreDistinct (member k n ms) = (HasName k ms → ⊥) × HasDistinctNames n × AreDistinct ms

-- a node of a Smithy document
abbrev pub IsNode : Node → Type 0
IsNode n = IsJson n × HasDistinctNames n

abbrev mutual
  -- the two are equal, objects as sets of pairs
  pub Same : Node → Node → Type 0
  Same null m = m ≡ null
  Same (bool b) m = m ≡ bool b
  Same (int z) m = m ≡ int z
  Same (number t) m = m ≡ number t
  Same (text t) m = m ≡ text t
  Same (bytes t) m = m ≡ bytes t
  Same (tag k n) m = (content : Node) × (m ≡ tag k content) × Same n content
  Same (opaque b) m = m ≡ opaque b
  Same (list ns) m = (entries : Nodes) × (m ≡ list entries) × SameEntries ns entries
  Same (object ps) m = (qs : Members) × (m ≡ object qs) × AllIn ps qs × ((k : List ℕ) (q : Node) → HasPair k q qs → HasSamePair ps k q)

  -- entry by entry
  pub SameEntries : Nodes → Nodes → Type 0
  SameEntries no_nodes ms = ms ≡ no_nodes
  SameEntries (node n ns) ms = (first : Node) × (more : Nodes) × (ms ≡ node first more) × Same n first × SameEntries ns more

  -- each pair of the first object is one of the second
  pub AllIn : Members → Members → Type 0
  AllIn no_members qs = Unit {0}
  AllIn (member k n ps) qs = ((q : Node) × HasPair k q qs × Same n q) × AllIn ps qs

  -- a pair of the object has this name and a value that is the same as this one
  pub HasSamePair : Members → List ℕ → Node → Type 0
  HasSamePair no_members l q = ⊥
  HasSamePair (member k n ps) l q = ((k ≡ l) × Same n q) ⊎ HasSamePair ps l q

-- what equality must be, at nodes and elsewhere
abbrev pub SameToItself : Type 0
SameToItself = (n : Node) → Same n n

abbrev pub SameBothWays : Type 0
SameBothWays = (n m : Node) → Same n m → Same m n

abbrev pub SameThrough : Type 0
SameThrough = (n m k : Node) → Same n m → Same m k → Same n k

-- a name stands for one value in an object of a node
abbrev pub OneValueAName : Type 0
OneValueAName = (ms : Members) → IsNode (object ms) → (k : List ℕ) (n m : Node) → HasPair k n ms → HasPair k m ms → n ≡ m
