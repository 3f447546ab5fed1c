-- What the filters promise: the value of a path, whether it shows a text that is asked for, and whether a shape is kept.
use Rattle.std.specs.Prelude.{◌≡◌, ◌↔◌, ℕ, Bool, List, Option, Some, length}
use Rattle.sm_tree.specs.Node.{Node, text}
use Rattle.sm_tree.specs.View.{node_of}
use Rattle.sm_model.specs.Graphs.{Entry, GraphMaps}
use Rattle.sm_model.specs.GraphView.{entries_of}
use Rattle.sm_model.specs.Relations.{HasEntry}
use Rattle.sm_model.specs.declared.graph.Graph.{Graph}
use Rattle.sm_model.specs.declared.kind.Kind.{Kind}
use Rattle.sm_model.specs.Reaching.{AreMarks, id_of_number, IsMarked}
use Rattle.sm_select.specs.Picks.{HasValue, IsNamed, StandsToOne, compared_text, folded}
use Rattle.sm_select.specs.Selectors.{Attribute}
use Rattle.sm_select.specs.declared.selector.SelectorOp.{SelectorOp}
use Rattle.sm_select.specs.declared.values.Found.{Found}
use Rattle.sm_select.specs.declared.values.Found.TheVariants.{Part, Value}

-- the node that was found
abbrev pub found_node : Found → Node
found_node (Part part) = text part.now
found_node (Value tree) = node_of tree.now

-- of no node but this one it holds, if there is one
abbrev pub HoldsOfOnly : (Node → Type 0) → Option Node → Type 0
HoldsOfOnly Holds only = (n : Node) → Holds n ↔ (only ≡ Some n)

-- the type that is named is the shape's, or members are named
abbrev pub IsNamedAt : Option Kind → GraphMaps → List ℕ → Type 0
IsNamedAt named g id = (e : Entry) × HasEntry g id e × IsNamed named e

abbrev pub HasSomeValue : Attribute → GraphMaps → List ℕ → Type 0
HasSomeValue path g id = (n : Node) × HasValue g id path n

-- exactly the marked numbers are kept of whose ids it holds
abbrev pub AreKept : Graph → List Bool → (List ℕ → Type 0) → List Bool → Type 0
AreKept g starts Holds marks = AreMarks (length (entries_of g)) (λ k. IsMarked starts k × Holds (id_of_number g k)) marks

-- a node shows a text that stands so to one of these values
abbrev pub Shows : SelectorOp → Bool → List (List ℕ) → Node → Type 0
Shows op fold values n = (shown : List ℕ) × (compared_text n ≡ Some shown) × StandsToOne op (folded fold shown) values
