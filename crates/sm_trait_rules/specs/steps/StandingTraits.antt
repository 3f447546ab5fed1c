-- Traits that stand under an id.
use Rattle.std.specs.Prelude.{◌≡◌, ℕ, List, Some}
use Rattle.std.specs.List.{Contains}
use Rattle.sm_tree.specs.View.{node_of}
use Rattle.sm_tree.specs.declared.tree.Tree.{Tree}
use Rattle.sm_model.specs.Graphs.{GraphMaps}
use Rattle.sm_compile.specs.Sound.{trait_of}

-- these are traits of what stands under an id
abbrev pub AreTraitsAt : GraphMaps → List ℕ → List (List ℕ × Tree) → Type 0
AreTraitsAt g id ts = (t : List ℕ × Tree) → Contains ts t → trait_of g id t.0 ≡ Some (node_of t.1)
