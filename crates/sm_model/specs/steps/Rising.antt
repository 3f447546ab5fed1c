-- Texts that rise by their bytes, and trees in the order of their names.
use Rattle.std.specs.Prelude.{◌≡◌, ℕ, List, [], ◌∷◌}
use Rattle.std.specs.FinMap as fin
use Rattle.std.specs.declared.cmp.Ordering.TheVariants.{Less}
use Rattle.sm_tree.specs.Node.{Node}
use Rattle.sm_model.specs.Graphs.{NodeMap, text_cmp}

-- the text is below each of these
abbrev pub IsBelow : List ℕ → List (List ℕ) → Type 0
IsBelow k [] = Unit {0}
IsBelow k (j ∷ js) = (text_cmp k j ≡ Less) × IsBelow k js

-- each text is below the later ones
abbrev pub Rise : List (List ℕ) → Type 0
Rise [] = Unit {0}
Rise (k ∷ ks) = IsBelow k ks × Rise ks

-- trees in the order of their names are the map that they were given as
abbrev pub KeepsMap : List (List ℕ × Node) → List (List ℕ × Node) → Type 0
KeepsMap given sorted = Path NodeMap (fin.from_entries given) (fin.from_sorted sorted)
