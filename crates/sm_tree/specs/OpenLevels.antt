-- How many levels are open where a tree's stream has come so far: the lists, objects and tags that have begun and haven't ended.
use Rattle.std.specs.Prelude.{◌≡◌, ◌≤◌, ◌+◌, ℕ, List, [], ◌∷◌, ◌++◌, length}
use Rattle.sm_tree.specs.Node.{Node}
use Rattle.sm_tree.specs.Levels.{levels}
use Rattle.sm_tree.specs.Events.{NodeEvent}
use Rattle.sm_tree.specs.Streams.{Streams, unnumbered}
use Rattle.sm_tree.specs.Building.{Inner, in_list, in_object, in_pair, Around, around_list, around_object, Building, nothing, whole}
use Rattle.sm_tree.specs.Building.{within, so_far, kinds}

-- the innermost list or object, and the tags of its next tree
abbrev pub inner_levels : Inner → ℕ
inner_levels (in_list ns ts) = 1 + length ts
inner_levels (in_object ms) = 1
inner_levels (in_pair ms k ts) = 1 + length ts

-- and those around it
abbrev pub around_levels : Around → ℕ
around_levels (around_list ns ts) = 1 + length ts
around_levels (around_object ms k ts) = 1 + length ts

abbrev pub outer_levels : List Around → ℕ
outer_levels [] = 0
outer_levels (a ∷ outer) = outer_levels outer + around_levels a

abbrev pub open_levels : Building → ℕ
open_levels (nothing ts) = length ts
open_levels (whole n) = 0
open_levels (within ts inner outer) = length ts + (outer_levels outer + inner_levels inner)

-- where events begin a stream of a tree, no more levels are open than the tree has
abbrev pub OpensNoMore : Type 0
OpensNoMore =
    (b : Building) (es more : List NodeEvent) (n : Node) → unnumbered es ≡ so_far b → Streams n (es ++ more) [] → open_levels b ≤ levels n

-- and each list and object that is open is such a level
abbrev pub KindsAreLevels : Type 0
KindsAreLevels = (b : Building) → length (kinds b) ≤ open_levels b
