-- How many entries and pairs of a tree the vectors of the code hold.
use Rattle.std.proofs.Common.{◌≡◌, ℕ, suc, List, [], ◌∷◌, refl, ap, length}
use Rattle.sm_tree.specs.Node.{nodes_of, members_of}
use Rattle.sm_tree.specs.View.{nodes_view, members_view}
use Rattle.sm_tree.specs.declared.tree.Tree.{Tree}
use Rattle.sm_tree.specs.Streams.{entry_count, pair_count}

pub nodes_counted : (ts : List Tree) → entry_count (nodes_of (nodes_view ts)) ≡ length ts
nodes_counted [] = refl
nodes_counted (t ∷ ts) = ap suc (nodes_counted ts)

pub members_counted : (ms : List (List ℕ × Tree)) → pair_count (members_of (members_view ms)) ≡ length ms
members_counted [] = refl
members_counted (m ∷ ms) = ap suc (members_counted ms)
