-- Values that are taken one after the other: what has come of some of them, and what the rest will add.
use Rattle.std.specs.Prelude.{◌≡◌, ◌⊎◌, ◌↔◌, Bool, List, [], ◌∷◌, None, IsTrue}
use Rattle.sm_bytes.specs.Lengths.{length_word}
use Rattle.sm_tree.specs.Node.{Node}
use Rattle.sm_tree.specs.Same.{IsNode}
use Rattle.sm_tree.specs.Size.{node_size}
use Rattle.sm_tree.specs.Parts.{entries_in}
use Rattle.sm_tree.specs.View.{node_of}
use Rattle.sm_tree.specs.declared.tree.Tree.{Tree}
use Rattle.sm_merge.specs.Values.{AreInConflict, ComeTo, AllComeTo, ConflictsAfter, IsValueOf, HaveConflict}
use Rattle.sm_merge.specs.declared.value.Folded.{Folded}

-- these are nodes
abbrev pub AreNodes : List Node → Type 0
AreNodes [] = Unit {0}
AreNodes (n ∷ ns) = IsNode n × AreNodes ns

-- values came to this one so far, with this rest, and whether some were in conflict
pub record IsFoldOf (first : Node) (all : List Node) (value : Node) (rest : List Node) (conflict : Bool) : Type 0 where
  pub comes : (c : Node) → AllComeTo value rest c → AllComeTo first all c
  pub was : IsTrue conflict → ConflictsAfter first all
  pub will : ConflictsAfter value rest → ConflictsAfter first all
  pub no_other : ConflictsAfter first all → IsTrue conflict ⊎ ConflictsAfter value rest

-- a value with its size, which is a node
pub record IsRunning (f : Folded) : Type 0 where
  pub is_node : IsNode (node_of f.value)
  pub size : f.size ≡ length_word (node_size (node_of f.value))

-- what a value came to with the next one, where some may have been in conflict before
pub record HasTakenFrom (value : Node) (before : Bool) (next : Node) (after : Folded) : Type 0 where
  pub running : IsRunning after
  pub came : ComeTo value next (node_of after.value)
  pub told : IsTrue after.conflict ↔ (IsTrue before ⊎ AreInConflict value next)

abbrev pub HasTaken : Folded → Node → Folded → Type 0
HasTaken before next after = HasTakenFrom (node_of before.value) before.conflict next after

-- a tree that stands for this node, which is no array
abbrev pub IsNoArray : Node → Tree → Type 0
IsNoArray n tree = (node_of tree ≡ n) × (entries_in n ≡ None)

-- what all came to
pub record IsFolded (values : List Node) (f : Folded) : Type 0 where
  pub running : IsRunning f
  pub value : IsValueOf values (node_of f.value)
  pub conflict : IsTrue f.conflict ↔ HaveConflict values
