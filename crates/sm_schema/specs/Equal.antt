-- When two instances are equal (JSON Schema 2020-12, "Core", 4.2.2): of one type, and with one value. Objects have no order, and each
-- property of one has exactly one of the same name in the other, which is equal to it. Numbers are compared by a test that is given.
use Rattle.std.specs.Prelude.{ℕ, suc, Bool, true, false, ◌&&◌, not, cond, List, [], ◌∷◌, is_some}
use Rattle.std.specs.Ordering.{int_eq}
use Rattle.std.specs.Str.{bytes_eq}
use Rattle.sm_tree.specs.Node.{Node, Nodes, Members, null, bool, int, number, text, list, object, no_nodes, node}
use Rattle.sm_tree.specs.Node.{no_members, member}
use Rattle.sm_tree.specs.Parts.{tree_named}
use Rattle.sm_schema.specs.Decimals.{number_le}

-- the trees under a name, in their order
abbrev pub trees_named : List ℕ → Members → List Node
trees_named name no_members = []
trees_named name (member k n ms) = cond (bytes_eq k name) (n ∷ trees_named name ms) (trees_named name ms)

-- how many entries or pairs these are
abbrev pub count_entries : Nodes → ℕ
count_entries no_nodes = 0
count_entries (node n ns) = suc (count_entries ns)

abbrev pub count_pairs : Members → ℕ
count_pairs no_members = 0
count_pairs (member k n ms) = suc (count_pairs ms)

-- the name of each of these stands there
abbrev pub are_named : Members → Members → Bool
are_named no_members ps = true
are_named (member k n qs) ps = is_some (tree_named k ps) && are_named qs ps

abbrev pub same_bool : Bool → Bool → Bool
same_bool true b = b
same_bool false b = not b

-- one tree, of which this holds
abbrev pub is_one : (Node → Bool) → List Node → Bool
is_one holds [] = false
is_one holds (n ∷ []) = holds n
is_one holds (n ∷ more ∷ ns) = false

-- whether two numbers are equal
abbrev pub NumberTest : Type 0
NumberTest = Node → Node → Bool

abbrev mutual
  pub equal_by : NumberTest → Node → Node → Bool
  equal_by same null null = true
  equal_by same (bool a) (bool b) = same_bool a b
  equal_by same (int z) m = same (int z) m
  equal_by same (number u) m = same (number u) m
  equal_by same (text u) (text w) = bytes_eq u w
  equal_by same (list ns) (list ms) = entries_equal same ns ms
  equal_by same (object ps) (object qs) = pairs_equal same ps qs && are_named qs ps
  equal_by same n m = false

  pub entries_equal : NumberTest → Nodes → Nodes → Bool
  entries_equal same no_nodes no_nodes = true
  entries_equal same (node n ns) (node m ms) = equal_by same n m && entries_equal same ns ms
  entries_equal same ns ms = false

  -- each of these has exactly one of its name there, which is equal to it
  pub pairs_equal : NumberTest → Members → Members → Bool
  pairs_equal same no_members qs = true
  pairs_equal same (member k n ps) qs = is_one (λ m. equal_by same n m) (trees_named k qs) && pairs_equal same ps qs

-- as trees: an integer is an integer's equal, and a number that is kept as its text that of the same text
abbrev pub same_number : NumberTest
same_number (int y) (int z) = int_eq y z
same_number (number u) (number w) = bytes_eq u w
same_number n m = false

abbrev pub equal_trees : Node → Node → Bool
equal_trees n m = equal_by same_number n m

-- by their value
abbrev pub same_value : NumberTest
same_value n m = number_le n m && number_le m n

abbrev pub equal_values : Node → Node → Bool
equal_values n m = equal_by same_value n m
