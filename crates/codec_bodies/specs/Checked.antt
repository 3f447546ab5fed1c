-- What is checked of a table, number by number: together, that it is in order and has no default set.
use Rattle.std.specs.Prelude.{◌≡◌, ℕ, ◌<◌, Bool, true, false, List, map, Some, None, IsUtf8}
use Rattle.std.specs.List.{Contains, filter}
use Rattle.std.specs.List.Sorted.{IsStrictlySortedBy}
use Rattle.std.specs.Ordering.{nat_cmp}
use Rattle.sm_tree.specs.Node.{Node}
use Rattle.sm_shapes.specs.Names.{AllDiffer}
use Rattle.sm_shapes.specs.TableData.{TableData, shape_count, kind_at, members_at, by_name_at, by_json_name_at, needed_at, home_at}
use Rattle.sm_shapes.specs.TableData.{name_at, json_name_at, target_at, shape_constraints_at, constraints_at, default_node_at, default_at}
use Rattle.sm_shapes.specs.InOrder.{AreMembersOf, AreByName, HasItsMembers, NamesPattern, MayDefault, MayHaveNode, is_needed}

-- the name of a member, or the one that it has where JSON names are looked at
abbrev pub name_by : Bool → TableData → ℕ → List ℕ
name_by true t k = json_name_at t k
name_by false t k = name_at t k

-- the members at these places in the byte order of their names
abbrev pub ordered_by : Bool → TableData → ℕ → List ℕ
ordered_by true t s = by_json_name_at t s
ordered_by false t s = by_name_at t s

-- of the names of a shape's members, or of those where JSON names are looked at
pub record NamesInOrder (json : Bool) (t : TableData) (s : ℕ) : Type 0 where
  pub ordered : AreByName (name_by json t) (members_at t s) (ordered_by json t s)
  pub differ : AllDiffer (map (name_by json t) (members_at t s))

pub record ShapeInOrder (t : TableData) (s : ℕ) : Type 0 where
  pub members : AreMembersOf t s (members_at t s)
  pub rises : IsStrictlySortedBy nat_cmp (members_at t s)
  pub names : NamesInOrder false t s
  pub json_names : NamesInOrder true t s
  pub needed : needed_at t s ≡ filter (is_needed t) (members_at t s)
  pub own : HasItsMembers t (kind_at t s) (members_at t s)
  pub pattern : NamesPattern t (shape_constraints_at t s).pattern

pub record MemberInOrder (t : TableData) (k : ℕ) : Type 0 where
  pub target : target_at t k < shape_count t
  pub home : home_at t k < shape_count t
  pub stands : Contains (members_at t (home_at t k)) k
  pub name : IsUtf8 (name_at t k)
  pub json_name : IsUtf8 (json_name_at t k)
  pub pattern : NamesPattern t (constraints_at t k).pattern
  pub node : (n : Node) → default_node_at t k ≡ Some n → MayDefault t k × MayHaveNode (kind_at t (target_at t k)) n
  pub unset : default_at t k ≡ None
