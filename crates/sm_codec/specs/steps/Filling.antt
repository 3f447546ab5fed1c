-- What the parts of filling a table answer: the value of a default's node, and what is kept of it.
use Rattle.std.specs.Prelude.{ℕ, suc, false, List, [], ◌∷◌, Option, Some, None, Result, Ok, Err}
use Rattle.sm_tree.specs.Node.{Node, list, object}
use Rattle.sm_time.specs.declared.format.Format.{Format}
use Rattle.sm_shapes.specs.Values.{Val, list_val, map_val, no_vals, no_entries}
use Rattle.sm_shapes.specs.TableData.{MemberData, ConstraintData}
use Rattle.sm_shapes.specs.Broken.{Finder, broken}
use Rattle.sm_shapes.specs.declared.fault.FaultKind.{FaultKind}
use Rattle.sm_shapes.specs.declared.kinds.ShapeKind.{ShapeKind}
use Rattle.sm_shapes.specs.declared.kinds.ShapeKind.TheVariants.{List as a_list, Map as a_map}
use Rattle.sm_codec.specs.declared.simple.Simple.{Simple}
use Rattle.sm_codec.specs.Sorts.{sort_by, simple_in}
use Rattle.sm_codec.specs.Codec.{Codec}
use Rattle.sm_codec.specs.Conventions.{node_read}
use Rattle.sm_codec.specs.Defaults.{counted_default}

-- an empty list or map, where the node of one stands at a shape of its kind
abbrev pub empty_default : ShapeKind → Node → Option Val
empty_default a_list (list ns) = Some (list_val no_vals)
empty_default a_map (object ms) = Some (map_val no_entries)
empty_default kind n = None

abbrev pub value_read : Result Val FaultKind → Option Val
value_read (Ok v) = Some v
value_read (Err kind) = None

abbrev pub unjudged_by : Option Simple → ShapeKind → Node → Option Val
unjudged_by (Some x) kind n = value_read (node_read false x n)
unjudged_by None kind n = empty_default kind n

-- the value of a default's node at a shape of this kind, which may still break constraints
abbrev pub unjudged : ShapeKind → Option Format → Node → Option Val
unjudged kind format n = unjudged_by (simple_in (sort_by kind format)) kind n

abbrev pub unless_broken : List FaultKind → Val → Option Val
unless_broken [] v = Some v
unless_broken (kind ∷ kinds) v = None

-- the value, if it breaks nothing
abbrev pub judged : Finder → ShapeKind → ConstraintData → Option Val → Option Val
judged finds kind c None = None
judged finds kind c (Some v) = unless_broken (broken finds kind c v) v

-- the defaults that count of these members, numbered from k on
abbrev pub counted_defaults : Codec → ℕ → List MemberData → List (Option Val)
counted_defaults c k [] = []
counted_defaults c k (m ∷ ms) = counted_default c k m.default_node ∷ counted_defaults c (suc k) ms
