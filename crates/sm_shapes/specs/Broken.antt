-- Which constraints a value breaks (Smithy 2.0, "Constraint traits"), in the order in which they are told: `Length`, `Range`,
-- `Pattern`, `Enum`. `length` counts the Unicode scalar values of a text, the bytes of a blob, and the entries of a list or a
-- map; `range` holds of whole numbers, with both ends; a pattern finds a text anywhere in it.
use Rattle.std.specs.Prelude.{ℕ, ℤ, pos, Bool, true, false, ◌&&◌, ◌||◌, cond, List, [], ◌∷◌, ◌++◌, length, Option, Some, None, int_le}
use Rattle.std.specs.Ordering.{int_eq}
use Rattle.std.specs.List.{list_any}
use Rattle.std.specs.Str.{bytes_eq, chars}
use Rattle.sm_shapes.specs.Values.{Val, null_val, bool_val, int_val, text_val, blob_val, time_val, list_val, map_val, structure_val}
use Rattle.sm_shapes.specs.Values.{union_val, each_val, keys_of, same_val}
use Rattle.sm_shapes.specs.TableData.{ConstraintData}
use Rattle.sm_shapes.specs.declared.kinds.ShapeKind.{ShapeKind}
use Rattle.sm_shapes.specs.declared.kinds.ShapeKind.TheVariants as kinds
use Rattle.sm_shapes.specs.declared.fault.FaultKind.{FaultKind}
use Rattle.sm_shapes.specs.declared.fault.FaultKind.TheVariants.{Length, Range, Pattern, Enum}

-- whether the pattern with this number finds a text
abbrev pub Finder : Type 0
Finder = ℕ → List ℕ → Bool

abbrev pub is_at_least : Option ℤ → ℤ → Bool
is_at_least None z = true
is_at_least (Some least) z = int_le least z

abbrev pub is_at_most : Option ℤ → ℤ → Bool
is_at_most None z = true
is_at_most (Some most) z = int_le z most

-- the number lies between the bounds that are there
abbrev pub is_between : ConstraintData → ℤ → Bool
is_between c z = is_at_least c.min z && is_at_most c.max z

-- this kind alone, where a test fails
abbrev pub unless : Bool → FaultKind → List FaultKind
unless passed kind = cond passed [] (kind ∷ [])

abbrev pub length_broken : ConstraintData → ℕ → List FaultKind
length_broken c n = unless (is_between c (pos n)) Length

abbrev pub range_broken : ConstraintData → ℤ → List FaultKind
range_broken c z = unless (is_between c z) Range

abbrev pub pattern_broken : Finder → Option ℕ → List ℕ → List FaultKind
pattern_broken finds None u = []
pattern_broken finds (Some n) u = unless (finds n u) Pattern

-- a text, or a number, that is none of the values of its enum
abbrev pub text_broken : ShapeKind → List (List ℕ) → List ℕ → List FaultKind
text_broken kinds.Enum texts u = unless (list_any (λ w. bytes_eq w u) texts) Enum
text_broken kind texts u = []

abbrev pub number_broken : ShapeKind → List ℤ → ℤ → List FaultKind
number_broken kinds.IntEnum numbers z = unless (list_any (λ w. int_eq w z) numbers) Enum
number_broken kind numbers z = []

-- all that a value of a shape of this kind breaks
abbrev pub broken : Finder → ShapeKind → ConstraintData → Val → List FaultKind
broken finds kind c null_val = []
broken finds kind c (bool_val b) = []
broken finds kind c (int_val z) = range_broken c z ++ number_broken kind c.numbers z
broken finds kind c (text_val u) = length_broken c (length (chars u)) ++ pattern_broken finds c.pattern u ++ text_broken kind c.texts u
broken finds kind c (blob_val u) = length_broken c (length u)
broken finds kind c (time_val ms) = []
broken finds kind c (list_val vs) = length_broken c (length (each_val vs))
broken finds kind c (map_val es) = length_broken c (length (keys_of es))
broken finds kind c (structure_val fs) = []
broken finds kind c (union_val k v) = []

-- some value stands twice or more
abbrev pub has_twice : List Val → Bool
has_twice [] = false
has_twice (v ∷ vs) = list_any (λ w. same_val v w) vs || has_twice vs

-- the first of these
abbrev pub first_broken : List FaultKind → Option FaultKind
first_broken [] = None
first_broken (kind ∷ kinds) = Some kind
