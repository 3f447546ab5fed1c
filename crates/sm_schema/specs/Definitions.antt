-- The definitions of a schema: for which places of values there is one, in which order they stand, and which reference leads to each.
use Rattle.std.specs.Prelude.{◌≡◌, ℕ, zero, suc, ◌==◌, ℤ, Bool, true, false, ◌&&◌, ◌||◌, cond, List, [], ◌∷◌, ◌++◌, Option, Some, None}
use Rattle.std.specs.Prelude.{slice_get, codes}
use Rattle.std.specs.Cmp.Lexicographic.{pointwise}
use Rattle.std.specs.Fmt.{decimal}
use Rattle.std.specs.Ordering.{int_eq}
use Rattle.std.specs.Str.{bytes_eq}
use Rattle.sm_tree.specs.Node.{Node, text, object, no_members, member}
use Rattle.sm_shapes.specs.TableData.{TableData, ConstraintData, MemberData, ShapeData, kind_at, target_at, constraints_at}
use Rattle.sm_shapes.specs.TableData.{shape_constraints_at, shape_constraints_in}
use Rattle.sm_shapes.specs.Places.{Place, root_place, member_place, members_of_place}
use Rattle.sm_shapes.specs.declared.kinds.ShapeKind.{ShapeKind}
use Rattle.sm_shapes.specs.declared.kinds.ShapeKind.TheVariants.{Enum, IntEnum, Structure, Union}

-- whether constraints are the same
abbrev pub same_bound : Option ℤ → Option ℤ → Bool
same_bound None None = true
same_bound (Some y) (Some z) = int_eq y z
same_bound y z = false

abbrev pub same_pattern : Option ℕ → Option ℕ → Bool
same_pattern None None = true
same_pattern (Some m) (Some n) = m == n
same_pattern m n = false

abbrev pub same_constraints : ConstraintData → ConstraintData → Bool
same_constraints c d =
    same_bound c.min d.min && (same_bound c.max d.max && (same_pattern c.pattern d.pattern
    && (pointwise bytes_eq c.texts d.texts && pointwise int_eq c.numbers d.numbers)))

-- at each member stand the values of its target's enum, as in every table that is compiled
pub record HasTargetsValues (shapes : List ShapeData) (m : MemberData) : Type 0 where
  pub texts : m.constraints.texts ≡ (shape_constraints_in (slice_get shapes m.target)).texts
  pub numbers : m.constraints.numbers ≡ (shape_constraints_in (slice_get shapes m.target)).numbers

abbrev pub EachHasValues : List ShapeData → List MemberData → Type 0
EachHasValues shapes [] = Unit {0}
EachHasValues shapes (m ∷ ms) = HasTargetsValues shapes m × EachHasValues shapes ms

abbrev pub HaveTargetsValues : TableData → Type 0
HaveTargetsValues t = EachHasValues t.shapes t.members

-- A member whose target is a structure or a union, or an enum whose constraints are its own, has the definition of that shape. Any other
-- member has its own.
abbrev pub has_targets : TableData → ℕ → Bool
has_targets t k = same_constraints (constraints_at t k) (shape_constraints_at t (target_at t k))

abbrev pub has_shapes : TableData → ℕ → ShapeKind → Bool
has_shapes t k Structure = true
has_shapes t k Union = true
has_shapes t k Enum = has_targets t k
has_shapes t k IntEnum = has_targets t k
has_shapes t k kind = false

abbrev pub member_defined : TableData → ℕ → Place
member_defined t k = cond (has_shapes t k (kind_at t (target_at t k))) (root_place (target_at t k)) (member_place k)

-- the place whose definition a place has
abbrev pub defined_place : TableData → Place → Place
defined_place t (root_place s) = root_place s
defined_place t (member_place k) = member_defined t k

abbrev pub same_place : Place → Place → Bool
same_place (root_place s) (root_place r) = s == r
same_place (member_place k) (member_place j) = k == j
same_place p q = false

abbrev pub has_place : Place → List Place → Bool
has_place p [] = false
has_place p (q ∷ qs) = same_place q p || has_place p qs

-- behind those that are there, if it isn't one of them
abbrev pub with_place : List Place → Place → List Place
with_place ps p = cond (has_place p ps) ps (ps ++ p ∷ [])

abbrev pub with_members : TableData → List Place → List ℕ → List Place
with_members t ps [] = ps
with_members t ps (k ∷ ks) = with_members t (with_place ps (member_defined t k)) ks

-- Breadth first: of the places that are there, each in turn, from the k-th on, puts those of its members behind them. After so many turns
-- none is left, and these are all.
abbrev pub Listed : TableData → ℕ → List Place → ℕ → List Place → Type 0
Listed t zero ps k all = (slice_get ps k ≡ None) × (all ≡ ps)
Listed t (suc turns) ps k all =
    (p : Place) × (slice_get ps k ≡ Some p) × Listed t turns (with_members t ps (members_of_place t p)) (suc k) all

-- what definitions are made of: a table, whether members stand under their JSON names, and all places that have a definition, in order
pub record Listing : Type 0 where
  pub table : TableData
  pub json_names : Bool
  pub places : List Place

-- how many stand before a place
abbrev pub number_in : List Place → Place → ℕ
number_in [] p = 0
number_in (q ∷ qs) p = cond (same_place q p) 0 (suc (number_in qs p))

-- `d0`, `d1` and so on
abbrev pub definition_name : ℕ → List ℕ
definition_name number = codes "d" ++ decimal number

abbrev pub reference_text : ℕ → List ℕ
reference_text number = codes "#/$defs/" ++ definition_name number

-- to the definition of what stands at a place
abbrev pub reference : Listing → Place → Node
reference d p =
    object (member (codes "$ref") (text (reference_text (number_in d.places (defined_place d.table p)))) no_members)
