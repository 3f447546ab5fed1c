-- What the values of the traits say that tables are made from, and which values these traits may have (Smithy 2.0, "Constraint
-- traits", "timestampFormat trait", "jsonName trait", "enumValue trait").
use Rattle.std.specs.Prelude.{◌&&◌, ◌||◌, ℕ, ℤ, pos, Bool, true, false, List, Option, Some, None, if◌then◌else◌, codes, IsTrue, int_le}
use Rattle.std.specs.Prelude.{◌^◌, is_some, nat_lt, negsuc}
use Rattle.std.specs.Option.{unwrap_or, option_or}
use Rattle.std.specs.FinMap as fin
use Rattle.std.specs.Str.{bytes_eq}
use Rattle.sm_tree.specs.Node.{Node, null, bool, int, number, text, bytes, tag, opaque, list, object, no_members}
use Rattle.sm_tree.specs.Parts.{text_in, pairs_in, tree_named}
use Rattle.sm_time.specs.declared.format.Format.{Format}
use Rattle.sm_time.specs.declared.format.Format.TheVariants.{DateTime, HttpDate, EpochSeconds}
use Rattle.sm_model.specs.Graphs.{NodeMap}
use Rattle.sm_model.specs.declared.kind.Kind.{Kind}
use Rattle.sm_model.specs.declared.kind.Kind.TheVariants.{Float, Double, BigInteger, BigDecimal, Enum, IntEnum}
use Rattle.sm_compile.specs.TraitIds.{required_id, sparse_id, unique_items_id, length_id, range_id, pattern_id, timestamp_format_id}
use Rattle.sm_compile.specs.TraitIds.{json_name_id}

-- what is under a trait's id: of a shape or member alone, or of a member with its target, whose own traits count first
abbrev pub TraitsSeen : Type 0
TraitsSeen = List ℕ → Option Node

abbrev pub own_traits : NodeMap → TraitsSeen
own_traits traits id = fin.get traits id

abbrev pub effective_traits : NodeMap → NodeMap → TraitsSeen
effective_traits member target id = option_or (fin.get member id) (fin.get target id)

-- a number that fits a word of 64 bits with sign is an `int`
abbrev pub number_in : Node → Option ℤ
number_in (int z) = Some z
number_in null = None
number_in (bool b) = None
number_in (number t) = None
number_in (text t) = None
number_in (bytes t) = None
number_in (tag k n) = None
number_in (opaque b) = None
number_in (list ns) = None
number_in (object ms) = None

-- a field of an object
abbrev pub field_of : List ℕ → Node → Option Node
field_of name n = tree_named name (unwrap_or (pairs_in n) no_members)

-- the number, and the text, that may be there
abbrev pub number_of : Option Node → Option ℤ
number_of None = None
number_of (Some n) = number_in n

-- a number of 32 bits with sign
abbrev pub fits_word : ℤ → Bool
fits_word (pos n) = nat_lt n (2 ^ 31)
fits_word (negsuc n) = nat_lt n (2 ^ 31)

abbrev pub text_of : Option Node → Option (List ℕ)
text_of None = None
text_of (Some n) = text_in n

-- the bound of this name in the value of `length` or `range`
abbrev pub bound_of : List ℕ → Option Node → Option ℤ
bound_of name None = None
bound_of name (Some n) = number_of (field_of name n)

abbrev pub least_of : Option Node → Option ℤ
least_of n = bound_of (codes "min") n

abbrev pub most_of : Option Node → Option ℤ
most_of n = bound_of (codes "max") n

-- the format that a text names
abbrev pub format_named : Option (List ℕ) → Option Format
format_named None = None
format_named (Some t) =
    if bytes_eq t (codes "date-time") then Some DateTime
    else if bytes_eq t (codes "http-date") then Some HttpDate
    else if bytes_eq t (codes "epoch-seconds") then Some EpochSeconds
    else None

-- which values the traits may have
abbrev pub is_object : Node → Bool
is_object n = is_some (pairs_in n)

abbrev pub is_text : Node → Bool
is_text n = is_some (text_in n)

abbrev pub is_number : Node → Bool
is_number n = is_some (number_in n)

-- a whole number of any size, or one with a fraction or an exponent
abbrev pub is_any_number : Node → Bool
is_any_number (number t) = true
is_any_number (int z) = true
is_any_number null = false
is_any_number (bool b) = false
is_any_number (text t) = false
is_any_number (bytes t) = false
is_any_number (tag k n) = false
is_any_number (opaque b) = false
is_any_number (list ns) = false
is_any_number (object ms) = false

-- a test of what may be there
abbrev pub where_there : (Node → Bool) → Option Node → Bool
where_there test None = true
where_there test (Some n) = test n

-- `{min, max}`, each where it is there
abbrev pub are_bounds : (Node → Bool) → Node → Bool
are_bounds is_bound n = is_object n && where_there is_bound (field_of (codes "min") n) && where_there is_bound (field_of (codes "max") n)

abbrev pub are_whole_bounds : Node → Bool
are_whole_bounds n = are_bounds is_number n

-- `range` of a shape of this kind, or of a member that targets one
abbrev pub is_range : Kind → Node → Bool
is_range Float n = are_bounds is_any_number n
is_range Double n = are_bounds is_any_number n
is_range BigInteger n = are_bounds is_any_number n
is_range BigDecimal n = are_bounds is_any_number n
is_range kind n = are_whole_bounds n

abbrev pub is_timestamp_format : Node → Bool
is_timestamp_format n = is_some (format_named (text_in n))

-- `min` isn't more than `max` where both fit a word
abbrev pub is_ordered : Option ℤ → Option ℤ → Bool
is_ordered (Some a) (Some b) = int_le a b
is_ordered (Some a) None = true
is_ordered None b = true

abbrev pub are_ordered : Node → Bool
are_ordered n = is_ordered (least_of (Some n)) (most_of (Some n))

-- no bound of `length` is negative
abbrev pub is_length_bound : Option ℤ → Bool
is_length_bound None = true
is_length_bound (Some z) = int_le (pos 0) z

abbrev pub are_lengths : Node → Bool
are_lengths n = is_length_bound (least_of (Some n)) && is_length_bound (most_of (Some n))

-- `enumValue` of a member of a shape of this kind
abbrev pub is_enum_value : Kind → Node → Bool
is_enum_value Enum n = is_text n
is_enum_value IntEnum n = is_number n
is_enum_value kind n = is_text n || is_number n

-- the traits that tables are made from have values of their forms; `kind` is that of the shape, or of a member's target
pub record AreFormedTraits (kind : Kind) (seen : TraitsSeen) : Type 0 where
  pub required : IsTrue (where_there is_object (seen required_id))
  pub sparse : IsTrue (where_there is_object (seen sparse_id))
  pub unique : IsTrue (where_there is_object (seen unique_items_id))
  pub length : IsTrue (where_there are_whole_bounds (seen length_id))
  pub lengths : IsTrue (where_there are_lengths (seen length_id))
  pub length_ordered : IsTrue (where_there are_ordered (seen length_id))
  pub range : IsTrue (where_there (is_range kind) (seen range_id))
  pub range_ordered : IsTrue (where_there are_ordered (seen range_id))
  pub pattern : IsTrue (where_there is_text (seen pattern_id))
  pub format : IsTrue (where_there is_timestamp_format (seen timestamp_format_id))
  pub json_name : IsTrue (where_there is_text (seen json_name_id))
