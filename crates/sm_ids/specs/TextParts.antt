-- The parts of an id's text by its marks `#` and `$`, and ids put together from parts (Smithy 2.0, "Shape ID"). The parts are
-- those of any text, since a text is cut before it is known to be an id.
use Rattle.std.specs.Prelude.{◌==◌, ℕ, Bool, List, ◌∷◌, ◌++◌, drop}
use Rattle.std.specs.List.{before_first, after_first, list_any, position_or_len}
use Rattle.sm_bytes.specs.Ascii.{number_sign, dollar}

abbrev pub is_byte : ℕ → ℕ → Bool
is_byte byte c = c == byte

-- before the `#`, all where there is none; behind it, nothing where there is none
abbrev pub namespace_part : List ℕ → List ℕ
namespace_part id = before_first (is_byte number_sign) id

abbrev pub local_part : List ℕ → List ℕ
local_part id = after_first (is_byte number_sign) id

-- before the `$`, the id of the shape; behind it, the name of the member; and this name with its `$`
abbrev pub shape_part : List ℕ → List ℕ
shape_part id = before_first (is_byte dollar) id

abbrev pub member_name : List ℕ → List ℕ
member_name id = after_first (is_byte dollar) id

abbrev pub member_part : List ℕ → List ℕ
member_part id = drop (position_or_len (is_byte dollar) id) id

-- the name of the shape, without its namespace and its member
abbrev pub name_part : List ℕ → List ℕ
name_part id = shape_part (local_part id)

-- a text with a `#` is absolute, one with a `$` speaks of a member
abbrev pub is_absolute : List ℕ → Bool
is_absolute id = list_any (is_byte number_sign) id

abbrev pub has_member : List ℕ → Bool
has_member id = list_any (is_byte dollar) id

-- the id of a shape by its namespace and its name, and the id of a member by that of its shape and its name
abbrev pub absolute_id : List ℕ → List ℕ → List ℕ
absolute_id namespace name = namespace ++ number_sign ∷ name

abbrev pub member_id : List ℕ → List ℕ → List ℕ
member_id shape name = shape ++ dollar ∷ name
