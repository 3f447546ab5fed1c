-- The object that is written for some fields of a structure, a pair of its own before them: error bodies begin with the name of their
-- shape, and documents leave out the members that stand elsewhere in a message.
use Rattle.std.specs.Prelude.{ℕ, nat_eq, Bool, true, cond, List, Option, None, Some}
use Rattle.std.specs.List.{list_any}
use Rattle.sm_tree.specs.Node.{Node, Members, text, object, member}
use Rattle.sm_shapes.specs.TableData.{TableData}
use Rattle.sm_shapes.specs.Places.{Place}
use Rattle.sm_shapes.specs.Values.{FieldVals, no_fields, field}
use Rattle.sm_codec.specs.Convention.{Convention}
use Rattle.sm_codec.specs.Written.{written_fields}

-- the member is one of those that are written; where none are named, all are
abbrev pub is_written : Option (List ℕ) → ℕ → Bool
is_written None k = true
is_written (Some ks) k = list_any (λ j. nat_eq j k) ks

-- the fields of these members
abbrev pub fields_of_members : List ℕ → FieldVals → FieldVals
fields_of_members ks no_fields = no_fields
fields_of_members ks (field k v fs) = cond (is_written (Some ks) k) (field k v (fields_of_members ks fs)) (fields_of_members ks fs)

abbrev pub fields_among : Option (List ℕ) → FieldVals → FieldVals
fields_among None fs = fs
fields_among (Some ks) fs = fields_of_members ks fs

-- a pair of a name and a text before the others, if there is one
abbrev pub with_pair : Option (List ℕ × List ℕ) → Members → Members
with_pair None ms = ms
with_pair (Some pair) ms = member pair.0 (text pair.1) ms

abbrev pub written_object : TableData → Convention → Place → Option (List ℕ × List ℕ) → Option (List ℕ) → FieldVals → Node
written_object t l p before members fs = object (with_pair before (written_fields t l p (fields_among members fs)))
