-- Bodies of restJson1: which of them are the JSON of a document or of a payload, which are a payload's bytes, and which aren't read; and the
-- content type that is looked at.
use Rattle.std.specs.Prelude.{ℕ, Bool, cond, List, [], ◌∷◌, Option, Some, None, codes}
use Rattle.sm_shapes.specs.Places.{kind_of, member_place}
use Rattle.sm_shapes.specs.TableData.{BindingData, payload}
use Rattle.sm_messages.specs.MessageForm.{BodyUse, as_bytes, as_empty_object, as_text, unread}
use Rattle.sm_bind.specs.Documents.{is_tree_kind}
use Rattle.sm_bind.specs.Roles.{Bound, binding_on, bound_members, has_document}
use Rattle.sm_rest_heads.specs.declared.bodies.BodyPart.{BodyPart}
use Rattle.sm_rest_heads.specs.declared.bodies.BodyPart.TheVariants.{Document, Nothing, Raw, Tree}

-- the member whose value is the body by itself
abbrev pub payload_or : Option BindingData → ℕ → Option ℕ → Option ℕ
payload_or (Some payload) k other = Some k
payload_or binding k other = other

abbrev pub payload_among : Bound → List ℕ → Option ℕ
payload_among b [] = None
payload_among b (k ∷ ks) = payload_or (binding_on b k) k (payload_among b ks)

abbrev pub payload_of : Bound → Option ℕ
payload_of b = payload_among b (bound_members b)

abbrev pub is_tree_at : Bound → ℕ → Bool
is_tree_at b k = is_tree_kind (kind_of b.table (member_place k))

-- what stands in the body
abbrev pub payload_part : Bound → Option ℕ → BodyPart
payload_part b None = Nothing
payload_part b (Some k) = cond (is_tree_at b k) Tree (Raw k)

abbrev pub part_of : Bound → BodyPart
part_of b = cond (has_document b) Document (payload_part b (payload_of b))

-- an empty body of a document is the empty object; else it is no payload, or one of no bytes
abbrev pub use_by : BodyPart → Bool → BodyUse
use_by Document empty = cond empty as_empty_object as_text
use_by Tree empty = cond empty unread as_text
use_by (Raw k) empty = as_bytes
use_by Nothing empty = unread

abbrev pub rest_use : Bound → Bool → BodyUse
rest_use b empty = use_by (part_of b) empty

-- the type that is looked at: that of JSON
abbrev pub json_type : List ℕ
json_type = codes "application/json"

abbrev pub wanted_by : BodyPart → Option (List ℕ)
wanted_by Document = Some json_type
wanted_by Tree = Some json_type
wanted_by (Raw k) = None
wanted_by Nothing = None

abbrev pub wanted_type : Bound → Option (List ℕ)
wanted_type b = wanted_by (part_of b)
