-- The payload among members, as code looks for it: whatever the side, since a payload counts on each.
use Rattle.std.specs.Prelude.{ℕ, cond, List, [], ◌∷◌, Option, Some, None}
use Rattle.sm_shapes.specs.Places.{kind_of, member_place}
use Rattle.sm_shapes.specs.TableData.{TableData, binding_at}
use Rattle.sm_bind.specs.Documents.{is_tree_kind}
use Rattle.sm_bind.specs.Roles.{is_bound_payload}
use Rattle.sm_rest_heads.specs.declared.bodies.BodyPart.{BodyPart}
use Rattle.sm_rest_heads.specs.declared.bodies.BodyPart.TheVariants.{Nothing, Raw, Tree}

abbrev pub first_payload : TableData → List ℕ → Option ℕ
first_payload t [] = None
first_payload t (k ∷ ks) = cond (is_bound_payload (binding_at t k)) (Some k) (first_payload t ks)

abbrev pub payload_stands : TableData → Option ℕ → BodyPart
payload_stands t None = Nothing
payload_stands t (Some k) = cond (is_tree_kind (kind_of t (member_place k))) Tree (Raw k)
