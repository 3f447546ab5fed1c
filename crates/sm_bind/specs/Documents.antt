-- The table by which bodies are read: the table of the service, and behind it for inputs, outputs and errors whose members don't all stand
-- in the document a structure more, with copies of those that do. What a body comes to there is what the document's members come to.
use Rattle.std.specs.Prelude.{◌≡◌, ◌<◌, ℕ, Bool, true, false, cond, List, [], ◌∷◌, Option, Some, None}
use Rattle.sm_rules.specs.Bindings.{BoundSide}
use Rattle.sm_shapes.specs.InOrder.{Built, Shaped}
use Rattle.sm_shapes.specs.Fitting.{Test}
use Rattle.sm_shapes.specs.Places.{kind_of, member_place}
use Rattle.sm_shapes.specs.TableData.{BindingData, TableData, kind_at, payload, shape_count, target_at}
use Rattle.sm_shapes.specs.declared.kinds.ShapeKind.{ShapeKind}
use Rattle.sm_shapes.specs.declared.kinds.ShapeKind.TheVariants as table
use Rattle.sm_excerpts.specs.Excerpts.{Extends, IsExcerpt}
use Rattle.sm_bind.specs.Roles.{Bound, binding_on, bound_members, bound_on, document_members, has_document}

-- the shape by which the body of a message is read: that of its document, or the target of a payload that is a tree
abbrev pub is_tree_kind : ShapeKind → Bool
is_tree_kind table.Structure = true
is_tree_kind table.Union = true
is_tree_kind kind = false

abbrev pub shape_by : Option BindingData → TableData → ℕ → Option ℕ → Option ℕ
shape_by (Some payload) t k other = cond (is_tree_kind (kind_of t (member_place k))) (Some (target_at t k)) None
shape_by binding t k other = other

abbrev pub payload_shape : Bound → List ℕ → Option ℕ
payload_shape b [] = None
payload_shape b (k ∷ ks) = shape_by (binding_on b k) b.table k (payload_shape b ks)

abbrev pub IsBodyBy : Bool → TableData → Bound → Option ℕ → Type 0
IsBodyBy true d b None = ⊥
IsBodyBy true d b (Some s) = IsExcerpt d b.table s (document_members b)
IsBodyBy false d b shape = payload_shape b (bound_members b) ≡ shape

abbrev pub IsBodyShape : TableData → Bound → Option ℕ → Type 0
IsBodyShape d b shape = IsBodyBy (has_document b) d b shape

-- Such a table of another one, and the number of the shape by which a body is read that goes to a structure on a side. The table is in
-- order, and built with the store of patterns with which the other is
pub record AreDocumentsOf (t d : TableData) (body : BoundSide → ℕ → Option ℕ) : Type 0 where
  pub extends : Extends d t
  pub shaped : Shaped d
  pub built : (added : List (List ℕ)) (test : Test) → Built t added test → Built d added test
  pub each : (side : BoundSide) (s : ℕ) → s < shape_count t → kind_at t s ≡ table.Structure
      → IsBodyShape d (bound_on t side s) (body side s)
