-- Members for which maps may stand are maps.
use Rattle.std.proofs.Common.{◌≡◌, ℕ, ◌<◌, true, List, [], ◌∷◌, refl, sym}
use Rattle.std.proofs.lemmas.Bool.{true≢false}
use Rattle.std.specs.Prelude.{None, Option, Some}
use Rattle.std.specs.List.{AllByRecursion, Contains}
use Rattle.sm_model.proofs.OneRising.{contains_behind, contains_head}
use Rattle.sm_model.proofs.Searching.{and_left}
use Rattle.sm_shapes.specs.InOrder.{Shaped}
use Rattle.sm_shapes.specs.TableData.{BindingData, label, member_count, members_at, query, query_params, header, prefix_headers, payload}
use Rattle.sm_shapes.specs.TableData.{response_code, shape_count, target_at}
use Rattle.sm_shapes.specs.declared.kinds.ShapeKind.{ShapeKind}
use Rattle.sm_shapes.specs.declared.kinds.ShapeKind.TheVariants as kinds
use Rattle.sm_excerpts.proofs.Extending.{members_there}
use Rattle.sm_messages.specs.service.HttpServable.{HaveTargets}
use Rattle.sm_messages.specs.service.WireMembers.{TargetSeen, is_map_kind, may_be_bound, target_seen_at, wire_member_at, wire_members}
use Rattle.sm_bind.specs.Roles.{Bound, binding_on, bound_members}
use Rattle.sm_bind_read.specs.steps.Coming.{IsMemberOf, is_map_bound}
use Rattle.sm_bind_read.proofs.PayloadComes.{wire_there}

map_from : (kind : ShapeKind) → is_map_kind kind ≡ true → kind ≡ kinds.Map
map_from kinds.Map h = refl
map_from kinds.Blob h = absurd (true≢false (sym h))
map_from kinds.Boolean h = absurd (true≢false (sym h))
map_from kinds.Text h = absurd (true≢false (sym h))
map_from kinds.Enum h = absurd (true≢false (sym h))
map_from kinds.Byte h = absurd (true≢false (sym h))
map_from kinds.Short h = absurd (true≢false (sym h))
map_from kinds.Integer h = absurd (true≢false (sym h))
map_from kinds.IntEnum h = absurd (true≢false (sym h))
map_from kinds.Long h = absurd (true≢false (sym h))
map_from kinds.Timestamp h = absurd (true≢false (sym h))
map_from kinds.List h = absurd (true≢false (sym h))
map_from kinds.Structure h = absurd (true≢false (sym h))
map_from kinds.Union h = absurd (true≢false (sym h))
map_from kinds.LeftOut h = absurd (true≢false (sym h))

map_kind : (o : Option BindingData) → is_map_bound o ≡ true → (t : TargetSeen)
    → ((x : BindingData) → o ≡ Some x → may_be_bound x t ≡ true) → t.kind ≡ kinds.Map
map_kind None h t may = absurd (true≢false (sym h))
map_kind (Some query_params) h t may = map_from t.kind (and_left (is_map_kind t.kind) _ (may query_params refl))
map_kind (Some (prefix_headers prefix)) h t may = map_from t.kind (and_left (is_map_kind t.kind) _ (may (prefix_headers prefix) refl))
map_kind (Some label) h t may = absurd (true≢false (sym h))
map_kind (Some (query name)) h t may = absurd (true≢false (sym h))
map_kind (Some (header name)) h t may = absurd (true≢false (sym h))
map_kind (Some payload) h t may = absurd (true≢false (sym h))
map_kind (Some response_code) h t may = absurd (true≢false (sym h))

module _ (b : Bound) (targets : HaveTargets b.side (wire_members b.table b.shape)) where
  each_member : (ks : List ℕ) → AllByRecursion (λ k. k < member_count b.table) ks
      → ((k : ℕ) → Contains ks k → Contains (members_at b.table b.shape) k) → AllByRecursion (IsMemberOf b) ks
  each_member [] there inside = tt
  each_member (k ∷ ks) there inside = (
    (
      there.0,
      λ h. map_kind (binding_on b k) h (target_seen_at b.table (target_at b.table k))
          (λ x e. targets (wire_member_at b.table k) x (wire_there b k (members_at b.table b.shape) (inside k (contains_head k ks))) e),
    ),
    each_member ks there.1 (λ j found. inside j (contains_behind k j ks found)),
  )

  pub members_are : Shaped b.table → b.shape < shape_count b.table → AllByRecursion (IsMemberOf b) (bound_members b)
  members_are shaped lt =
      each_member (bound_members b) (members_there b.table b.shape (bound_members b) (shaped.members b.shape lt)) (λ k found. found)
