-- Which numbers are those of services outside of the prelude.
use Rattle.std.proofs.Common.{◌≡◌, ℕ, true, List, Option, Some, None, refl, ap, ◌∙◌}
use Rattle.std.specs.Prelude.{◌&&◌, not}
use Rattle.std.specs.FinMap as fin
use Rattle.sm_model.specs.Graphs.{Entry, shape_entry, member_entry, ShapeEntry, GraphMaps}
use Rattle.sm_model.specs.PreludeShapes.{is_prelude_id}
use Rattle.sm_model.specs.declared.kind.Kind.{Kind}
use Rattle.sm_model.specs.declared.kind.Kind.TheVariants.{Service}
use Rattle.sm_model.proofs.Searching.{and_left, and_right}
use Rattle.sm_model.proofs.Worklist.{apart}
use Rattle.sm_compile.specs.Looked.{kind_in, kind_under}
use Rattle.sm_rules.specs.Words.{IsService}
use Rattle.sm_passes.specs.Owned.{is_own_service, is_service}
use Rattle.sm_passes.proofs.OwnShapes.{not_so}

pub service_kind : (k : Kind) → is_service (Some k) ≡ true → k ≡ Service
service_kind Service h = refl
service_kind k h = absurd (apart h)

pub service_in : (o : Option Entry) → is_service (kind_in o) ≡ true → (s : ShapeEntry) × (o ≡ Some (shape_entry s)) × (s.kind ≡ Service)
service_in None h = absurd (apart h)
service_in (Some (shape_entry s)) h = (s, refl, service_kind s.kind h)
service_in (Some (member_entry m)) h = absurd (apart h)

pub own_service : (g : GraphMaps) (id : List ℕ) → is_own_service g id ≡ true → IsService g id
own_service g id h =
    let s = service_in (fin.get g.shapes id) (and_left (is_service (kind_under g id)) (not (is_prelude_id id)) h) in
    (s.0, (s.1, not_so (is_prelude_id id) (and_right (is_service (kind_under g id)) (not (is_prelude_id id)) h)), s.2)

pub service_own : (g : GraphMaps) (id : List ℕ) → IsService g id → is_own_service g id ≡ true
service_own g id h =
    ap (λ o. is_service (kind_in o) && not (is_prelude_id id)) h.1.0 ∙ ap (λ k. is_service (Some k) && not (is_prelude_id id)) h.2
    ∙ ap not h.1.1
