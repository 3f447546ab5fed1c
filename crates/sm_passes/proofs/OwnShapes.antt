-- Which numbers are those of shapes outside of the prelude.
use Rattle.std.proofs.Common.{◌≡◌, ◌&&◌, ℕ, true, List, Option, Some, None, refl, ap, ◌∙◌}
use Rattle.std.specs.Prelude.{not}
use Rattle.std.specs.FinMap as fin
use Rattle.sm_model.specs.Graphs.{Entry, shape_entry, member_entry, ShapeEntry, MemberEntry, GraphMaps}
use Rattle.sm_model.specs.GraphView.{is_member_entry}
use Rattle.sm_model.specs.PreludeShapes.{is_prelude_id}
use Rattle.sm_model.proofs.Searching.{and_left, and_right}
use Rattle.sm_model.proofs.Worklist.{apart}
use Rattle.sm_rules.specs.Words.{IsOwnShape}
pub use Rattle.sm_http_traits.proofs.OwnStructures.{not_so}
use Rattle.sm_passes.specs.Owned.{is_own_shape, is_shape, is_member_in}

-- a shape outside of the prelude
shape_in : (o : Option Entry) → is_shape o ≡ true → (s : ShapeEntry) × (o ≡ Some (shape_entry s))
shape_in None h = absurd (apart h)
shape_in (Some (shape_entry s)) h = (s, refl)
shape_in (Some (member_entry m)) h = absurd (apart h)

pub own_told : (g : GraphMaps) (id : List ℕ) → is_own_shape g id ≡ true → (s : ShapeEntry) × IsOwnShape g id s
own_told g id h =
    let o = fin.get g.shapes id in
    let s = shape_in o (and_left (is_shape o) (not (is_prelude_id id)) h) in
    (s.0, (s.1, not_so (is_prelude_id id) (and_right (is_shape o) (not (is_prelude_id id)) h)))

pub told_own : (g : GraphMaps) (id : List ℕ) (s : ShapeEntry) → IsOwnShape g id s → is_own_shape g id ≡ true
told_own g id s own = ap (λ o. is_shape o && not (is_prelude_id id)) own.0 ∙ ap not own.1

-- what stands there is a member
pub member_seen : (e : Entry) → is_member_in (Some e) ≡ is_member_entry e
member_seen (shape_entry s) = refl
member_seen (member_entry m) = refl

pub member_in : (o : Option Entry) → is_member_in o ≡ true → (m : MemberEntry) × (o ≡ Some (member_entry m))
member_in None h = absurd (apart h)
member_in (Some (shape_entry s)) h = absurd (apart h)
member_in (Some (member_entry m)) h = (m, refl)
