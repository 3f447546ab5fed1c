-- The types of shapes outside of the prelude.
use Rattle.std.proofs.Common.{◌≡◌, ℕ, Bool, true, false, cond, List, Option, Some, None, refl}
use Rattle.std.specs.FinMap as fin
use Rattle.std.proofs.lemmas.Option.{none-some, same_Some}
use Rattle.sm_model.specs.Graphs.{Entry, shape_entry, member_entry, ShapeEntry, GraphMaps}
use Rattle.sm_model.specs.PreludeShapes.{is_prelude_id}
use Rattle.sm_model.specs.declared.kind.Kind.{Kind}
use Rattle.sm_compile.specs.Looked.{kind_in}
use Rattle.sm_rules.specs.Words.{IsOwnShape}
use Rattle.sm_passes.specs.Owned.{own_kind}

-- the shape of its own type
pub own_shape : (g : GraphMaps) (id : List ℕ) (kind : Kind) → own_kind g id ≡ Some kind
    → (s : ShapeEntry) × IsOwnShape g id s × (s.kind ≡ kind)
own_shape g id kind h = by (is_prelude_id id) refl (fin.get g.shapes id) refl h
  where
    by : (b : Bool) → is_prelude_id id ≡ b → (o : Option Entry) → fin.get g.shapes id ≡ o → cond b None (kind_in o) ≡ Some kind
        → (s : ShapeEntry) × IsOwnShape g id s × (s.kind ≡ kind)
    by true is o at h = absurd (none-some kind h)
    by false is None at h = absurd (none-some kind h)
    by false is (Some (shape_entry s)) at h = (s, (at, is), same_Some s.kind kind h)
    by false is (Some (member_entry m)) at h = absurd (none-some kind h)

pub is_own_kind : (g : GraphMaps) (id : List ℕ) (s : ShapeEntry) → IsOwnShape g id s → own_kind g id ≡ Some s.kind
is_own_kind g id s own = (λ i. cond (own.1 i) None (kind_in (own.0 i)))
