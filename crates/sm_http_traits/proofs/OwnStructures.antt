-- Which ids are those of structures outside of the prelude.
use Rattle.std.proofs.Common.{◌≡◌, ◌&&◌, ℕ, Bool, true, false, List, Option, Some, None, refl, ap, ◌∙◌}
use Rattle.std.specs.Prelude.{not}
use Rattle.std.specs.FinMap as fin
use Rattle.sm_model.specs.Graphs.{Entry, shape_entry, member_entry, ShapeEntry, GraphMaps}
use Rattle.sm_model.specs.PreludeShapes.{is_prelude_id}
use Rattle.sm_model.specs.declared.kind.Kind.{Kind}
use Rattle.sm_model.specs.declared.kind.Kind.TheVariants.{Structure}
use Rattle.sm_model.proofs.Searching.{and_left, and_right}
use Rattle.sm_model.proofs.Worklist.{apart}
use Rattle.sm_compile.specs.Looked.{kind_in, kind_under}
use Rattle.sm_rules.specs.Words.{IsOwnShape}
use Rattle.sm_http_traits.specs.Carriers.{is_own_structure, is_structure}

pub not_so : (b : Bool) → not b ≡ true → b ≡ false
not_so true h = absurd (apart h)
not_so false h = refl

structure_kind : (k : Kind) → is_structure (Some k) ≡ true → k ≡ Structure
structure_kind Structure h = refl
structure_kind k h = absurd (apart h)

-- a structure outside of the prelude, as data
abbrev pub OwnStructure : GraphMaps → List ℕ → Type 0
OwnStructure g id = (s : ShapeEntry) × IsOwnShape g id s × (s.kind ≡ Structure)

structure_of : (o : Option Entry) → is_structure (kind_in o) ≡ true → (s : ShapeEntry) × (o ≡ Some (shape_entry s)) × (s.kind ≡ Structure)
structure_of None h = absurd (apart h)
structure_of (Some (shape_entry s)) h = (s, refl, structure_kind s.kind h)
structure_of (Some (member_entry m)) h = absurd (apart h)

pub own_structure : (g : GraphMaps) (id : List ℕ) → is_own_structure g id ≡ true → OwnStructure g id
own_structure g id h =
    let kind = and_left (is_structure (kind_under g id)) (not (is_prelude_id id)) h in
    let own = and_right (is_structure (kind_under g id)) (not (is_prelude_id id)) h in
    let s = structure_of (fin.get g.shapes id) kind in
    (s.0, (s.1, not_so (is_prelude_id id) own), s.2)

pub is_own : (g : GraphMaps) (id : List ℕ) → OwnStructure g id → is_own_structure g id ≡ true
is_own g id own =
    ap (λ o. is_structure (kind_in o) && not (is_prelude_id id)) own.1.0 ∙ ap (λ k. is_structure (Some k) && not (is_prelude_id id)) own.2
    ∙ ap not own.1.1
