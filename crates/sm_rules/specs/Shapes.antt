-- What shapes lead to, and what leads to them: that there are finite values, and that services use shapes (Smithy 2.0, "Recursive shape
-- definitions", "Service").
use Rattle.std.specs.Prelude.{◌≡◌, ◌⊎◌, ℕ, Bool, true, false, List, [], ◌∷◌}
use Rattle.std.specs.List.{Contains}
use Rattle.sm_model.specs.Graphs.{shape_entry, member_entry, ShapeEntry, MemberEntry, GraphMaps}
use Rattle.sm_model.specs.Relations.{HasEntry, IsInGraph}
use Rattle.sm_model.specs.declared.kind.Kind.{Kind}
use Rattle.sm_model.specs.declared.kind.Kind.TheVariants.{Structure, Union, Service, Operation, Resource}
use Rattle.sm_compile.specs.TraitIds.{mixin_id, required_id, trait_id}
use Rattle.sm_rules.specs.Words.{IsOwnShape, has_trait, IsService, IsInClosure}

-- a simple shape, an enum, an intEnum, a list and a map always have a finite value
abbrev pub is_always_finite : Kind → Bool
is_always_finite Structure = false
is_always_finite Union = false
is_always_finite Service = false
is_always_finite Operation = false
is_always_finite Resource = false
is_always_finite kind = true

mutual
  -- a shape has a finite value: a structure where the target of each required member has one, a union where that of some member has
  -- one. What isn't there is taken to have one
  pub data HasFinite (g : GraphMaps) : List ℕ → Type 0 where
    not_there : (id : List ℕ) → (IsInGraph g id → ⊥) → HasFinite g id
    at_once : (id : List ℕ) (s : ShapeEntry) → HasEntry g id (shape_entry s) → is_always_finite s.kind ≡ true → HasFinite g id
    by_required : (id : List ℕ) (s : ShapeEntry) → HasEntry g id (shape_entry s) → s.kind ≡ Structure → RequiredAreFinite g s.members
        → HasFinite g id
    by_one : (id : List ℕ) (s : ShapeEntry) → HasEntry g id (shape_entry s) → s.kind ≡ Union → (member : List ℕ) (m : MemberEntry)
        → Contains s.members member → HasEntry g member (member_entry m) → HasFinite g m.target → HasFinite g id

  -- so has the target of each of these members that is required
  pub data RequiredAreFinite (g : GraphMaps) : List (List ℕ) → Type 0 where
    no_more : RequiredAreFinite g []
    finite_target : (id : List ℕ) (ids : List (List ℕ)) (m : MemberEntry) → HasEntry g id (member_entry m)
        → HasFinite g m.target → RequiredAreFinite g ids → RequiredAreFinite g (id ∷ ids)
    one_optional : (id : List ℕ) (ids : List (List ℕ)) (m : MemberEntry) → HasEntry g id (member_entry m)
        → has_trait required_id m.traits ≡ false → RequiredAreFinite g ids → RequiredAreFinite g (id ∷ ids)

-- Shape.Infinite: a structure or union has no finite value; nothing more is told
pub record HasNoFinite (g : GraphMaps) (id detail : List ℕ) : Type 0 where
  pub s : ShapeEntry
  pub own : IsOwnShape g id s
  pub kind : (s.kind ≡ Structure) ⊎ (s.kind ≡ Union)
  pub none : HasFinite g id → ⊥
  pub detail_is : detail ≡ []

-- Shape.Unused: the model has a service, and the shape is no service, is in no closure, and carries neither `trait` nor `mixin`;
-- nothing more is told
pub record IsUnused (g : GraphMaps) (id detail : List ℕ) : Type 0 where
  pub s : ShapeEntry
  pub own : IsOwnShape g id s
  pub some_service : List ℕ
  pub is_service : IsService g some_service
  pub other : s.kind ≡ Service → ⊥
  pub outside : (service : List ℕ) → IsInClosure g service id → ⊥
  pub no_trait : has_trait trait_id s.traits ≡ false
  pub no_mixin : has_trait mixin_id s.traits ≡ false
  pub detail_is : detail ≡ []
