-- In a graph in which no rule fails that rejects, members of enums target `Unit`.
use Rattle.std.proofs.Common.{◌≡◌, inl, inr, ℕ, true, List, [], ◌∷◌, map, Some, refl, sym, ap, subst, ◌∙◌, bytes_eq}
use Rattle.std.specs.FinMap as fin
use Rattle.std.proofs.lemmas.Option.{same_Some}
use Rattle.std.proofs.lemmas.Slice.Eq.{bytes_eq-Decides}
use Rattle.sm_ids.specs.IdText.{IsShapeId}
use Rattle.sm_ids.specs.TextParts.{shape_part}
use Rattle.sm_ids.proofs.TextCuts.{of_member}
use Rattle.sm_model.specs.Formed.{StandsAmong}
use Rattle.sm_model.specs.Graphs.{Entry, GraphMaps, MemberEntry, ShapeEntry, member_entry, member_id, shape_entry}
use Rattle.sm_model.specs.PreludeShapes.{unit_id}
use Rattle.sm_model.specs.declared.kind.Kind.{Kind}
use Rattle.sm_compile.specs.Kinds.{has_values, may_target}
use Rattle.sm_compile.specs.Sound.{AreSoundMembers, IsSoundMember}
use Rattle.sm_load.specs.Laws.{SoundWithoutErrors}
use Rattle.sm_load.specs.Loading.{HasError}
use Rattle.sm_again.specs.WrittenMerges.{EnumsTargetUnit, IsEnum}
use Rattle.sm_again.proofs.GraphLoads.{IsWhole}
use Rattle.sm_again.proofs.MergedShapes.{prelude_plain}

listed : (shape name : List ℕ) (names : List (List ℕ)) → StandsAmong name names → StandsAmong (member_id shape name) (map (member_id shape) names)
listed shape name [] h = h
listed shape name (n ∷ ns) (inl same) = inl (ap (member_id shape) same)
listed shape name (n ∷ ns) (inr later) = inr (listed shape name ns later)

sound_among : (g : GraphMaps) (kind : Kind) (ids : List (List ℕ)) → AreSoundMembers g kind ids → (id : List ℕ) → StandsAmong id ids
    → IsSoundMember g kind id
sound_among g kind [] all id h = absurd h
sound_among g kind (i ∷ ids) all id (inl same) = subst (IsSoundMember g kind) (sym same) all.0
sound_among g kind (i ∷ ids) all id (inr later) = sound_among g kind ids all.1 id later

-- an enum has values, and its members may target `Unit` alone
has_its : (kind : Kind) → IsEnum kind → has_values kind ≡ true
has_its kind (inl is) = ap has_values is
has_its kind (inr is) = ap has_values is

unit_alone : (kind target : Kind) (id : List ℕ) → IsEnum kind → may_target kind (bytes_eq id unit_id) target ≡ true → id ≡ unit_id
unit_alone kind target id (inl is) may =
    (bytes_eq-Decides id unit_id).0 (sym (ap (λ k. may_target k (bytes_eq id unit_id) target) is) ∙ may)
unit_alone kind target id (inr is) may =
    (bytes_eq-Decides id unit_id).0 (sym (ap (λ k. may_target k (bytes_eq id unit_id) target) is) ∙ may)

module _ (sound : SoundWithoutErrors) (g : GraphMaps) (w : IsWhole g) (none : HasError g → ⊥) where
  pub shape_id : (id : List ℕ) (s : ShapeEntry) → fin.get g.shapes id ≡ Some (shape_entry s) → IsShapeId id
  shape_id id s found = elim (w.regular.entries id (shape_entry s) found) [
    | inl of_prelude ↦ (prelude_plain id (shape_entry s) of_prelude).0
    | inr r ↦ r.is
  ]

  -- a member is listed by its shape
  among : (id name : List ℕ) (s : ShapeEntry) (m : MemberEntry) → fin.get g.shapes id ≡ Some (shape_entry s)
      → fin.get g.shapes (member_id id name) ≡ Some (member_entry m) → StandsAmong (member_id id name) s.members
  among id name s m found there = elim (w.regular.entries (member_id id name) (member_entry m) there) [
    | inl of_prelude ↦ absurd (prelude_plain (member_id id name) (member_entry m) of_prelude)
    | inr r ↦
        let home : id ≡ r.shape =
        sym (of_member id (shape_id id s found) name) ∙ ap shape_part r.under ∙ of_member r.shape r.is.is r.name in
        let same : shape_entry s ≡ shape_entry r.s =
        same_Some (shape_entry s) (shape_entry r.s) (sym found ∙ ap (fin.get g.shapes) home ∙ r.there) in
        let members : s.members ≡ map (member_id r.shape) r.is.names = ap members_in same ∙ r.is.members in
        subst (λ ids. StandsAmong (member_id id name) ids) (sym members)
        (subst (λ k. StandsAmong k (map (member_id r.shape) r.is.names)) (sym r.under) (listed r.shape r.name r.is.names r.among))
  ]
    where
      members_in : Entry → List (List ℕ)
      members_in (shape_entry x) = x.members
      members_in (member_entry x) = []

  pub enums_target_unit : EnumsTargetUnit g
  enums_target_unit id name s m found is_enum there =
      let shape = sound g w.formed none id (s, found, has_its s.kind is_enum) id s ([], refl) found in
      let its = sound_among g s.kind s.members shape.each (member_id id name) (among id name s m found there) in
      let same : member_entry its.m ≡ member_entry m = same_Some (member_entry its.m) (member_entry m) (sym its.there ∙ there) in
      let target : its.m.target ≡ m.target = ap target_in same in
      sym target ∙ unit_alone s.kind its.target.kind its.m.target is_enum its.may_target
    where
      target_in : Entry → List ℕ
      target_in (shape_entry x) = []
      target_in (member_entry x) = x.target
