-- What a graph is made of from tables of shapes, members and traits, and how much that counts.
use Rattle.std.specs.Prelude.{◌⊎◌, ◌<◌, ◌+◌, ◌&&◌, ◌++◌, ℕ, Bool, not, List, [], ◌∷◌, map, length, is_some, if◌then◌else◌}
use Rattle.std.specs.Global.{Vec}
use Rattle.std.specs.FinMap as fin
use Rattle.sm_tree.specs.Node.{Node, text}
use Rattle.sm_tree.specs.Size.{node_size}
use Rattle.sm_tree.specs.View.{node_of, pairs_view}
use Rattle.sm_model.specs.GivenView.{members_given_of}
use Rattle.sm_model.specs.Graphs.{MemberGiven, ShapeGiven, text_cmp}
use Rattle.sm_model.specs.declared.kind.Kind.{Kind}
use Rattle.sm_merge.specs.Merged.{enum_value, is_enum}
use Rattle.sm_merge.specs.Mixins.{EffectiveShape}
use Rattle.sm_merge.specs.steps.EffectiveTables.{AreSoundTraits, by_members, effective_view, trait_pairs, traits_of_member}
use Rattle.sm_merge.specs.steps.Firsts.{NamesAndTargets, targets_view}
use Rattle.sm_merge.specs.steps.Placed.{Bare, bare_view}
use Rattle.sm_merge.specs.declared.effective.MemberTraits.{MemberTraits}
use Rattle.sm_merge.specs.declared.effective.ShapeTraits.{ShapeTraits}
use Rattle.sm_merge.specs.declared.firsts.NamedTarget.{NamedTarget}
use Rattle.sm_merge.specs.Limits.{most_members}
use Rattle.sm_merge.specs.declared.parts.BareShape.{BareShape}
use Rattle.sm_merge.specs.declared.shape_parts.ShapePart.{ShapePart}
use Rattle.sm_merge.specs.declared.table.NamedValue.{NamedValue}

-- a member of an enum that has no value gets its name
abbrev pub lacks_value : Kind → List (List ℕ × Node) → Bool
lacks_value kind ps = is_enum kind && not (is_some (fin.find text_cmp enum_value ps))

abbrev pub valued : Kind → List ℕ → List (List ℕ × Node) → List (List ℕ × Node)
valued kind name ps = if lacks_value kind ps then ps ++ (enum_value, text name) ∷ [] else ps

-- the names of members with traits
abbrev pub member_names : List MemberTraits → List (List ℕ)
member_names ts = map (λ m. m.0) (by_members ts)

-- members and shapes
abbrev pub made_member : Kind → List MemberTraits → List ℕ × List ℕ → MemberGiven
made_member kind ts p = record { name = p.0; target = p.1; traits = valued kind p.0 (trait_pairs (traits_of_member p.0 ts)) }

abbrev pub made_members : Kind → List MemberTraits → NamesAndTargets → List MemberGiven
made_members kind ts ps = map (made_member kind ts) ps

abbrev pub made_shape : Bare → List NamedTarget → ShapeTraits → ShapeGiven
made_shape b ms t = record {
  id = b.id;
  kind = b.kind;
  members = made_members b.kind t.members.items (targets_view ms);
  properties = b.properties;
  traits = trait_pairs t.own.items;
}

abbrev pub made_shapes : List BareShape → List (Vec NamedTarget) → List ShapeTraits → List ShapeGiven
made_shapes [] mss ts = []
made_shapes (r ∷ rows) [] ts = []
made_shapes (r ∷ rows) (ms ∷ mss) [] = []
made_shapes (r ∷ rows) (ms ∷ mss) (t ∷ ts) = made_shape (bare_view r) ms.items t ∷ made_shapes rows mss ts

-- what these shapes come to with their mixins
abbrev pub effective_views : List (Vec NamedTarget) → List ShapeTraits → List EffectiveShape
effective_views [] ts = []
effective_views (ms ∷ mss) [] = []
effective_views (ms ∷ mss) (t ∷ ts) = effective_view ms.items t ∷ effective_views mss ts

abbrev pub AreAllSound : List ShapeTraits → Type 0
AreAllSound [] = Unit {0}
AreAllSound (t ∷ ts) = AreSoundTraits t × AreAllSound ts

-- how much values count
abbrev pub pairs_size : List (List ℕ × Node) → ℕ
pairs_size [] = 0
pairs_size (p ∷ ps) = node_size p.1 + pairs_size ps

abbrev pub members_size : List MemberGiven → ℕ
members_size [] = 0
members_size (m ∷ ms) = pairs_size m.traits + members_size ms

abbrev pub shape_size : ShapeGiven → ℕ
shape_size s = pairs_size s.traits + members_size s.members

abbrev pub shapes_size : List ShapeGiven → ℕ
shapes_size [] = 0
shapes_size (s ∷ ss) = shape_size s + shapes_size ss

-- how many members there are
abbrev pub HaveManyMembers : List (Vec NamedTarget) → Type 0
HaveManyMembers [] = ⊥
HaveManyMembers (ms ∷ mss) = (most_members < length ms.items) ⊎ HaveManyMembers mss

abbrev pub members_count : List (Vec NamedTarget) → ℕ
members_count [] = 0
members_count (ms ∷ mss) = length ms.items + members_count mss

-- shapes of the code with their parts
abbrev pub parted_shape : Bare → ShapePart → ShapeGiven
parted_shape b p = record {
  id = b.id;
  kind = b.kind;
  members = members_given_of p.members;
  properties = b.properties;
  traits = pairs_view p.traits;
}

abbrev pub parted_shapes : List BareShape → List ShapePart → List ShapeGiven
parted_shapes [] ps = []
parted_shapes (r ∷ rows) [] = []
parted_shapes (r ∷ rows) (p ∷ ps) = parted_shape (bare_view r) p ∷ parted_shapes rows ps

-- metadata
abbrev pub metadata_pairs : List NamedValue → List (List ℕ × Node)
metadata_pairs vs = map (λ v. (v.name, node_of v.folded.value)) vs
