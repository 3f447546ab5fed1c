-- What shapes come to with their mixins, by their numbers: names of members with targets, and rows of traits. Values aren't copied.
use Rattle.std.specs.Prelude.{◌≡◌, ℕ, List, [], ◌∷◌, map, length}
use Rattle.std.specs.Global.{Vec}
use Rattle.std.specs.Option.{unwrap_or}
use Rattle.std.specs.FinMap as fin
use Rattle.sm_tree.specs.Node.{Node}
use Rattle.sm_tree.specs.View.{node_of}
use Rattle.sm_model.specs.Graphs.{MemberEntry, NodeMap, text_cmp}
use Rattle.sm_model.specs.steps.Rising.{Rise}
use Rattle.sm_merge.specs.Mixins.{EffectiveMembers, EffectiveShape, IsEffective}
use Rattle.sm_merge.specs.Stated.{Stated}
use Rattle.sm_merge.specs.steps.Firsts.{NamesAndTargets, targets_view}
use Rattle.sm_merge.specs.steps.Folding.{IsRunning}
use Rattle.sm_merge.specs.steps.Links.{At}
use Rattle.sm_merge.specs.steps.ShapeTables.{ids_of}
use Rattle.sm_merge.specs.declared.effective.MemberTraits.{MemberTraits}
use Rattle.sm_merge.specs.declared.effective.NamedFolded.{NamedFolded}
use Rattle.sm_merge.specs.declared.effective.ShapeTraits.{ShapeTraits}
use Rattle.sm_merge.specs.declared.firsts.NamedTarget.{NamedTarget}
use Rattle.sm_merge.specs.declared.parts.BareShape.{BareShape}

-- the members of a shape by their names, with their targets
abbrev pub named_targets : EffectiveMembers → NamesAndTargets
named_targets ms = map (λ m. (m.0, m.1.target)) ms

abbrev pub HasMembers : List Stated → List ℕ → NamesAndTargets → Type 0
HasMembers ss id ps = (m : EffectiveShape) → IsEffective ss id m → named_targets m.members ≡ ps

-- those of each shape of a table, by its number
pub record AreMembersOf (ss : List Stated) (rows : List BareShape) (members : List (Vec NamedTarget)) : Type 0 where
  pub size : length members ≡ length rows
  pub each : (v : ℕ) (id : List ℕ) (ms : Vec NamedTarget) → At (ids_of rows) v id → At members v ms
      → HasMembers ss id (targets_view ms.items)

-- traits by their names
abbrev pub trait_pairs : List NamedFolded → List (List ℕ × Node)
trait_pairs ts = map (λ t. (t.name.now, node_of t.folded.now.value)) ts

abbrev pub trait_names : List NamedFolded → List (List ℕ)
trait_names ts = map (λ t. t.0) (trait_pairs ts)

abbrev pub traits_map : List NamedFolded → NodeMap
traits_map ts = fin.from_entries (trait_pairs ts)

-- those of members, by the members' names; a member without traits may be left out
abbrev pub by_members : List MemberTraits → List (List ℕ × List NamedFolded)
by_members ms = map (λ m. (m.member, m.traits.items)) ms

abbrev pub traits_of_member : List ℕ → List MemberTraits → List NamedFolded
traits_of_member name ms = unwrap_or (fin.find text_cmp name (by_members ms)) []

-- what a shape with these members and traits is
abbrev pub effective_member : List MemberTraits → List ℕ × List ℕ → List ℕ × MemberEntry
effective_member ts p = (p.0, record { target = p.1; traits = traits_map (traits_of_member p.0 ts) })

abbrev pub effective_view : List NamedTarget → ShapeTraits → EffectiveShape
effective_view members t = record {
  members = map (effective_member t.members.items) (targets_view members);
  traits = traits_map t.own.items;
}

-- each name once, in order, and how much each value counts is told
abbrev pub AreRunning : List NamedFolded → Type 0
AreRunning [] = Unit {0}
AreRunning (t ∷ ts) = IsRunning t.folded.now × AreRunning ts

pub record AreTraitRows (ts : List NamedFolded) : Type 0 where
  pub rise : Rise (trait_names ts)
  pub running : AreRunning ts

pub record AreSoundTraits (t : ShapeTraits) : Type 0 where
  pub own : AreTraitRows t.own.items
  pub rise : Rise (map (λ m. m.0) (by_members t.members.items))
  pub members : (name : List ℕ) → AreTraitRows (traits_of_member name t.members.items)

-- what each shape of a table comes to, by its number
pub record AreEffectiveTables (ss : List Stated) (rows : List BareShape) (members : List (Vec NamedTarget)) (traits : List ShapeTraits)
    : Type 0 where
  pub size : length traits ≡ length rows
  pub each : (v : ℕ) (id : List ℕ) (ms : Vec NamedTarget) (t : ShapeTraits) → At (ids_of rows) v id → At members v ms → At traits v t
      → IsEffective ss id (effective_view ms.items t)
  pub sound : (v : ℕ) (t : ShapeTraits) → At traits v t → AreSoundTraits t
