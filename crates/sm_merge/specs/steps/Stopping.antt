-- Lists that are made shape by shape, up to one where a limit shows.
use Rattle.std.specs.Prelude.{◌≡◌, ◌<◌, ◌+◌, ℕ, List, length, Option, None, Some}
use Rattle.std.specs.Global.{Vec}
use Rattle.sm_merge.specs.steps.Filling.{HasMixedMembers, IsFilled}
use Rattle.sm_merge.specs.steps.Links.{At}
use Rattle.sm_merge.specs.steps.Made.{HaveManyMembers}
use Rattle.sm_merge.specs.steps.MixedIn.{IsMixedOrder}
use Rattle.sm_merge.specs.declared.firsts.NamedTarget.{NamedTarget}
use Rattle.sm_merge.specs.Limits.{most_members}
use Rattle.sm_merge.specs.declared.mixins.Contributing.{Contributing}
use Rattle.sm_merge.specs.declared.parts.BareShape.{BareShape}

-- the members of all shapes, of which none has too many
pub record AreListed (rows : List BareShape) (mixed : List (Vec Contributing)) (order : List ℕ) (all : List (Vec NamedTarget)) : Type
    0 where
  pub size : length all ≡ length rows
  pub filled : IsMixedOrder order mixed → IsFilled (HasMixedMembers rows mixed) order (length order) all
  pub short : HaveManyMembers all → ⊥

-- those of shapes up to one that has too many
pub record HasLongShape (rows : List BareShape) (mixed : List (Vec Contributing)) (order : List ℕ) : Type 0 where
  pub all : List (Vec NamedTarget)
  pub place : ℕ
  pub number : ℕ
  pub list : Vec NamedTarget
  pub stands : At order place number
  pub there : At all number list
  pub long : most_members < length list.items
  pub filled : IsMixedOrder order mixed → IsFilled (HasMixedMembers rows mixed) order (place + 1) all

abbrev pub ListsMembers : List BareShape → List (Vec Contributing) → List ℕ → Option (Vec (Vec NamedTarget)) → Type 0
ListsMembers rows mixed order None = HasLongShape rows mixed order
ListsMembers rows mixed order (Some all) = AreListed rows mixed order all.items
