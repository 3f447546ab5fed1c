-- Ids and names in tables: each row has the id of a shape, and each member an identifier, so members' ids are put together from them.
use Rattle.std.specs.Prelude.{ℕ, List, [], ◌∷◌}
use Rattle.std.specs.Global.{Vec}
use Rattle.sm_ids.specs.Identifier.{IsIdentifier}
use Rattle.sm_model.specs.References.{IsShapeId}
use Rattle.sm_merge.specs.steps.Firsts.{NamesAndTargets, targets_view}
use Rattle.sm_merge.specs.steps.Links.{At}
use Rattle.sm_merge.specs.declared.firsts.NamedTarget.{NamedTarget}
use Rattle.sm_merge.specs.declared.parts.BareShape.{BareShape}

abbrev pub AreNames : NamesAndTargets → Type 0
AreNames [] = Unit {0}
AreNames (p ∷ ps) = IsIdentifier p.0 × AreNames ps

abbrev pub AllNamed : List (Vec NamedTarget) → Type 0
AllNamed members = (v : ℕ) (ms : Vec NamedTarget) → At members v ms → AreNames (targets_view ms.items)

pub record IsNamedRow (row : BareShape) : Type 0 where
  pub id : IsShapeId row.id
  pub own : AreNames row.members.items

pub record AreNamedIds (rows : List BareShape) (members : List (Vec NamedTarget)) : Type 0 where
  pub rows_are : (v : ℕ) (row : BareShape) → At rows v row → IsNamedRow row
  pub all : AllNamed members
