-- Events for mixins that don't contribute, as they are put.
use Rattle.std.specs.Prelude.{◌≡◌, ◌⊎◌, ◌↔◌, ℕ, List}
use Rattle.std.specs.List.{Contains}
use Rattle.sm_model.specs.EventView.{AreErrors, EventTold, events_view}
use Rattle.sm_model.specs.declared.event.ModelEvent.{ModelEvent}
use Rattle.sm_merge.specs.Merged.{HasBadMixin}
use Rattle.sm_merge.specs.Mixins.{Contributes}
use Rattle.sm_merge.specs.Stated.{ShapeStated, Stated}
use Rattle.sm_merge.specs.steps.AllEvents.{mixin_event}
use Rattle.sm_merge.specs.steps.Contributing.{AreWalkedTables}
use Rattle.sm_merge.specs.declared.parts.BareShape.{BareShape}
use Rattle.sm_merge.specs.declared.table.PlaceRow.{PlaceRow}
use Rattle.sm_merge.specs.declared.walk.Walk.{Walk}

-- such events are put, in any order, and any number of times
abbrev pub PutsSuch : (EventTold → Type 0) → List ModelEvent → List ModelEvent → Type 0
PutsSuch P before now = (e : EventTold) → Contains (events_view now) e ↔ (Contains (events_view before) e ⊎ P e)

abbrev pub KeepErrors : List ModelEvent → List ModelEvent → Type 0
KeepErrors before now = AreErrors before → AreErrors now

abbrev pub TellsBad : List Stated → ShapeStated → List ℕ → List ℕ → EventTold → Type 0
TellsBad ss s id mixin e = (Contributes ss s mixin → ⊥) × (e ≡ mixin_event id mixin)

-- one of these mixins of a shape doesn't
pub record TellsBadAmong (ss : List Stated) (s : ShapeStated) (id : List ℕ) (mixins : List (List ℕ)) (e : EventTold) : Type 0 where
  pub mixin : List ℕ
  pub among : Contains mixins mixin
  pub bad : Contributes ss s mixin → ⊥
  pub is : e ≡ mixin_event id mixin

-- a mixin of a shape with one of these ids doesn't
pub record TellsBadMixin (ss : List Stated) (ids : List (List ℕ)) (e : EventTold) : Type 0 where
  pub id : List ℕ
  pub there : Contains ids id
  pub mixin : List ℕ
  pub bad : HasBadMixin ss id mixin
  pub is : e ≡ mixin_event id mixin

-- these are all events for mixins that don't contribute
abbrev pub TellBadMixins : List BareShape → List PlaceRow → Walk → List ModelEvent → Type 0
TellBadMixins rows traits walk events = (ss : List Stated) → AreWalkedTables ss rows traits walk
    → (e : EventTold) → Contains (events_view events) e ↔ ((id mixin : List ℕ) × HasBadMixin ss id mixin × (e ≡ mixin_event id mixin))
