-- Events of each kind, told apart.
use Rattle.std.specs.Prelude.{◌≡◌, ◌⊎◌, ◌↔◌, ℕ, List, ◌++◌, codes}
use Rattle.std.specs.List.{Contains}
use Rattle.sm_model.specs.EventView.{EventTold}
use Rattle.sm_merge.specs.Merged.{HasBadMixin, HasOtherShape, HasTraitConflict, IsAppliedToNothing, IsDefinedOtherwise, IsStatedAgain}
use Rattle.sm_merge.specs.Merged.{model_event}
use Rattle.sm_merge.specs.Places.{metadata_values}
use Rattle.sm_merge.specs.Stated.{Stated}
use Rattle.sm_merge.specs.Values.{HaveConflict}
use Rattle.sm_merge.specs.steps.EventLists.{applied_event, metadata_event, shape_event, trait_event}

abbrev pub member_event : List ℕ → List ℕ → EventTold
member_event id target = model_event id (codes "Model.Member") target

abbrev pub mixin_event : List ℕ → List ℕ → EventTold
mixin_event id mixin = model_event id (codes "Model.Mixin") mixin

-- a list for each kind
pub record Kinds : Type 0 where
  pub shapes : List EventTold
  pub metadata : List EventTold
  pub traits : List EventTold
  pub applied : List EventTold
  pub members : List EventTold
  pub mixins : List EventTold

abbrev pub all_kinds : Kinds → List EventTold
all_kinds k = k.shapes ++ (k.metadata ++ (k.traits ++ (k.applied ++ (k.members ++ k.mixins))))

-- each list has all events of its kind, and no other
pub record TellsAll (ss : List Stated) (k : Kinds) : Type 0 where
  pub shapes : (e : EventTold)
      → Contains k.shapes e ↔ ((id : List ℕ) × (HasOtherShape ss id ⊎ IsStatedAgain ss id) × (e ≡ shape_event id))
  pub metadata : (e : EventTold)
      → Contains k.metadata e ↔ ((key : List ℕ) × HaveConflict (metadata_values ss key) × (e ≡ metadata_event key))
  pub traits : (e : EventTold) → Contains k.traits e ↔ ((id name : List ℕ) × HasTraitConflict ss id name × (e ≡ trait_event id name))
  pub applied : (e : EventTold) → Contains k.applied e ↔ ((id : List ℕ) × IsAppliedToNothing ss id × (e ≡ applied_event id))
  pub members : (e : EventTold)
      → Contains k.members e ↔ ((id target : List ℕ) × IsDefinedOtherwise ss id target × (e ≡ member_event id target))
  pub mixins : (e : EventTold) → Contains k.mixins e ↔ ((id mixin : List ℕ) × HasBadMixin ss id mixin × (e ≡ mixin_event id mixin))
