-- Events as data, and their order: by their shapes, then their ids, then their details, by bytes.
use Rattle.std.specs.Prelude.{◌≡◌, ℕ, List, [], ◌∷◌, map}
use Rattle.std.specs.Ordering.{ordering_then}
use Rattle.std.specs.declared.cmp.Ordering.{Ordering}
use Rattle.std.specs.declared.cmp.Ordering.TheVariants.{Less}
use Rattle.sm_model.specs.Graphs.{text_cmp}
use Rattle.sm_model.specs.declared.event.ModelEvent.{ModelEvent}
use Rattle.sm_model.specs.declared.event.Severity.TheVariants.{Error}

-- an event: the shape or member that it speaks of, its id, and its detail
pub record EventTold : Type 0 where
  pub shape : List ℕ
  pub event : List ℕ
  pub detail : List ℕ

abbrev pub event_cmp : EventTold → EventTold → Ordering
event_cmp a b = ordering_then (text_cmp a.shape b.shape) (ordering_then (text_cmp a.event b.event) (text_cmp a.detail b.detail))

abbrev pub event_view : ModelEvent → EventTold
event_view e = record { shape = e.shape; event = e.id; detail = e.detail }

abbrev pub events_view : List ModelEvent → List EventTold
events_view es = map event_view es

-- each event is before the next, so none stands twice
abbrev pub IsBeforeAll : EventTold → List EventTold → Type 0
IsBeforeAll e [] = Unit {0}
IsBeforeAll e (f ∷ fs) = (event_cmp e f ≡ Less) × IsBeforeAll e fs

abbrev pub AreInOrder : List EventTold → Type 0
AreInOrder [] = Unit {0}
AreInOrder (e ∷ es) = IsBeforeAll e es × AreInOrder es

-- the model is rejected for each of them
abbrev pub AreErrors : List ModelEvent → Type 0
AreErrors [] = Unit {0}
AreErrors (e ∷ es) = (e.severity ≡ Error) × AreErrors es
