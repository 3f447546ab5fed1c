-- What `parse_selector`, `select` and `select_among` answer.
use Rattle.std.specs.Prelude.{◌↔◌, ℕ, Bool, List, Result, Ok, Err, get_or, length}
use Rattle.std.specs.List.{Contains}
use Rattle.std.specs.List.Sorted.{IsStrictlySortedBy}
use Rattle.sm_model.specs.Graphs.{GraphMaps, text_cmp}
use Rattle.sm_model.specs.GraphView.{maps_of}
use Rattle.sm_model.specs.Reaching.{AreMarks, id_of_number}
use Rattle.sm_model.specs.declared.graph.Graph.{Graph}
use Rattle.sm_select.specs.Selectors.{Steps, steps_of}
use Rattle.sm_select.specs.Picks.{IsPicked}
use Rattle.sm_select.specs.SelectorText.{SelectorText, BreaksBy, LeavesProfile}
use Rattle.sm_select.specs.View.{selector_view}
use Rattle.sm_select.specs.declared.selector.Selector.{Selector}
use Rattle.sm_select.specs.declared.refusal.SelectorRefusal.{SelectorRefusal}
use Rattle.sm_select.specs.declared.refusal.SelectorRefusal.TheVariants.{Syntax, OutOfProfile, NoMemory}

abbrev pub ParsesSelector : List ℕ → Result Selector SelectorRefusal → Type 0
ParsesSelector text (Ok selector) = SelectorText (steps_of (selector_view selector)) text
ParsesSelector text (Err (Syntax at)) = BreaksBy text at
ParsesSelector text (Err (OutOfProfile at)) = LeavesProfile text at
ParsesSelector text (Err NoMemory) = Unit {0}

-- exactly these ids are picked, in order, each once
pub record ArePicked (g : GraphMaps) (steps : Steps) (ids : List (List ℕ)) : Type 0 where
  pub in_order : IsStrictlySortedBy text_cmp ids
  pub picked : (id : List ℕ) → Contains ids id ↔ IsPicked g steps id

-- of some numbers exactly those places are marked at which something is picked
abbrev pub ArePickedAmong : Graph → Steps → List ℕ → List Bool → Type 0
ArePickedAmong g steps numbers marks =
    AreMarks (length numbers) (λ i. IsPicked (maps_of g) steps (id_of_number g (get_or numbers i 0))) marks
