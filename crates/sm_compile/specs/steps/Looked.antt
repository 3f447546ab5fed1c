-- What is looked up by number, and steps between numbers.
use Rattle.std.specs.Prelude.{◌<◌, ℕ, List, length}
use Rattle.std.specs.List.{Contains}
use Rattle.sm_model.specs.GraphView.{entries_of, maps_of}
use Rattle.sm_model.specs.Reaching.{id_of_number}
use Rattle.sm_model.specs.declared.graph.Graph.{Graph}
pub use Rattle.sm_compile.specs.Looked.{kind_in, kind_under, listed_in, listed_under, target_in, target_under, kind_where, target_kind}
pub use Rattle.sm_compile.specs.Looked.{is_unit, targets_unit}
use Rattle.sm_compile.specs.Reached.{IsReached, LeadsTo}

-- a step by members and targets, from number to number
abbrev pub LeadsByNumber : Graph → ℕ → ℕ → Type 0
LeadsByNumber g a b = (b < length (entries_of g)) × LeadsTo (maps_of g) (id_of_number g a) (id_of_number g b)

-- reached from what stands at one of these numbers
abbrev pub IsReachedFrom : Graph → List ℕ → List ℕ → Type 0
IsReachedFrom g roots id = (r : ℕ) × Contains roots r × IsReached (maps_of g) (id_of_number g r) id
