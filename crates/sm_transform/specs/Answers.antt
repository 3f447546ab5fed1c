-- What renaming a namespace answers.
use Rattle.std.specs.Prelude.{ℕ, List, Result, Ok, Err}
use Rattle.sm_model.specs.Graphs.{GraphMaps}
use Rattle.sm_model.specs.GraphView.{maps_of}
use Rattle.sm_model.specs.declared.graph.Graph.{Graph}
use Rattle.sm_transform.specs.Changed.{Changed, rename}
use Rattle.sm_transform.specs.Renamed.{IsRefused}
use Rattle.sm_transform.specs.declared.renaming.RenameRefusal.{RenameRefusal}
use Rattle.sm_transform.specs.declared.renaming.RenameRefusal.TheVariants.{Namespace, NoMemory}

abbrev pub RenamesTo : GraphMaps → List ℕ → List ℕ → Result Graph RenameRefusal → Type 0
RenamesTo g from to (Ok h) = (IsRefused g from to → ⊥) × Changed g (rename from to) (maps_of h)
RenamesTo g from to (Err Namespace) = IsRefused g from to
RenamesTo g from to (Err NoMemory) = Unit {0}
