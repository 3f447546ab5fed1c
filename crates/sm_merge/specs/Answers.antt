-- What merging answers: the graph where nothing is wrong, else the events, but a limit goes before both.
use Rattle.std.specs.Prelude.{◌<◌, List, length, Result, Ok, Err}
use Rattle.sm_model.specs.Said.{Said}
use Rattle.sm_model.specs.Graphs.{GraphMaps}
use Rattle.sm_model.specs.GraphView.{maps_of}
use Rattle.sm_model.specs.EventView.{EventTold, events_view, AreErrors}
use Rattle.sm_model.specs.declared.graph.Graph.{Graph}
use Rattle.sm_merge.specs.Stated.{Stated, stated_by}
use Rattle.sm_merge.specs.Merged.{IsGraphOf, IsWrong, AreEventsOf}
use Rattle.sm_merge.specs.Limits.{IsFirstPast, IsWithinLimits}
use Rattle.sm_merge.specs.declared.refusal.MergeRefusal.{MergeRefusal}
use Rattle.sm_merge.specs.declared.refusal.MergeRefusal.TheVariants.{Limit, Rejected, NoMemory}

-- statements come to this answer; their graph is one, so what holds of each holds of it
abbrev pub StatementsComeTo : List Stated → Result Graph MergeRefusal → Type 0
StatementsComeTo ss (Ok g) = IsGraphOf ss (maps_of g) × IsWithinLimits (maps_of g) × ((e : EventTold) → IsWrong ss e → ⊥)
StatementsComeTo ss (Err (Limit kind)) = (g : GraphMaps) → IsGraphOf ss g → IsFirstPast kind g
StatementsComeTo ss (Err (Rejected es)) =
    ((g : GraphMaps) → IsGraphOf ss g → IsWithinLimits g) × AreEventsOf ss (events_view es) × AreErrors es × (0 < length es)
StatementsComeTo ss (Err NoMemory) = Unit {0}

abbrev pub MergesTo : List (List Said) → Result Graph MergeRefusal → Type 0
MergesTo files answer = StatementsComeTo (stated_by files) answer
