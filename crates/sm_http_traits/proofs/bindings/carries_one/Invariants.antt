use Rattle.std.proofs.Common.{◌≡◌, drop}
use Rattle.std.specs.List.{list_any}
use Rattle.sm_model.specs.GraphView.{maps_of}
use Rattle.sm_model.specs.Reaching.{id_of_number}
use Rattle.sm_http_traits.specs.Bindings.{carries_binding}
use Rattle.sm_http_traits.proofs.bindings.carries_one.Given as goal

abbrev pub invariant-loop-binding : goal.invariant-loop-binding
invariant-loop-binding l =
    list_any (carries_binding (maps_of l.graph) (id_of_number l.graph l.number)) (drop l.binding-index l.bindings)
    ≡ list_any (carries_binding (maps_of l.graph) (id_of_number l.graph l.number)) l.bindings
