use Rattle.std.proofs.Common.{drop}
use Rattle.sm_model.specs.GraphView.{maps_of}
use Rattle.sm_compile.specs.declared.compiled.Served.{Served}
use Rattle.sm_service.specs.ServedOperation.{TellsAllServed}
use Rattle.sm_service.specs.steps.ServingRooms.{IsServingRoom}
use Rattle.sm_service.specs.steps.WalkStarts.{roots_of}
use Rattle.sm_service.proofs.serving.served_from.Given as goal

abbrev pub invariant-loop-start : goal.invariant-loop-start
invariant-loop-start l = record {
  room : IsServingRoom l.graph l.room;
  told : (s : Served) → TellsAllServed (maps_of l.graph) (roots_of l.graph (drop l.start-index l.starts)) s
      → TellsAllServed (maps_of l.graph) (roots_of l.graph l.starts) s;
}
