use Rattle.std.proofs.Common.{map, take}
use Rattle.sm_model.specs.GraphView.{maps_of}
use Rattle.sm_model.specs.Reaching.{id_of_number}
use Rattle.sm_compile.specs.Compiled.{EachSays}
use Rattle.sm_compile.specs.steps.Numbered.{numbering}
use Rattle.sm_service.specs.Compiled.{SaysError}
use Rattle.sm_service.proofs.operation_errors.error_rows.Given as goal

abbrev pub invariant-loop-number : goal.invariant-loop-number
invariant-loop-number l =
    EachSays (SaysError (maps_of l.graph) (numbering l.graph l.shapes)) (map (id_of_number l.graph) (take l.number-index l.numbers)) l.rows.items
