use Rattle.sm_model.specs.GraphView.{maps_of}
use Rattle.sm_compile.specs.steps.Numbered.{numbering}
use Rattle.sm_service.specs.steps.OperationRows.{errors_named}
use Rattle.sm_service.proofs.NamesOfErrors.{rows_differ}
use Rattle.sm_service.proofs.operations.known_errors.Goals as goal

pub new-requires-clause-differ : goal.new-requires-clause-differ
new-requires-clause-differ c =
    let e = c.requires.errors in
    rows_differ (maps_of c.args.graph.now) (numbering c.args.graph.now c.args.shapes.now) (errors_named e.0) c.in_ok-errors.errors.items
    (c.in_ok-errors.ensures.errors e.0 e.1) e.3
