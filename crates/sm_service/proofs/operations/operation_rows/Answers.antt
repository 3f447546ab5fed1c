use Rattle.std.proofs.Common.{[], ◌∷◌, get_or, map, ap, ◌∙◌}
use Rattle.std.proofs.lemmas.List.{map-append}
use Rattle.std.proofs.lemmas.List.Elements.{Contains-get_or}
use Rattle.sm_model.specs.Reaching.{id_of_number}
use Rattle.sm_service.specs.ServiceView.{operation_data}
use Rattle.sm_service.specs.steps.OperationRows.{TellsOperation}
use Rattle.sm_service.proofs.RowsTold.{row_more}
use Rattle.sm_service.proofs.operations.operation_rows.Goals as goal

pub operation_row-requires-clause-operation : goal.operation_row-requires-clause-operation
operation_row-requires-clause-operation c =
    let ks = c.args.operations.now in
    let i = c.loop-operation.operation-index in
    c.requires.operations (get_or ks i 0) (Contains-get_or ks i 0 c.loop-operation-test.true)

pub loop-operation-preserved : goal.loop-operation-preserved
loop-operation-preserved c =
    let g = c.args.graph.now in
    let at = c.loop-operation in
    record {
      marks = c.in-Ok.ensures.marks;
      room = c.in-Ok.ensures.room;
      rows = row_more (TellsOperation g c.args.shapes.now c.args.shared.now.known.value) (id_of_number g) c.args.operations.now at.operation-index
          (map operation_data at.rows.items) (map operation_data c.push.new.self.items) (operation_data c.in-Ok.row)
          c.loop-operation-test.true
          (ap (map operation_data) c.in_ok-push-in-Ok.ensures.items ∙ map-append operation_data at.rows.items (c.in-Ok.row ∷ []))
          at.invariant.rows c.in-Ok.ensures.row;
    }
