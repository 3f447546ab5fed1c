use Rattle.std.proofs.Common.{◌++◌, ◌∷◌, [], cond, ap, subst, sym, ◌∙◌, arith}
use Rattle.sm_model.specs.GraphView.{AreShapeNumbers, IsShapeNumber}
use Rattle.sm_compile.proofs.ReachedNumbers.{numbers_joined}
use Rattle.sm_service.specs.steps.OperationRows.{is_marked_operation}
use Rattle.sm_service.proofs.OperationsNamed.{number_put, operations_more}
use Rattle.sm_service.proofs.operation_numbers.marked_operations.Goals as goal

pub loop-number-preserved : goal.loop-number-preserved
loop-number-preserved c =
    let g = c.args.graph.now in
    let marks = c.args.marks.now in
    let n = c.loop-number.number in
    let old = c.loop-number.numbers.items in
    let more = cond (is_marked_operation g marks n) (n ∷ []) [] in
    let lt : IsShapeNumber g n = omega (arith, c.loop-number-test.true, c.count-number-end.ensures) in
    record {
      numbers = subst (AreShapeNumbers g) (sym c.in_ok-put_operation.ensures)
          (numbers_joined g old more c.loop-number.invariant.numbers (number_put g n (is_marked_operation g marks n) lt));
      are = c.in_ok-put_operation.ensures ∙ ap (λ xs. xs ++ more) c.loop-number.invariant.are ∙ sym (operations_more g marks n);
    }
