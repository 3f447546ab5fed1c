use Rattle.std.proofs.Common.{sym, subst, length}
use Rattle.sm_model.specs.GraphView.{entries_of, maps_of}
use Rattle.sm_model.specs.Reaching.{AreMarks, id_of_number}
use Rattle.sm_model.specs.declared.relation.Relation.TheVariants.{Input, Output, Error}
use Rattle.sm_rules.specs.Bindings.{IsHttpOperation}
use Rattle.sm_http_rules.specs.Sides.{MayErr}
use Rattle.sm_http_rules.proofs.BoundSides.{errors_marked, from_marked, operations_marked}
use Rattle.sm_http_rules.proofs.sides.Sides.new.Goals as goal

pub failing-requires-clause-operations : goal.failing-requires-clause-operations
failing-requires-clause-operations c =
    operations_marked c.args.graph.now c.in_ok-operations.operations.items c.as_slice.result.now c.as_slice.ensures.value
    c.in_ok-operations.ensures

pub returns : goal.returns
returns c =
    let g = c.args.graph.now in
    let ops = c.in_ok-operations.operations.items in
    let told = c.in_ok-operations.ensures in
    record {
      are_inputs = from_marked g (IsHttpOperation (maps_of g)) Input c.as_slice-2.result.now c.in_ok-inputs.inputs.items
          (operations_marked g ops c.as_slice-2.result.now c.as_slice-2.ensures.value told) c.in_ok-inputs.ensures;
      are_outputs = from_marked g (IsHttpOperation (maps_of g)) Output c.as_slice-3.result.now c.in_ok-outputs.outputs.items
          (operations_marked g ops c.as_slice-3.result.now c.as_slice-3.ensures.value told) c.in_ok-outputs.ensures;
      are_errors = errors_marked g c.in_ok-errors.errors.items
          (from_marked g (MayErr (maps_of g)) Error c.as_slice-4.result.now c.in_ok-errors.errors.items
          (subst (AreMarks (length (entries_of g)) (λ k. MayErr (maps_of g) (id_of_number g k))) (sym c.as_slice-4.ensures.value)
          c.in_ok-failing.ensures) c.in_ok-errors.ensures);
    }
