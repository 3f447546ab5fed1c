use Rattle.std.proofs.Common.{ap, sym, subst, ◌∙◌}
use Rattle.std.specs.List.{Contains}
use Rattle.sm_compile.specs.steps.Naming.{texts_of_all}
use Rattle.sm_service.specs.steps.OperationRows.{AreErrorNumbers, errors_named}
use Rattle.sm_service.proofs.NamesOfErrors.{numbers_ready, rows_at, rows_few, rows_said}
use Rattle.sm_service.proofs.ServedRoots.{if_ok}
use Rattle.sm_service.proofs.operation_errors.named_errors.Goals as goal

pub numbers_once-requires-clause-there : goal.numbers_once-requires-clause-there
numbers_once-requires-clause-there c id there =
    let s = c.requires.errors in
    (s.2 id (subst (λ ids. Contains ids id) (ap texts_of_all c.as_slice.ensures.value ∙ c.in_ok-ids.ensures s.0 s.1) there)).0

pub error_rows-requires-clause-errors : goal.error_rows-requires-clause-errors
error_rows-requires-clause-errors c =
    let s = c.requires.errors in
    let g = c.args.graph.now in
    subst (AreErrorNumbers g c.args.shapes.now) (sym c.as_slice-2.ensures.value)
    (numbers_ready g c.args.shapes.now (texts_of_all c.as_slice.result.now) c.in_ok-numbers.numbers.items c.in_ok-numbers.ensures.named
    (λ id there. s.2 id (subst (λ ids. Contains ids id) (ap texts_of_all c.as_slice.ensures.value ∙ c.in_ok-ids.ensures s.0 s.1) there)))

pub returns-clause-marks : goal.returns-clause-marks
returns-clause-marks c = if_ok c.error_rows.result (λ rows told. c.in_ok-numbers.ensures.marks) c.error_rows.ensures

pub returns-clause-errors : goal.returns-clause-errors
returns-clause-errors c =
    let g = c.args.graph.now in
    if_ok c.error_rows.result
    (λ rows told. λ s has. rows_said g c.args.shapes.now (texts_of_all c.as_slice.result.now) c.in_ok-numbers.numbers.items
    c.in_ok-numbers.ensures.named rows.items (rows_at g c.args.shapes.now c.as_slice-2.ensures.value rows.items told) (errors_named s)
    (ap texts_of_all c.as_slice.ensures.value ∙ c.in_ok-ids.ensures s has))
    c.error_rows.ensures

pub returns-clause-few : goal.returns-clause-few
returns-clause-few c =
    let g = c.args.graph.now in
    if_ok c.error_rows.result
    (λ rows told. rows_few g c.args.shapes.now (texts_of_all c.as_slice.result.now) c.in_ok-numbers.numbers.items
    c.in_ok-numbers.ensures.named rows.items (rows_at g c.args.shapes.now c.as_slice-2.ensures.value rows.items told))
    c.error_rows.ensures
