use Rattle.std.proofs.Common.{get_or}
use Rattle.std.proofs.lemmas.List.Elements.{Contains-get_or}
use Rattle.sm_model.specs.GraphView.{maps_of}
use Rattle.sm_model.specs.Reaching.{id_of_number}
use Rattle.sm_compile.specs.steps.Numbered.{numbering}
use Rattle.sm_service.specs.Compiled.{SaysError}
use Rattle.sm_service.proofs.RowsTold.{row_more}
use Rattle.sm_service.proofs.operation_errors.error_rows.Goals as goal

pub error_row-requires : goal.error_row-requires
error_row-requires c =
    let ks = c.args.numbers.now in
    let i = c.loop-number.number-index in
    let at = c.requires.errors (get_or ks i 0) (Contains-get_or ks i 0 c.loop-number-test.true) in
    record {
      number = c.requires.rows.numbers (get_or ks i 0) at.0;
      few = c.requires.rows.few;
      rise = c.requires.rows.rise;
      there = at.0;
      status = at.1;
    }

pub loop-number-preserved : goal.loop-number-preserved
loop-number-preserved c =
    let g = c.args.graph.now in
    let at = c.loop-number in
    row_more (SaysError (maps_of g) (numbering g c.args.shapes.now)) (id_of_number g) c.args.numbers.now at.number-index at.rows.items
    c.push.new.self.items c.in_ok-error_row.field-0 c.loop-number-test.true c.in_ok-push.ensures.items at.invariant c.in_ok-error_row.ensures
