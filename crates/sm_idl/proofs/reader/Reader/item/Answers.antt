use Rattle.sm_idl.specs.steps.ReaderView.{left}
use Rattle.sm_idl.specs.steps.HomeView.{home_of_file}
use Rattle.sm_idl.specs.steps.Firm.{HeadIs}
use Rattle.sm_idl.proofs.NodeRows.{refused}
use Rattle.sm_idl.specs.steps.PartSteps.{suffixes_view}
use Rattle.sm_model.specs.SaidView.{statement_view, statements_view}
use Rattle.sm_idl.specs.steps.FileClasses.{Apply}
use Rattle.sm_idl.proofs.ReadShapes.{item_shape, item_apply, item_apply_stop}
use Rattle.sm_idl.proofs.reader.Reader.item.Goals as goal

pub returns-in-Ok-put : goal.returns-in-Ok-put
returns-in-Ok-put c =
    item_apply (home_of_file c.args.home.now) (suffixes_view c.args.endings.now) (statement_view c.in-Ok.applied)
    (statements_view c.args.statements.now.items) (statements_view c.put.new.statements.items) (left c.args.self.now)
    (left c.apply.new.self) c.in-Ok-put.ensures c.in-Ok.ensures

pub returns-in-Err : goal.returns-in-Err
returns-in-Err c =
    item_apply_stop (home_of_file c.args.home.now) (suffixes_view c.args.endings.now) (left c.args.self.now) (left c.apply.new.self)
    c.in-Err.stop (c.is_at_word.ensures.0 c.if-is_at_word.true) c.in-Err.ensures

pub returns : goal.returns
returns c =
    item_shape (home_of_file c.args.home.now) (suffixes_view c.args.endings.now) (statements_view c.args.statements.now.items)
    (statements_view c.shape.new.statements.items) (left c.args.self.now) (left c.shape.new.self) c.shape.result
    (refused c.is_at_word.result (HeadIs Apply (left c.args.self.now)) c.is_at_word.ensures c.if-is_at_word.false) c.shape.ensures
