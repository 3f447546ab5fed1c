use Rattle.sm_idl.specs.steps.ReaderView.{left}
use Rattle.sm_idl.specs.steps.HomeView.{home_of_file}
use Rattle.sm_idl.specs.steps.Firm.{HeadIs}
use Rattle.sm_idl.proofs.NodeRows.{refused}
use Rattle.sm_idl.specs.steps.PartSteps.{suffixes_view}
use Rattle.sm_model.specs.SaidView.{statements_view}
use Rattle.sm_idl.specs.steps.FileClasses.{ItemStart}
use Rattle.sm_idl.proofs.ReadShapes.{items_none, items_more, items_fewer, items_read, items_stop}
use Rattle.sm_idl.proofs.reader.Reader.statements.Goals as goal

pub loop-alloc-init : goal.loop-alloc-init
loop-alloc-init c =
    items_none (home_of_file c.args.home.now) (suffixes_view c.args.endings.now) (statements_view c.args.statements.now.items)
    (left c.args.self.now)

pub loop-alloc-smaller : goal.loop-alloc-smaller
loop-alloc-smaller c =
    items_fewer (home_of_file c.args.home.now) (suffixes_view c.args.endings.now) c.in-Ok.ensures.0 (left c.loop-alloc.self)
    (left c.item.new.self) c.in-Ok.ensures.2

pub loop-alloc-preserved : goal.loop-alloc-preserved
loop-alloc-preserved c =
    items_more (home_of_file c.args.home.now) (suffixes_view c.args.endings.now) (statements_view c.args.statements.now.items)
    (statements_view c.loop-alloc.statements.items) (statements_view c.item.new.statements.items) (left c.args.self.now)
    (left c.loop-alloc.self) (left c.item.new.self) c.loop-alloc.invariant c.in-Ok.ensures

pub returns-in-Err : goal.returns-in-Err
returns-in-Err c =
    items_stop (home_of_file c.args.home.now) (suffixes_view c.args.endings.now) (statements_view c.args.statements.now.items)
    (statements_view c.loop-alloc.statements.items) (left c.args.self.now) (left c.loop-alloc.self) (left c.item.new.self) c.in-Err.stop
    c.loop-alloc.invariant (c.is_at_item.ensures.0 c.loop-alloc-test.true) c.in-Err.ensures

pub returns : goal.returns
returns c =
    items_read (home_of_file c.args.home.now) (suffixes_view c.args.endings.now) (statements_view c.args.statements.now.items)
    (statements_view c.loop-alloc.statements.items) (left c.args.self.now) (left c.loop-alloc.self) c.loop-alloc.invariant
    (refused c.is_at_item.result (HeadIs ItemStart (left c.loop-alloc.self)) c.is_at_item.ensures c.loop-alloc-test.false)
