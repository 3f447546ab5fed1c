use Rattle.sm_idl.specs.steps.ReaderView.{left}
use Rattle.sm_idl.specs.steps.HomeView.{home_of_file}
use Rattle.sm_idl.specs.steps.PartSteps.{suffixes_view}
use Rattle.sm_model.specs.SaidView.{traits_view, statements_view}
use Rattle.sm_idl.proofs.ReadShapes.{shape_documented}
use Rattle.sm_idl.proofs.reader.Reader.shape.Goals as goal

pub returns-in-Ok : goal.returns-in-Ok
returns-in-Ok c =
    shape_documented (home_of_file c.args.home.now) (suffixes_view c.args.endings.now) c.in-Ok.ensures.0
    (traits_view c.in-Ok.docs.items) (statements_view c.args.statements.now.items) (statements_view c.shape_with.new.statements.items)
    (left c.args.self.now) (left c.shape_with.new.self) c.shape_with.result c.in-Ok.ensures.2 c.in-Ok.ensures.1 c.shape_with.ensures
