use Rattle.std.proofs.Common.{[], refl, ap}
use Rattle.sm_model.specs.Raw.{empty_raw}
use Rattle.sm_model.specs.SaidView.{member_statements_view, statements_view}
use Rattle.sm_idl.specs.steps.ReaderView.{left}
use Rattle.sm_idl.specs.steps.HomeView.{home_of_file}
use Rattle.sm_idl.proofs.ReadShapes.{simple_stop, simple_read, same_body}
use Rattle.sm_idl.proofs.reader.Reader.simple_body.Goals as goal

pub returns-in-Err : goal.returns-in-Err
returns-in-Err c = simple_stop (home_of_file c.args.home.now) (left c.args.self.now) (left c.mixins.new.self) c.in-Err.stop c.in-Err.ensures

pub returns-in-Ok : goal.returns-in-Ok
returns-in-Ok c =
    simple_read (home_of_file c.args.home.now) c.in-Ok.mixins.items _ (left c.args.self.now) (left c.mixins.new.self)
    (same_body _ [] _ _ _ empty_raw _ [] (ap member_statements_view c.new.ensures.items) refl c.empty_node.ensures
    (ap statements_view c.new-in-Ok.ensures.items)) c.in-Ok.ensures
