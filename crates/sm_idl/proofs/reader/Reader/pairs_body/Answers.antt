use Rattle.std.proofs.Common.{[], refl, ap}
use Rattle.sm_model.specs.SaidView.{member_statements_view, statements_view}
use Rattle.sm_idl.specs.steps.ReaderView.{left}
use Rattle.sm_idl.specs.steps.HomeView.{home_of_file}
use Rattle.sm_model.specs.RawView.{raw_view}
use Rattle.sm_idl.proofs.ReadShapes.{pairs_body_stop, pairs_body_read, same_body}
use Rattle.sm_idl.proofs.reader.Reader.pairs_body.Goals as goal

pub returns-in-Err : goal.returns-in-Err
returns-in-Err c =
    pairs_body_stop (home_of_file c.args.home.now) c.args.kind (left c.args.self.now) (left c.properties.new.self) c.in-Err.stop
    c.in-Err.ensures

pub returns-in-Ok : goal.returns-in-Ok
returns-in-Ok c =
    pairs_body_read (home_of_file c.args.home.now) c.args.kind (raw_view c.in-Ok.properties) _ (left c.args.self.now)
    (left c.properties.new.self) (same_body _ [] _ [] _ _ _ [] (ap member_statements_view c.new.ensures.items) c.new-in-Ok.ensures.items
    refl (ap statements_view c.new-in-Ok-2.ensures.items)) c.in-Ok.ensures
