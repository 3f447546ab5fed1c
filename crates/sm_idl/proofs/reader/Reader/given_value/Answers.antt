use Rattle.sm_model.specs.RawView.{raw_view}
use Rattle.sm_idl.specs.steps.Firm.{HeadIs}
use Rattle.sm_idl.specs.steps.Classes.{Equals}
use Rattle.sm_idl.specs.steps.HomeView.{home_of_file}
use Rattle.sm_idl.specs.steps.ReaderView.{left}
use Rattle.sm_idl.proofs.NodeRows.{refused}
use Rattle.sm_idl.proofs.ReadValues.{value_none, value_some, value_stop}
use Rattle.sm_idl.proofs.reader.Reader.given_value.Goals as goal

pub returns-in-Ok : goal.returns-in-Ok
returns-in-Ok c =
    value_some (home_of_file c.args.home.now) (raw_view c.in-Ok.node) (left c.args.self.now) (left c.equals_node.new.self) c.in-Ok.ensures

pub returns-in-Err : goal.returns-in-Err
returns-in-Err c =
    value_stop (home_of_file c.args.home.now) (left c.args.self.now) (left c.equals_node.new.self) c.in-Err.stop
    (c.is_at_mark.ensures.0 c.if-is_at_mark.true) c.in-Err.ensures

pub returns : goal.returns
returns c =
    value_none (home_of_file c.args.home.now) (left c.args.self.now)
    (refused c.is_at_mark.result (HeadIs Equals (left c.args.self.now)) c.is_at_mark.ensures c.if-is_at_mark.false)
