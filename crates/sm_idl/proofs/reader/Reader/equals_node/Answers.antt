use Rattle.sm_idl.specs.steps.HomeView.{home_of_file}
use Rattle.sm_idl.specs.steps.ReaderView.{left}
use Rattle.sm_idl.proofs.ReadValues.{stops_at_equals, stops_in_value}
use Rattle.sm_idl.proofs.reader.Reader.equals_node.Goals as goal

pub returns-in-Err : goal.returns-in-Err
returns-in-Err c =
    stops_at_equals (home_of_file c.args.home.now) (left c.args.self.now) (left c.mark.new.self) c.in-Err.stop c.in-Err.ensures

pub returns-in-Err-node : goal.returns-in-Err-node
returns-in-Err-node c =
    stops_in_value (home_of_file c.args.home.now) (left c.args.self.now) (left c.mark.new.self) (left c.node.new.self) c.in-Err-node.stop
    c.in-Ok.ensures c.in-Err-node.ensures
