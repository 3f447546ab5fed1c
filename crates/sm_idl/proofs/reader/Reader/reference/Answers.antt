use Rattle.sm_idl.specs.steps.ReaderView.{left}
use Rattle.sm_idl.specs.steps.HomeView.{home_of_file}
use Rattle.sm_idl.proofs.ReadFields.{reference_stop, reference_made}
use Rattle.sm_idl.proofs.reader.Reader.reference.Goals as goal

pub returns-in-Err : goal.returns-in-Err
returns-in-Err c =
    reference_stop (home_of_file c.args.home.now) (left c.args.self.now) (left c.node_id.new.self) c.in-Err.stop c.in-Err.ensures

pub returns-in-Ok-reference : goal.returns-in-Ok-reference
returns-in-Ok-reference c =
    reference_made (home_of_file c.args.home.now) c.in-Ok.word.now c.in-Ok-reference.id _ (left c.args.self.now)
    (left c.node_id.new.self) c.id_node.ensures c.in-Ok-reference.ensures c.in-Ok.ensures
