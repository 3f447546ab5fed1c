use Rattle.sm_idl.specs.steps.ReaderView.{left}
use Rattle.sm_idl.specs.steps.HomeView.{home_of_file}
use Rattle.sm_model.specs.RawView.{raw_members_view}
use Rattle.sm_idl.proofs.ReadFields.{object_open, object_within, object_close, object_read}
use Rattle.sm_idl.specs.steps.FieldSteps.{under}
use Rattle.sm_idl.proofs.reader.Reader.object_under.Goals as goal

pub returns-in-Ok-mark : goal.returns-in-Ok-mark
returns-in-Ok-mark c =
    object_read (under (home_of_file c.args.home.now) c.args.renames) (raw_members_view c.in-Ok-pairs_under.pairs.items) _
    (left c.args.self.now) (left c.mark.new.self) (left c.pairs_under.new.self) (left c.mark-2.new.self) c.object_node.ensures
    c.in-Ok.ensures c.in-Ok-pairs_under.ensures c.in-Ok-mark.ensures

pub returns-in-Err : goal.returns-in-Err
returns-in-Err c =
    object_open (under (home_of_file c.args.home.now) c.args.renames) (left c.args.self.now) (left c.mark.new.self) c.in-Err.stop
    c.in-Err.ensures

pub returns-in-Err-pairs_under : goal.returns-in-Err-pairs_under
returns-in-Err-pairs_under c =
    object_within (under (home_of_file c.args.home.now) c.args.renames) (left c.args.self.now) (left c.mark.new.self)
    (left c.pairs_under.new.self) c.in-Err-pairs_under.stop c.in-Ok.ensures c.in-Err-pairs_under.ensures

pub returns-in-Err-mark : goal.returns-in-Err-mark
returns-in-Err-mark c =
    object_close (under (home_of_file c.args.home.now) c.args.renames) (raw_members_view c.in-Ok-pairs_under.pairs.items)
    (left c.args.self.now) (left c.mark.new.self) (left c.pairs_under.new.self) (left c.mark-2.new.self) c.in-Err-mark.stop
    c.in-Ok.ensures c.in-Ok-pairs_under.ensures c.in-Err-mark.ensures
