use Rattle.sm_idl.specs.steps.HomeView.{home_of_file}
use Rattle.sm_idl.specs.steps.ReaderView.{left}
use Rattle.sm_idl.proofs.ReadIds.{ids_open, ids_within, ids_close, ids_listed}
use Rattle.sm_idl.proofs.reader.Reader.listed_ids.Goals as goal

pub returns-in-Ok-mark : goal.returns-in-Ok-mark
returns-in-Ok-mark c =
    ids_listed (home_of_file c.args.home.now) c.in-Ok-ids.ensures.0 c.in-Ok-ids.ids.items (left c.args.self.now) (left c.mark.new.self)
    (left c.ids.new.self) (left c.mark-2.new.self) c.in-Ok-ids.ensures.1 c.in-Ok.ensures c.in-Ok-ids.ensures.2 c.in-Ok-mark.ensures

pub returns-in-Err : goal.returns-in-Err
returns-in-Err c = ids_open (home_of_file c.args.home.now) (left c.args.self.now) (left c.mark.new.self) c.in-Err.stop c.in-Err.ensures

pub returns-in-Err-ids : goal.returns-in-Err-ids
returns-in-Err-ids c =
    ids_within (home_of_file c.args.home.now) (left c.args.self.now) (left c.mark.new.self) (left c.ids.new.self) c.in-Err-ids.stop
    c.in-Ok.ensures c.in-Err-ids.ensures

pub returns-in-Err-mark : goal.returns-in-Err-mark
returns-in-Err-mark c =
    ids_close (home_of_file c.args.home.now) c.in-Ok-ids.ensures.0 (left c.args.self.now) (left c.mark.new.self) (left c.ids.new.self)
    (left c.mark-2.new.self) c.in-Err-mark.stop c.in-Ok.ensures c.in-Ok-ids.ensures.2 c.in-Err-mark.ensures
