use Rattle.sm_idl.specs.steps.ReaderView.{left}
use Rattle.sm_idl.specs.steps.HomeView.{home_of_file}
use Rattle.sm_model.specs.RawView.{raws_view}
use Rattle.sm_idl.proofs.ReadFields.{list_open, list_within, list_close, list_read}
use Rattle.sm_idl.proofs.reader.Reader.references.Goals as goal

pub returns-in-Ok-mark : goal.returns-in-Ok-mark
returns-in-Ok-mark c =
    list_read (home_of_file c.args.home.now) (raws_view c.in-Ok-reference_items.items.items) _ (left c.args.self.now)
    (left c.mark.new.self) (left c.reference_items.new.self) (left c.mark-2.new.self) c.list_node.ensures c.in-Ok.ensures
    c.in-Ok-reference_items.ensures c.in-Ok-mark.ensures

pub returns-in-Err : goal.returns-in-Err
returns-in-Err c = list_open (home_of_file c.args.home.now) (left c.args.self.now) (left c.mark.new.self) c.in-Err.stop c.in-Err.ensures

pub returns-in-Err-reference_items : goal.returns-in-Err-reference_items
returns-in-Err-reference_items c =
    list_within (home_of_file c.args.home.now) (left c.args.self.now) (left c.mark.new.self) (left c.reference_items.new.self)
    c.in-Err-reference_items.stop c.in-Ok.ensures c.in-Err-reference_items.ensures

pub returns-in-Err-mark : goal.returns-in-Err-mark
returns-in-Err-mark c =
    list_close (home_of_file c.args.home.now) (raws_view c.in-Ok-reference_items.items.items) (left c.args.self.now)
    (left c.mark.new.self) (left c.reference_items.new.self) (left c.mark-2.new.self) c.in-Err-mark.stop c.in-Ok.ensures
    c.in-Ok-reference_items.ensures c.in-Err-mark.ensures
