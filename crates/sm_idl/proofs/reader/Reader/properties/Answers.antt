use Rattle.sm_idl.specs.steps.ReaderView.{left}
use Rattle.sm_idl.specs.steps.HomeView.{home_of_file}
use Rattle.sm_model.specs.RawView.{raw_members_view}
use Rattle.sm_idl.proofs.ReadFields.{object_open, object_within, object_close, object_read}
use Rattle.sm_model.specs.Properties.{property_forms}
use Rattle.sm_idl.specs.Bodies.{property}
use Rattle.sm_idl.proofs.reader.Reader.properties.Goals as goal

pub returns-in-Ok-mark : goal.returns-in-Ok-mark
returns-in-Ok-mark c =
    object_read (property (home_of_file c.args.home.now) (property_forms c.args.kind))
    (raw_members_view c.in-Ok-property_pairs.pairs.items) _ (left c.args.self.now) (left c.mark.new.self)
    (left c.property_pairs.new.self) (left c.mark-2.new.self) c.object_node.ensures c.in-Ok.ensures c.in-Ok-property_pairs.ensures
    c.in-Ok-mark.ensures

pub returns-in-Err : goal.returns-in-Err
returns-in-Err c =
    object_open (property (home_of_file c.args.home.now) (property_forms c.args.kind)) (left c.args.self.now) (left c.mark.new.self)
    c.in-Err.stop c.in-Err.ensures

pub returns-in-Err-property_pairs : goal.returns-in-Err-property_pairs
returns-in-Err-property_pairs c =
    object_within (property (home_of_file c.args.home.now) (property_forms c.args.kind)) (left c.args.self.now) (left c.mark.new.self)
    (left c.property_pairs.new.self) c.in-Err-property_pairs.stop c.in-Ok.ensures c.in-Err-property_pairs.ensures

pub returns-in-Err-mark : goal.returns-in-Err-mark
returns-in-Err-mark c =
    object_close (property (home_of_file c.args.home.now) (property_forms c.args.kind))
    (raw_members_view c.in-Ok-property_pairs.pairs.items) (left c.args.self.now) (left c.mark.new.self) (left c.property_pairs.new.self)
    (left c.mark-2.new.self) c.in-Err-mark.stop c.in-Ok.ensures c.in-Ok-property_pairs.ensures c.in-Err-mark.ensures
