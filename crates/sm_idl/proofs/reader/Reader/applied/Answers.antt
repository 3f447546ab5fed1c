use Rattle.std.specs.Option.{option_map}
use Rattle.sm_model.specs.RawView.{raw_view}
use Rattle.sm_idl.specs.steps.HomeView.{home_of_file}
use Rattle.sm_idl.specs.steps.ReaderView.{left, maybe_raw}
use Rattle.sm_idl.proofs.ReadTraits.{stops_at_sign, stops_at_id, stops_at_given, applied_made}
use Rattle.sm_idl.proofs.reader.Reader.applied.Goals as goal

pub returns-in-Err : goal.returns-in-Err
returns-in-Err c = stops_at_sign (home_of_file c.args.home.now) (left c.args.self.now) (left c.mark.new.self) c.in-Err.stop c.in-Err.ensures

pub returns-in-Err-id : goal.returns-in-Err-id
returns-in-Err-id c =
    stops_at_id (home_of_file c.args.home.now) (left c.args.self.now) (left c.mark.new.self) (left c.id.new.self) c.in-Err-id.stop
    c.in-Ok.ensures c.in-Err-id.ensures

pub returns-in-Err-given : goal.returns-in-Err-given
returns-in-Err-given c =
    stops_at_given (home_of_file c.args.home.now) c.in-Ok-id.word.now (left c.args.self.now) (left c.mark.new.self) (left c.id.new.self)
    (left c.given.new.self) c.in-Err-given.stop c.in-Ok.ensures c.in-Ok-id.ensures c.in-Err-given.ensures

pub returns-in-Ok-reference : goal.returns-in-Ok-reference
returns-in-Ok-reference c =
    applied_made (home_of_file c.args.home.now) c.in-Ok-id.word.now (option_map maybe_raw c.in-Ok-given.given)
    (record { id = c.in-Ok-reference.id; value = raw_view c.argument_value.result }) (left c.args.self.now) (left c.mark.new.self)
    (left c.id.new.self) (left c.given.new.self) c.in-Ok-reference.ensures c.argument_value.ensures c.in-Ok.ensures c.in-Ok-id.ensures
    c.in-Ok-given.ensures
